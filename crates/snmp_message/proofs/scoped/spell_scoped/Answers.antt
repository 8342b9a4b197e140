use Rattle.std.proofs.Common.{◌≡◌, ℕ, List, [], ◌++◌, length, ap, sym, ◌∙◌, rules}
use Rattle.snmp_ber.specs.Spelling.{head_of, element}
use Rattle.snmp_message.specs.Scoped.{contexts_text, scoped_text}
use Rattle.snmp_message.proofs.Appends.{three_appended}
use Rattle.snmp_message.proofs.Scopeds.{contexts_joined, contexts_text-length}
use Rattle.snmp_message.proofs.scoped.spell_scoped.Goals as goal

pub returns : goal.returns
unfolding scoped_text
returns c =
    let engine = c.args.engine.now in
    let name = c.args.name.now in
    let pdu = c.args.pdu.now in
    let content = contexts_text engine name pdu in
    let size : c.contexts_len.result ≡ length content = c.contexts_len.ensures.size ∙ sym (contexts_text-length engine name pdu) in
    let empty : c.in_ok-out.out.items ≡ [] = search rules in
    let first : c.put_head.new.out.items ≡ c.in_ok-out.out.items ++ head_of 48 (length content) = rw size at c.in_ok-put_head.ensures.ok in
    let second : c.put_contexts.new.out.items ≡ c.put_head.new.out.items ++ (element 4 engine ++ element 4 name) = c.in_ok-put_contexts.ensures.ok in
    let third : c.extend_from_slice.new.self.items ≡ c.put_contexts.new.out.items ++ pdu = c.in_ok-extend_from_slice.ensures.items in
    let all = three_appended c.in_ok-out.out.items c.put_head.new.out.items c.put_contexts.new.out.items c.extend_from_slice.new.self.items (head_of 48 (length content)) (element 4 engine ++ element 4 name) pdu first second third in
    all ∙ ap (λ (t : List ℕ). t ++ (head_of 48 (length content) ++ ((element 4 engine ++ element 4 name) ++ pdu))) empty ∙ ap (λ (t : List ℕ). head_of 48 (length content) ++ t) (sym (contexts_joined engine name pdu))

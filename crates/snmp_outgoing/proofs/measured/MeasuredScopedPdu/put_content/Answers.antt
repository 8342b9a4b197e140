use Rattle.std.proofs.Common.{◌≡◌, ◌++◌, ℕ, List, ap, sym, ◌∙◌, append_assoc, rules, w32, SFits}
use Rattle.std.specs.Prelude.{map}
use Rattle.std.proofs.lemmas.Int.{to_z-of_z}
use Rattle.snmp_ber.specs.Spelling.{element}
use Rattle.snmp_message.proofs.Scopeds.{contexts_joined}
use Rattle.snmp_msg.specs.Pdu.{pdu_text}
use Rattle.snmp_outgoing.specs.Bodies.{pdu_after, contexts_after}
use Rattle.snmp_outgoing.proofs.measured.MeasuredScopedPdu.put_content.Goals as goal

pub returns : goal.returns
returns g c =
    let f = c.args.self.now.front in
    let vs = map g.B.Spelled.says c.args.self.now.bindings.now in
    let out = c.args.out.now.items in
    let contexts = element 4 f.context_engine.now ++ element 4 f.context_name.now in
    let pdu = pdu_text (pdu_after f vs) in
    let first : c.put_contexts.new.out.items ≡ out ++ contexts = c.in_ok-put_contexts.ensures.ok in
    let id : SFits w32 f.id = search rules in
    let number : SFits w32 f.second = search rules in
    let last : SFits w32 f.third = search rules in
    let second : c.put_pdu_of.new.out.items ≡ c.put_contexts.new.out.items ++ pdu =
    rw (to_z-of_z w32 f.id id, to_z-of_z w32 f.second number, to_z-of_z w32 f.third last) at c.in_ok-put_pdu_of.ensures.ok in
    let all : c.put_pdu_of.new.out.items ≡ out ++ contexts_after f vs =
    second ∙ ap (λ (t : List ℕ). t ++ pdu) first ∙ append_assoc out contexts pdu ∙ ap (λ (t : List ℕ). out ++ t) (sym (contexts_joined f.context_engine.now f.context_name.now pdu)) in
    record { ok = all }

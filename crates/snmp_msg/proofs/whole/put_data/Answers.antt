use Rattle.std.proofs.Common.{◌≡◌, ℕ, List, ◌++◌, length, ap, sym, ◌∙◌}
use Rattle.snmp_ber.specs.Spelling.{head_of, element}
use Rattle.snmp_message.specs.Scoped.{contexts_text}
use Rattle.snmp_msg.specs.Pdu.{pdu_of, pdu_text, respelled}
use Rattle.snmp_message.proofs.Appends.{three_appended}
use Rattle.snmp_message.proofs.Scopeds.{contexts_joined}
use Rattle.snmp_msg.proofs.whole.put_data.Goals as goal

pub returns-in_ok-put_pdu-in-Plain : goal.returns-in_ok-put_pdu-in-Plain
returns-in_ok-put_pdu-in-Plain c =
    let engine = c.in-Plain.scoped.engine.now in
    let name = c.in-Plain.scoped.name.now in
    let pdu = pdu_text (respelled (pdu_of c.in-Plain.pdu)) in
    let content = contexts_text engine name pdu in
    let size : c.data_len-size.result ≡ length content = rw c.in-Plain.is at c.data_len-size.ensures.size in
    let first : c.put_head.new.out.items ≡ c.args.out.now.items ++ head_of 48 (length content) = rw size at c.in_ok-put_head-in-Plain.ensures.ok in
    let second : c.put_contexts.new.out.items ≡ c.put_head.new.out.items ++ (element 4 engine ++ element 4 name) = c.in_ok-put_contexts-in-Plain.ensures.ok in
    let third : c.put_pdu.new.out.items ≡ c.put_contexts.new.out.items ++ pdu = c.in_ok-put_pdu-in-Plain.ensures.ok in
    let all = three_appended c.args.out.now.items c.put_head.new.out.items c.put_contexts.new.out.items c.put_pdu.new.out.items (head_of 48 (length content)) (element 4 engine ++ element 4 name) pdu first second third in
    let joined : c.put_pdu.new.out.items ≡ c.args.out.now.items ++ element 48 content = all ∙ ap (λ (t : List ℕ). c.args.out.now.items ++ (head_of 48 (length content) ++ t)) (sym (contexts_joined engine name pdu)) in
    record { ok = rw c.in-Plain.is joined }

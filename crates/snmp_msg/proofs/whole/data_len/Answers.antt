use Rattle.std.proofs.Common.{◌≡◌, ℕ, length, ap, sym, ◌∙◌}
use Rattle.snmp_message.specs.Scoped.{contexts_size}
use Rattle.snmp_msg.specs.Pdu.{pdu_of, pdu_text, respelled}
use Rattle.snmp_message.proofs.Scopeds.{contexts_text-length}
use Rattle.snmp_msg.proofs.Pdus.{measured_pdu}
use Rattle.snmp_msg.proofs.whole.data_len.Goals as goal

pub returns-in-Plain-clause-size : goal.returns-in-Plain-clause-size
returns-in-Plain-clause-size c =
    let engine = c.in-Plain.scoped.engine.now in
    let name = c.in-Plain.scoped.name.now in
    let p = respelled (pdu_of c.in-Plain.pdu) in
    let measured = rw c.in-Plain.is at c.requires in
    let pdu_size = measured_pdu p c.in-Plain.list_len c.pdu_len.result measured.2.is c.pdu_len.ensures.size in
    let size : c.contexts_len.result ≡ contexts_size (length engine) (length name) c.pdu_len.result = c.contexts_len.ensures.size in
    let all = size ∙ ap (λ (n : ℕ). contexts_size (length engine) (length name) n) (sym pdu_size) ∙ sym (contexts_text-length engine name (pdu_text p)) in
    rw c.in-Plain.is all

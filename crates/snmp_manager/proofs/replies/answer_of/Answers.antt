use Rattle.std.proofs.Common.{◌≡◌, ◌∙◌, sym}
use Rattle.snmp_message.specs.Scoped.{contexts_of}
use Rattle.snmp_msg.specs.Pdu.{pdu_of}
use Rattle.snmp_incoming.specs.Texts.{text_of}
use Rattle.snmp_manager.proofs.replies.answer_of.Goals as goal

pub returns-then-is_response : goal.returns-then-is_response
returns-then-is_response c = λ s p front is_pdu.
    let same_s : contexts_of c.scoped-scoped.result ≡ s = c.one_content.ensures.front (text_of c.args.taken.now.text) (contexts_of c.scoped-scoped.result) s c.scoped-scoped.ensures front in
    let same_p : pdu_of c.pdu-pdu.result ≡ p = c.one_pdu.ensures.pdu s.pdu (pdu_of c.pdu-pdu.result) p (c.pdu-pdu.ensures.is_pdu s front) is_pdu in
    rw (← same_s, ← same_p) c.if-is_response.ensures

pub returns-then-pdu-tag : goal.returns-then-pdu-tag
returns-then-pdu-tag c = λ s p front is_pdu.
    let same_s : contexts_of c.scoped-scoped.result ≡ s = c.one_content.ensures.front (text_of c.args.taken.now.text) (contexts_of c.scoped-scoped.result) s c.scoped-scoped.ensures front in
    let same_p : pdu_of c.pdu-pdu.result ≡ p = c.one_pdu.ensures.pdu s.pdu (pdu_of c.pdu-pdu.result) p (c.pdu-pdu.ensures.is_pdu s front) is_pdu in
    rw (← same_s, ← same_p) (c.if-is_response.ensures, λ w. c.if-pdu-tag.true (w.1 ∙ sym c.tag.ensures.value))

pub returns : goal.returns
returns c = λ s p front is_pdu.
    let same_p : pdu_of c.pdu-pdu.result ≡ p = c.one_pdu.ensures.pdu s.pdu (pdu_of c.pdu-pdu.result) p (c.pdu-pdu.ensures.is_pdu s front) is_pdu in
    rw (← same_p) ((c.if-taken-pending.false, c.if-pdu-tag.false ∙ c.tag.ensures.value), c.counter_in.ensures)

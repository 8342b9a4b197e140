use Rattle.std.proofs.Common.{rules, ◌≡◌, ap, ◌∙◌, w32, SFits}
use Rattle.std.proofs.lemmas.Int.{to_z-of_z}
use Rattle.snmp_message.specs.Scoped.{Contexts, contexts_of, scoped_text}
use Rattle.snmp_msg.specs.Pdu.{PduParts, pdu_of, pdu_with, pdu_text}
use Rattle.snmp_incoming.specs.Texts.{text_of}
use Rattle.snmp_agent.proofs.response.front.Goals as goal

pub returns-clause-pdu : goal.returns-clause-pdu
returns-clause-pdu c = λ s p vs front is_pdu.
    let same_pdu : pdu_of c.pdu-pdu.result ≡ p = c.one_pdu.ensures.pdu s.pdu (pdu_of c.pdu-pdu.result) p (c.pdu-pdu.ensures.is_pdu s front) is_pdu in
    let status = c.args.response.now.status in
    let index = c.args.response.now.index in
    let fits : SFits w32 c.pdu-pdu.result.id = search rules in
    let fits_status : SFits w32 status = search rules in
    let fits_index : SFits w32 index = search rules in
    rw (c.tag.ensures.value, to_z-of_z w32 c.pdu-pdu.result.id fits, to_z-of_z w32 status fits_status, to_z-of_z w32 index fits_index) (ap (λ (q : PduParts). pdu_with 162 q.id status index vs) same_pdu)

pub returns-clause-scoped : goal.returns-clause-scoped
returns-clause-scoped c = λ s p vs front is_pdu.
    let same : contexts_of c.scoped-scoped.result ≡ s = c.one_content.ensures.front (text_of c.args.taken.now.text) (contexts_of c.scoped-scoped.result) s c.scoped-scoped.ensures front in
    let same_pdu : pdu_of c.pdu-pdu.result ≡ p = c.one_pdu.ensures.pdu s.pdu (pdu_of c.pdu-pdu.result) p (c.pdu-pdu.ensures.is_pdu s front) is_pdu in
    let status = c.args.response.now.status in
    let index = c.args.response.now.index in
    let fits : SFits w32 c.pdu-pdu.result.id = search rules in
    let fits_status : SFits w32 status = search rules in
    let fits_index : SFits w32 index = search rules in
    rw (c.tag.ensures.value, to_z-of_z w32 c.pdu-pdu.result.id fits, to_z-of_z w32 status fits_status, to_z-of_z w32 index fits_index)
    (ap (λ (k : Contexts). scoped_text k.engine k.name (pdu_text (pdu_with 162 c.pdu-pdu.result.id status index vs))) same
    ∙ ap (λ (q : PduParts). scoped_text s.engine s.name (pdu_text (pdu_with 162 q.id status index vs))) same_pdu)

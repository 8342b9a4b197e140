use Rattle.std.proofs.Common.{rules, ◌≡◌, true, sym, subst, ◌∙◌, ap, inl, to_z, of_z, w32, SFits}
use Rattle.std.proofs.lemmas.Int.{to_z-of_z}
use Rattle.snmp_message.specs.Message.{parts}
use Rattle.snmp_msg.specs.Pdu.{PduParts}
use Rattle.snmp_msg.specs.PduTypes.{is_confirmed}
use Rattle.snmp_agent.proofs.Requests.{same_pdu}
use Rattle.snmp_agent.proofs.reportable.copied_id.Goals as goal

pub returns-then-is_confirmed : goal.returns-then-is_confirmed
returns-then-is_confirmed c =
    let w = c.args.datagram.now in
    let m = parts c.args.layout.now.message in
    let plain = c.in-Some.ensures.0 in
    let fits : SFits w32 c.in-Some.pdu.id = search rules in
    let round : to_z w32 (of_z w32 c.in-Some.pdu.id) ≡ plain.pdu.id = to_z-of_z w32 c.in-Some.pdu.id fits ∙ sym (ap (λ (p : PduParts). p.id) c.in-Some.ensures.1) in
    let confirmed : is_confirmed plain.pdu.tag ≡ true = ap (λ (p : PduParts). is_confirmed p.tag) c.in-Some.ensures.1 ∙ sym c.is_confirmed.ensures ∙ c.if-is_confirmed.true in
    record {
      confirmed = λ p. subst (λ (q : PduParts). is_confirmed q.tag ≡ true) (same_pdu w c.one_content.ensures.scoped c.one_pdu.ensures.pdu m plain p) confirmed;
      is = inl (plain, round);
    }

pub returns-else-is_confirmed : goal.returns-else-is_confirmed
returns-else-is_confirmed c =
    let plain = c.in-Some.ensures.0 in
    (plain, ap (λ (p : PduParts). is_confirmed p.tag) c.in-Some.ensures.1 ∙ sym c.is_confirmed.ensures ∙ c.if-is_confirmed.false)

use Rattle.std.proofs.Common.{List, ℕ, sym, subst, refl}
use Rattle.snmp_message.specs.Message.{parts}
use Rattle.snmp_message.specs.Scoped.{Contexts, contexts_of}
use Rattle.snmp_msg.specs.Pdu.{PduText, pdu_of}
use Rattle.snmp_agent.proofs.reportable.plain_pdu.Goals as goal

pub returns-in-Ok : goal.returns-in-Ok
returns-in-Ok c =
    let place = rw c.in-Some.is at c.requires.place in
    let scoped = rw c.in-Some.is at c.requires.scoped in (
      record {
        contexts = contexts_of c.in-Some.scoped;
        is_scoped = scoped;
        pdu = pdu_of c.in-Ok.pdu;
        is_pdu = subst (λ (t : List ℕ). PduText t (pdu_of c.in-Ok.pdu)) (sym place) c.in-Ok.ensures.exact;
      },
      refl,
    )

pub returns-in-Err : goal.returns-in-Err
returns-in-Err c plain =
    let place = rw c.in-Some.is at c.requires.place in
    let scoped = rw c.in-Some.is at c.requires.scoped in
    let same = c.one_content.ensures.scoped c.args.datagram.now (parts c.args.layout.now.message) plain.contexts (contexts_of c.in-Some.scoped) plain.is_scoped scoped in
    let pdu = subst (λ (s : Contexts). PduText s.pdu plain.pdu) same plain.is_pdu in
    c.in-Err.ensures.none plain.pdu (subst (λ (t : List ℕ). PduText t plain.pdu) place pdu)

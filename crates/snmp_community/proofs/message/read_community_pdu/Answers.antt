use Rattle.std.proofs.Common.{ℕ, List, sym, subst}
use Rattle.std.specs.Prelude.{MatchResult, OnErr}
use Rattle.snmp_msg.specs.Pdu.{PduParts, PduText, pdu_of}
use Rattle.snmp_msg.specs.Refusals.{RefusesPdu}
use Rattle.snmp_community.specs.Message.{parts}
use Rattle.snmp_community.proofs.Messages.{pdu_stands}
use Rattle.snmp_community.proofs.message.read_community_pdu.Goals as goal

pub returns-clause-exact : goal.returns-clause-exact
returns-clause-exact c =
    let here = pdu_stands c.args.datagram.now (parts c.args.message.now) c.requires in
    subst (λ (text : List ℕ). MatchResult c.read_pdu.result (λ p. PduText text (pdu_of p)) (λ e. RefusesPdu text e.refusal)) (sym here) c.read_pdu.ensures.exact

pub returns-clause-none : goal.returns-clause-none
returns-clause-none c =
    let here = pdu_stands c.args.datagram.now (parts c.args.message.now) c.requires in
    subst (λ (text : List ℕ). OnErr c.read_pdu.result ((p : PduParts) → PduText text p → ⊥)) (sym here) c.read_pdu.ensures.none

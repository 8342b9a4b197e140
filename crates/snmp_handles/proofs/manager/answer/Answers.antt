use Rattle.std.proofs.Common.{subst}
use Rattle.snmp_message.specs.Scoped.{Contexts, ScopedFront}
use Rattle.snmp_msg.specs.Pdu.{PduParts, PduText}
use Rattle.snmp_incoming.specs.Outcome.{Given}
use Rattle.snmp_manager.specs.Replies.{IsAnswer}
use Rattle.snmp_handles.proofs.manager.answer.Goals as goal

pub returns : goal.returns
returns c =
    subst (λ (g : Given). (k : Contexts) (p : PduParts) → ScopedFront g.text k → PduText k.pdu p → IsAnswer c.args.pending.now g k p c.answer_of.result)
    c.taken-taken.ensures c.answer_of.ensures

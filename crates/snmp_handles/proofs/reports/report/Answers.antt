use Rattle.std.proofs.Common.{subst}
use Rattle.snmp_message.specs.Scoped.{Contexts, ScopedFront}
use Rattle.snmp_msg.specs.Pdu.{PduParts, PduText}
use Rattle.snmp_incoming.specs.Outcome.{Given}
use Rattle.snmp_manager.specs.Replies.{IsReport}
use Rattle.snmp_handles.proofs.reports.report.Goals as goal

pub returns : goal.returns
returns c =
    subst (λ (g : Given). (k : Contexts) (p : PduParts) → ScopedFront g.text k → PduText k.pdu p → IsReport c.args.pending.now g p c.report_of.result)
    c.taken-taken.ensures c.report_of.ensures

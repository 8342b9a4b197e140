use Rattle.std.proofs.Common.{subst}
use Rattle.vacm_core.specs.Tables.{Tables}
use Rattle.snmp_gate.specs.Messages.{IsViewerOf}
use Rattle.snmp_gate.proofs.Sending.{on_ok}
use Rattle.snmp_gate.proofs.gate.Gate.begin_read.Goals as goal

pub returns-clause-ends : goal.returns-clause-ends
returns-clause-ends c =
    let g = c.args.self.now in
    on_ok c.begin.result _ _ (λ onward cause client q asked read.
    cause g.agent.engine g.agent.tables g.devices.list.items q
    (subst (λ (t : Tables). IsViewerOf t q c.viewer_of-viewer.result) c.tables.ensures (c.viewer_of-viewer.ensures client q asked)) (c.pdu_of.ensures.asked client q asked) read) c.begin.ensures.cause

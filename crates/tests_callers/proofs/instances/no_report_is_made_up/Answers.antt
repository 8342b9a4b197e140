use Rattle.std.specs.Prelude.{[], ◌∷◌}
use Rattle.std.proofs.Common.{inr}
use Rattle.snmp_gate.specs.History.{accepted, given_up}
use Rattle.tests_callers.proofs.Uncaused.{no_cause, only_accepted}
use Rattle.tests_callers.proofs.instances.no_report_is_made_up.Goals as goal

pub returns-clause-answered : goal.returns-clause-answered
returns-clause-answered c agent devices number now datagram message by answer q asks own command context device none lawful =
    let before = accepted number now datagram message ∷ [] in
    let report = c.a_report_has_its_cause.ensures agent devices before number message by answer q lawful asks none in
    no_cause agent.engine agent.tables devices before number q report.0 own command context device (λ up read. only_accepted number number now up.0 datagram message up.1) report.2

pub returns-clause-set : goal.returns-clause-set
returns-clause-set c agent devices number device now datagram message by answer q asks own set context known none lawful =
    let before = given_up number device ∷ accepted number now datagram message ∷ [] in
    let report = c.a_report_has_its_cause.ensures agent devices before number message by answer q lawful asks none in
    no_cause agent.engine agent.tables devices before number q report.0 own (inr set) context known (λ up read. read set) report.2

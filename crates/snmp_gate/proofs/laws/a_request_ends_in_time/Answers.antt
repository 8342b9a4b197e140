use Rattle.snmp_gate.proofs.Timers.{ends_in_time, ends_not_before, tries_at_most}
use Rattle.snmp_gate.proofs.laws.a_request_ends_in_time.Goals as goal

pub returns-clause-in_time : goal.returns-clause-in_time
returns-clause-in_time c r steps first last now is run late = ends_in_time r steps first last now is run late

pub returns-clause-not_before : goal.returns-clause-not_before
returns-clause-not_before c r steps first last now is run due = ends_not_before r steps first last now is run due

pub returns-clause-tries : goal.returns-clause-tries
returns-clause-tries c r steps first last small is are run = tries_at_most r steps first last small is are run

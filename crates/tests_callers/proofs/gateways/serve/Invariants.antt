use Rattle.std.proofs.Common.{◌≡◌, ◌≤◌, List, length}
use Rattle.snmp_gate.specs.Runs.{Event, IsRun, moment_of}
use Rattle.tests_callers.proofs.gateways.serve.Given as goal

-- there is a run up to now, of an event for each that came, and it has come no further than this moment
abbrev pub invariant-loop-now : goal.invariant-loop-now
invariant-loop-now l = (events : List Event) × (length events ≡ l.now-index) × (moment_of events ≤ l.moment) × IsRun l.initial.gate events l.gate

use Rattle.std.proofs.Common.{◌≡◌, List, length}
use Rattle.snmp_forward.specs.Originating.{IsOriginatorRun, OriginatorEvent}
use Rattle.tests_callers.proofs.notifications.forward.Given as goal

-- there is a run up to now, of an event for each that came
abbrev pub invariant-loop-now : goal.invariant-loop-now
invariant-loop-now l = (events : List OriginatorEvent) × (length events ≡ l.now-index) × IsOriginatorRun l.initial.originator events l.originator

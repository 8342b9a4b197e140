use Rattle.std.proofs.Common.{◌≡◌, List, length}
use Rattle.snmp_forward.specs.Originating.{OriginatorEvent}
use Rattle.tests_callers.specs.ForwardServed.{IsHandleRun}
use Rattle.tests_callers.proofs.forwarder_handles.forward_handle.Given as goal

-- there is a run up to now, of an event for each that came
abbrev pub invariant-loop-now : goal.invariant-loop-now
invariant-loop-now l = (events : List OriginatorEvent) × (length events ≡ l.now-index) × IsHandleRun l.initial.forwarder events l.forwarder

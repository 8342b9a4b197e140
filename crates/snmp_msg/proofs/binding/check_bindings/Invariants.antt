use Rattle.std.proofs.Common.{◌≡◌, ◌≤◌, ◌-◌, slice_range}
use Rattle.snmp_msg.specs.Variables.{after_variables}
use Rattle.snmp_msg.proofs.binding.check_bindings.Given as goal

abbrev pub invariant-loop-place : goal.invariant-loop-place
invariant-loop-place l = record {
  within : l.place ≤ l.end;
  same : after_variables (slice_range l.bytes l.place l.end) ≡ after_variables (slice_range l.bytes l.at l.end);
}

abbrev pub decreases-loop-place : goal.decreases-loop-place
decreases-loop-place l = l.end - l.place

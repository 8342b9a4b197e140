use Rattle.std.proofs.Common.{◌≡◌, ◌+◌, ◌≤◌, ◌-◌, List, length, slice_range}
use Rattle.snmp_msg.specs.Variables.{Variable, AreBindings}
use Rattle.snmp_handles.proofs.bindings.outer_count.Given as goal

abbrev pub invariant-loop-place : goal.invariant-loop-place
invariant-loop-place l = record {
  within : l.place ≤ length l.list;
  few : l.count ≤ l.place;
  others : (vs : List Variable) → AreBindings vs l.list → (rest : List Variable) × AreBindings rest (slice_range l.list l.place (length l.list)) × (l.count + length rest ≡ length vs);
}

abbrev pub decreases-loop-place : goal.decreases-loop-place
decreases-loop-place l = length l.list - l.place

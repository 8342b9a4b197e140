use Rattle.std.proofs.Common.{◌≤◌, ◌-◌, ◌++◌, List, length, map, slice_range}
use Rattle.std.specs.Prelude.{All}
use Rattle.snmp_msg.specs.Variables.{Variable, AreBindings, bound_variable}
use Rattle.snmp_ber.specs.Element.{IsTag}
use Rattle.snmp_msg.specs.declared.variable.VariableBinding.{VariableBinding}
use Rattle.snmp_handles.proofs.bindings.bindings_of.Given as goal

abbrev pub invariant-loop-place : goal.invariant-loop-place
invariant-loop-place l = record {
  within : l.place ≤ length l.list;
  written : All (λ (b : VariableBinding). IsTag b.tag) l.bindings.items;
  joined : (vs : List Variable) → AreBindings vs (slice_range l.list l.place (length l.list)) → AreBindings (map bound_variable l.bindings.items ++ vs) l.list;
  back : (vs : List Variable) → AreBindings vs l.list → (rest : List Variable) × AreBindings rest (slice_range l.list l.place (length l.list));
}

abbrev pub decreases-loop-place : goal.decreases-loop-place
decreases-loop-place l = length l.list - l.place

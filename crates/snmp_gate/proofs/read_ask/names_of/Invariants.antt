use Rattle.std.proofs.Common.{◌≡◌, ◌++◌, All, drop, map}
use Rattle.snmp_ber.specs.Oid.{IsObjectId}
use Rattle.snmp_gate.specs.ReadAsks.{asked_binding, asked_name, variables_asked}
use Rattle.snmp_gate.specs.declared.read_ask.AskedName.{AskedName}
use Rattle.snmp_gate.proofs.read_ask.names_of.Given as goal

abbrev pub invariant-loop-column : goal.invariant-loop-column
invariant-loop-column l = record {
  are : variables_asked l.columns ≡ map asked_binding l.names.items ++ variables_asked (drop l.column-index l.columns);
  fit : All (λ (asked : AskedName). IsObjectId (asked_name asked)) l.names.items;
}

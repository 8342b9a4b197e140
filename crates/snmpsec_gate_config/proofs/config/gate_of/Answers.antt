use Rattle.std.proofs.Common.{subst}
use Rattle.toml.specs.Data.{Members}
use Rattle.snmpsec_gate_config.specs.Rows.{IsGate}
use Rattle.snmpsec_gate_config.specs.Refusals.{TellsNoTable}
use Rattle.snmpsec_gate_config.specs.declared.table.GateTable.TheVariants as tables
use Rattle.snmpsec_gate_config.specs.declared.fault.GateTableFault.TheVariants as table_faults
use Rattle.snmpsec_gate_config.proofs.Told.{no_gate_table}
use Rattle.snmpsec_gate_config.proofs.config.gate_of.Goals as goal

pub returns-in_default-clause-fault : goal.returns-in_default-clause-fault
returns-in_default-clause-fault c = no_gate_table _ c.in_default.ensures

pub returns-in-Ok-clause-gate : goal.returns-in-Ok-clause-gate
returns-in-Ok-clause-gate c = subst (λ (t : Members). IsGate t c.in-Ok.gate) c.in-Some.ensures c.in-Ok.ensures.gate

pub returns-in-Err-Key-clause-fault : goal.returns-in-Err-Key-clause-fault
returns-in-Err-Key-clause-fault c =
    let told = rw c.in-Err-Key.field-0-is at c.in-Err-Key.ensures.fault in
    subst (λ (t : Members). TellsNoTable tables.Gate IsGate t (table_faults.Key c.in-Err-Key.fault)) c.in-Some.ensures told

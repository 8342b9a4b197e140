use Rattle.std.proofs.lemmas.Result.{err_from_is_err_and}
use Rattle.toml.specs.View.{table_view}
use Rattle.snmpsec_gate_config.specs.Keys.{table_name}
use Rattle.snmpsec_gate_config.specs.declared.table.GateTable.TheVariants.{Device, Receiver}
use Rattle.snmpsec_gate_config.proofs.Tops.{top_tables}
use Rattle.snmpsec_gate_config.proofs.Refused.{no_devices, no_receivers, no_rows}
use Rattle.snmpsec_gate_config.proofs.config.rows_of.Goals as goal

pub devices_of-requires : goal.devices_of-requires
devices_of-requires c = record { tables = top_tables (table_name Device) (table_view c.args.document.now) c.in_default.ensures }

pub receivers_of-requires : goal.receivers_of-requires
receivers_of-requires c = record { tables = top_tables (table_name Receiver) (table_view c.args.document.now) c.in_default.ensures }

pub returns-in_err-devices-clause-refuses : goal.returns-in_err-devices-clause-refuses
returns-in_err-devices-clause-refuses c =
    let p = err_from_is_err_and c.from_residual-in_err-devices.result c.from_residual-in_err-devices.ensures.1 in
    rw (p.1, p.2) (no_devices (table_view c.args.document.now) _ c.in_default.ensures (_, c.in_ok-gate.ensures.gate) c.in_err-devices.ensures.fault)

pub returns-in_err-receivers-clause-refuses : goal.returns-in_err-receivers-clause-refuses
returns-in_err-receivers-clause-refuses c =
    let p = err_from_is_err_and c.from_residual-in_err-receivers.result c.from_residual-in_err-receivers.ensures.1 in
    rw (p.1, p.2) (no_receivers (table_view c.args.document.now) _ c.in_default.ensures (_, c.in_ok-gate.ensures.gate) (_, c.in_ok-devices.ensures.devices) c.in_err-receivers.ensures.fault)

pub returns-in_err-rows-clause-refuses : goal.returns-in_err-rows-clause-refuses
returns-in_err-rows-clause-refuses c =
    let p = err_from_is_err_and c.from_residual-in_err-rows.result c.from_residual-in_err-rows.ensures.1 in
    rw (p.1, p.2) (no_rows (table_view c.args.document.now) _ c.in_default.ensures (_, c.in_ok-gate.ensures.gate) (_, c.in_ok-devices.ensures.devices) (_, c.in_ok-receivers.ensures.receivers) c.in_err-rows.ensures.fault)

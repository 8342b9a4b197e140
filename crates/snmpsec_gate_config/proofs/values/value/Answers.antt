use Rattle.toml.proofs.Views.{table_get}
use Rattle.snmpsec_gate_config.proofs.values.value.Goals as goal

pub returns : goal.returns
returns c = rw (← c.name.ensures) (table_get c.get.result c.name.result.now c.args.row.now.entries c.get.ensures.value)

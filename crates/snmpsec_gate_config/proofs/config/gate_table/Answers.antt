use Rattle.std.proofs.Common.{◌≡◌, option_map}
use Rattle.toml.proofs.Views.{table_get}
use Rattle.toml.specs.Data.{get_member}
use Rattle.toml.specs.View.{view, table_view}
use Rattle.snmpsec_gate_config.specs.Keys.{table_name}
use Rattle.snmpsec_gate_config.specs.declared.table.GateTable.TheVariants.{Gate}
use Rattle.snmpsec_gate_config.proofs.Tops.{table_absent, table_of}
use Rattle.snmpsec_gate_config.proofs.config.gate_table.Goals as goal

pub returns-in-Some : goal.returns-in-Some
returns-in-Some c =
    let found : option_map (λ x. view x.now) c.get.result ≡ get_member (table_name Gate) (table_view c.args.document.now) = table_get c.get.result (table_name Gate) c.args.document.now.entries c.get.ensures.value in
    table_of (λ m. table_view m.now) c.get.result _ c.in-Some.value c.as_table.result found c.in-Some.is c.as_table.ensures

pub returns-in-None : goal.returns-in-None
returns-in-None c =
    let found : option_map (λ x. view x.now) c.get.result ≡ get_member (table_name Gate) (table_view c.args.document.now) = table_get c.get.result (table_name Gate) c.args.document.now.entries c.get.ensures.value in
    table_absent c.get.result _ found c.in-None.is

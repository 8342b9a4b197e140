use Rattle.std.proofs.lemmas.Result.{IfErr-weaker}
use Rattle.toml.specs.View.{table_view}
use Rattle.snmpsec_gate_config.proofs.Told.{no_addresses_if_any, some_value}
use Rattle.snmpsec_gate_config.proofs.gate.addresses_if_any.Goals as goal

pub returns-clause-fault : goal.returns-clause-fault
returns-clause-fault c = IfErr-weaker c.addresses.result _ _ (λ f told. no_addresses_if_any (table_view c.args.row.now) c.args.key f (some_value _ _ _ c.value.ensures c.if-is_none.ensures) told) c.addresses.ensures.fault

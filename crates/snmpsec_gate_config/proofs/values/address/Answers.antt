use Rattle.std.proofs.Common.{◌≡◌, ◌∙◌, Some, sym, ap, subst, option_map}
use Rattle.toml.specs.View.{view, table_view}
use Rattle.snmpsec_gate_config.specs.Keys.{at}
use Rattle.snmpsec_gate_config.specs.Values.{IsAddress}
use Rattle.snmpsec_gate_config.proofs.values.address.Goals as goal

pub returns-in-None-clause-fault : goal.returns-in-None-clause-fault
returns-in-None-clause-fault c =
    let there : at (table_view c.args.row.now) c.args.key ≡ Some (view c.in-Some.value.now) = sym c.value.ensures ∙ ap (option_map (λ v. view v.now)) c.in-Some.is in
    (c.fault-in-None.ensures, λ address h. c.in-None.ensures address (subst (λ v. IsAddress v address) there h))

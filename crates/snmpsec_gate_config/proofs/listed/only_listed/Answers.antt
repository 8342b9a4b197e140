use Rattle.std.proofs.Common.{ℕ, List, sym, subst}
use Rattle.toml.specs.View.{table_view}
use Rattle.snmpsec_gate_config.specs.Keys.{IsFirstUnlisted}
use Rattle.snmpsec_gate_config.proofs.listed.only_listed.Goals as goal

pub returns-in_ok-from_str-in-Some-clause-fault : goal.returns-in_ok-from_str-in-Some-clause-fault
returns-in_ok-from_str-in-Some-clause-fault c =
    subst (λ (key : List ℕ). IsFirstUnlisted c.args.table (table_view c.args.row.now) key) (sym c.in_ok-from_str-in-Some.ensures.ok) c.in-Some.ensures

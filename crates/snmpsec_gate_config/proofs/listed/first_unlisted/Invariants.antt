use Rattle.std.proofs.Common.{◌≡◌, List, ◌++◌}
use Rattle.toml.specs.View.{members_view}
use Rattle.toml.proofs.Views.{Entry}
use Rattle.snmpsec_gate_config.specs.Keys.{HasOnlyListed}
use Rattle.snmpsec_gate_config.proofs.listed.first_unlisted.Given as goal

abbrev pub invariant-loop-key : goal.invariant-loop-key
invariant-loop-key l =
    (done : List Entry) × (l.row.entries ≡ done ++ l.key-iterator) × HasOnlyListed l.table (members_view done)

use Rattle.std.proofs.Common.{◌≡◌, List, ◌++◌}
use Rattle.toml.specs.View.{members_view}
use Rattle.toml.proofs.Views.{Entry}
use Rattle.snmpsec_gate_config.specs.Documents.{IsTop}
use Rattle.snmpsec_gate_config.proofs.config.bad_top.Given as goal

abbrev pub invariant-loop-key : goal.invariant-loop-key
invariant-loop-key l =
    (done : List Entry) × (l.document.entries ≡ done ++ l.key-iterator) × IsTop (members_view done)

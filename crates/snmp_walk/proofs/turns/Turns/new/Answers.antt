use Rattle.std.proofs.Common.{ℕ, ◌<◌, ◌++◌, length, drop}
use Rattle.std.proofs.lemmas.List.Elements.{All-append, All-drop}
use Rattle.std.specs.List.{HoldsAt}
use Rattle.snmp_walk.specs.Column.{IsAsked}
use Rattle.snmp_walk.specs.declared.bulk_column.BulkColumn.{BulkColumn}
use Rattle.snmp_walk.specs.Turns.{repeated}
use Rattle.snmp_walk.proofs.TurnLists.{all_repeated}
use Rattle.snmp_walk.proofs.turns.Turns.new.Goals as goal

pub returns-clause-asked : goal.returns-clause-asked
returns-clause-asked c =
    let P : ℕ → Type 0 = λ number. (number < length c.args.columns.now) × HoldsAt (λ (x : BulkColumn). IsAsked x.progress) c.args.columns.now number in
    let once = c.in_ok-once.once.items in
    let again = c.in_ok-again.again.items in
    let left = c.saturating_sub.result in
    let repeaters = c.in_ok-again.ensures.asked in
    All-append P once (drop c.len.result again ++ repeated left again) c.in_ok-once.ensures.asked
    (All-append P (drop c.len.result again) (repeated left again) (All-drop P c.len.result again repeaters) (all_repeated P left again repeaters))

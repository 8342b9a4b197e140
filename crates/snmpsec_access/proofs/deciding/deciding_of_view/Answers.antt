use Rattle.std.proofs.Common.{◌≡◌, ◌≢◌, length, arith}
use Rattle.snmpsec_access.specs.Rising.{rows_at}
use Rattle.snmpsec_access.proofs.Kepts.{no_rows, some_rows, no_view, one_each_of, told_kept}
use Rattle.snmpsec_access.proofs.deciding.deciding_of_view.Goals as goal

pub returns-then-is_empty : goal.returns-then-is_empty
returns-then-is_empty c =
    let none : length c.in_ok-rising.rising.items ≡ 0 = grind (arith, c.if-is_empty.ensures) in
    no_view c.args.rows.now (rows_at c.in_ok-rising.rising.items) c.args.view.now c.in_ok-rising.ensures (no_rows c.in_ok-rising.rising.items none)

pub needed_rows-requires-clause-one_each : goal.needed_rows-requires-clause-one_each
needed_rows-requires-clause-one_each c = one_each_of c.args.rows.now (rows_at c.in_ok-rising.rising.items) c.args.view.now c.in_ok-rising.ensures c.requires.one_each

pub returns : goal.returns
returns c =
    let some : length c.in_ok-rising.rising.items ≢ 0 = grind (arith, c.if-is_empty.ensures) in
    told_kept c.args.rows.now (rows_at c.in_ok-rising.rising.items) c.args.view.now c.in_ok-rising.ensures c.requires.named (some_rows c.in_ok-rising.rising.items some)
    (rows_at c.in_ok-needed.needed.items) c.in_ok-needed.ensures

use Rattle.std.proofs.Common.{◌≡◌, false, true, refl, sym, subst, ◌∙◌, arith}
use Rattle.vacm_core.specs.Wildcard.{IsDecider}
use Rattle.vacm_core.proofs.Wildcards.{none_so_short, parted_keys, none_left, none_has, first_has}
use Rattle.vacm_core.proofs.wildcard.best_of_alike.Goals as goal

pub returns-in_err-first : goal.returns-in_err-first
returns-in_err-first c =
    let none = c.in_err-first.ensures.item.3 in
    subst (IsDecider c.args.variable.now c.args.rows.now) (sym c.from_residual.ensures) (λ row there fits. let within = there.1 in absurd (omega arith))

pub returns-then-variable-arcs : goal.returns-then-variable-arcs
returns-then-variable-arcs c =
    let item = c.in_ok-first.ensures.item in
    let first = c.in_ok-first.first.now in
    let long = c.length-arcs.ensures in
    let short = c.if-variable-arcs.true in
    none_so_short c.args.rows.now c.requires.falling c.requires.alike c.args.variable.now first (0, item.3.0, sym (item.3.1 first)) (omega arith)

pub count_first-place-requires : goal.count_first-place-requires
count_first-place-requires c =
    let item = c.in_ok-first.ensures.item in
    let first = c.in_ok-first.first.now in
    parted_keys c.args.rows.now c.requires.falling c.requires.alike c.args.variable.now first (0, item.3.0, sym (item.3.1 first)) c.length-arcs.result (sym c.length-arcs.ensures) c.if-variable-arcs.false

pub returns-in_err-get : goal.returns-in_err-get
returns-in_err-get c =
    let item = c.in_ok-first.ensures.item in
    let first = c.in_ok-first.first.now in
    let past = c.in_err-get.ensures.lookup in
    subst (IsDecider c.args.variable.now c.args.rows.now) (sym c.from_residual-in_err-get.ensures)
    (none_left c.args.rows.now c.requires.falling c.requires.alike c.args.variable.now first (0, item.3.0, sym (item.3.1 first)) c.length-arcs.result (sym c.length-arcs.ensures) c.if-variable-arcs.false
    c.count_first-place.result c.count_first-place.ensures past.3)

pub returns-then-has_arcs : goal.returns-then-has_arcs
returns-then-has_arcs c =
    let item = c.in_ok-first.ensures.item in
    let first = c.in_ok-first.first.now in
    let there = c.in_ok-get.ensures.lookup in
    first_has c.args.rows.now c.requires.falling c.requires.alike c.args.variable.now first (0, item.3.0, sym (item.3.1 first)) c.length-arcs.result (sym c.length-arcs.ensures) c.if-variable-arcs.false
    c.count_first-place.result c.count_first-place.ensures c.row-row.result.now there.3.0 (c.row-row.ensures ∙ there.3.1 c.row-row.result.now) (c.if-has_arcs.ensures.0 refl)

pub returns-else-has_arcs : goal.returns-else-has_arcs
returns-else-has_arcs c =
    let item = c.in_ok-first.ensures.item in
    let first = c.in_ok-first.first.now in
    let there = c.in_ok-get.ensures.lookup in
    none_has c.args.rows.now c.requires.falling c.requires.alike c.args.variable.now first (0, item.3.0, sym (item.3.1 first)) c.length-arcs.result (sym c.length-arcs.ensures) c.if-variable-arcs.false
    c.count_first-place.result c.count_first-place.ensures c.row-row.result.now there.3.0 (c.row-row.ensures ∙ there.3.1 c.row-row.result.now) (λ has. let e : false ≡ true = c.if-has_arcs.ensures.1 has in cc)

use Rattle.std.proofs.Common.{sym, ap, ◌∙◌, ◌-◌, arith}
use Rattle.std.proofs.lemmas.List.{get_or_default}
use Rattle.vacm_core.proofs.Places.{differ_or_same, other_name}
use Rattle.vacm_core.proofs.table.is_first.Goals as goal

pub returns-else-place-eq0 : goal.returns-else-place-eq0
returns-else-place-eq0 g c =
    let name = g.R.NamedRow.name_of in
    let rows = c.args.rows.now in
    let place = c.args.place in
    let some = c.if-place-eq0.false in
    let before = λ (d : g.row.R.Denot). ap name (get_or_default rows (place - 1) d c.index-rows-place.result (omega (arith, c.requires.within)) ∙ sym c.index-rows-place.is) ∙ sym c.name.ensures in
    let here = λ (d : g.row.R.Denot). ap name (get_or_default rows place d c.index-rows-place-else-place-eq0.result c.requires.within ∙ sym c.index-rows-place-else-place-eq0.is) ∙ sym c.name-else-place-eq0.ensures in
    differ_or_same c.name.result.now c.name-else-place-eq0.result.now _ _ c.ne.result c.ne.ensures
    (λ differ. other_name name g.R.NamedRow.rank rows c.requires.in_place place c.requires.within (λ d same. differ (sym (before d) ∙ same ∙ here d)))
    (λ same. (omega (arith, some), λ d. before d ∙ same ∙ sym (here d)))

use Rattle.std.proofs.Common.{◌≡◌, ◌+◌, ◌<◌, ℕ, false, true, get_or}
use Rattle.vacm_core.specs.declared.rows.FamilyRow.{FamilyRow}
use Rattle.vacm_next.specs.Opening.{Exceeds}
use Rattle.vacm_next.proofs.Beginnings.{none_here, none_skipped, exceeds_is_under, exact_not_exceeded}
use Rattle.vacm_next.proofs.opening.is_exceeded.Goals as goal

pub loop-place-init : goal.loop-place-init
loop-place-init c =
    let rows = c.args.rows.now in
    let w = c.args.beginning.now in
    let row = c.args.row.now in
    let first : (k : ℕ) (d : FamilyRow) → k < c.args.first → ¬ Exceeds w row (get_or rows k d) =
    λ k d before. (let both = c.requires.exact k d before in exact_not_exceeded w row (get_or rows k d) c.requires.under both.1 both.0) in (
      c.next_under-place.ensures.within,
      none_skipped (Exceeds w row) rows w c.args.first c.next_under-place.result (exceeds_is_under w row c.requires.under) first c.next_under-place.ensures.none,
    )

pub loop-place-preserved : goal.loop-place-preserved
loop-place-preserved c =
    let rows = c.args.rows.now in
    let w = c.args.beginning.now in
    let row = c.args.row.now in
    let not_this : ¬ Exceeds w row c.row.result.now = λ h. let e : false ≡ true = c.if-exceeds.ensures.1 h in cc in (
      c.next_under-place-in-loop-place.ensures.within,
      none_skipped (Exceeds w row) rows w (c.loop-place.place + 1) c.next_under-place-in-loop-place.result (exceeds_is_under w row c.requires.under)
          (none_here (Exceeds w row) rows c.loop-place.place c.row.result.now c.row.ensures not_this c.loop-place.invariant.1) c.next_under-place-in-loop-place.ensures.none,
    )

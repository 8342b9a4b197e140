use Rattle.std.proofs.Common.{◌≡◌, sym, ap, ◌∙◌}
use Rattle.vacm_core.specs.declared.rows.FamilyRow.{FamilyRow}
use Rattle.vacm_core.specs.Allowed.{IsBestOf, family_order}
use Rattle.vacm_core.specs.View.{HasArcs}
use Rattle.vacm_core.proofs.Uniqueness.{one_included}
use Rattle.vacm_core.proofs.view_rows.ViewRows.includes.Goals as goal

pub returns-in-Some : goal.returns-in-Some
returns-in-Some c =
    let row = c.in-Some.row.now in
    let variable = c.args.variable.now in
    let best : IsBestOf c.args.self.now (HasArcs variable) family_order row = rw (← c.self.view_is) c.in-Some.ensures in (
      λ included. (row, best, included),
      λ h.
          let same : h.0 ≡ row = one_included c.args.self.now (rw (← c.self.view_is) c.self.invariant.3) variable h.0 row h.1 best in
          ap (λ (r : FamilyRow). r.include) (sym same) ∙ h.2,
    )

use Rattle.std.proofs.Common.{ℕ, List, subst}
use Rattle.std.proofs.lemmas.Option.{MatchOption-at_some}
use Rattle.vacm_core.specs.declared.rows.AccessRow.{AccessRow}
use Rattle.vacm_core.specs.declared.rows.FamilyRow.{FamilyRow}
use Rattle.vacm_core.specs.Faults.{is_same_access}
use Rattle.vacm_core.specs.Steps.{TellsView}
use Rattle.vacm_core.proofs.Positions.{IsFoundAt, access_stands}
use Rattle.vacm_core.proofs.explain.access_step.Goals as goal

pub returns : goal.returns
returns c =
    let row = c.in_ok-row.row.now in
    let decides = MatchOption-at_some _ _ c.in_ok-row.row c.in_ok-row.was c.requires.decides in
    let found = subst (λ (rows : List AccessRow). IsFoundAt is_same_access rows c.position_of.result row) c.deref.ensures.value c.position_of.ensures in (
      row,
      record { stands = access_stands c.args.rows.now.access.items c.requires.one_each.access c.position_of.result row decides.0.in_table found; best = decides.0 },
      subst (λ (name : List ℕ). TellsView c.args.rows.now.families.items name c.args.asking.now.variable.now c.view_step.result) c.view-name.ensures
          (subst (λ (rows : List FamilyRow). TellsView rows c.view-name.result.now c.args.asking.now.variable.now c.view_step.result) c.deref-2.ensures.value c.view_step.ensures),
    )

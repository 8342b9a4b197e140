use Rattle.std.proofs.Common.{List, subst}
use Rattle.std.proofs.lemmas.Option.{MatchOption-at_some}
use Rattle.vacm_core.specs.declared.rows.GroupRow.{GroupRow}
use Rattle.vacm_core.specs.Faults.{is_same_group}
use Rattle.vacm_core.proofs.Positions.{IsFoundAt, group_stands}
use Rattle.vacm_core.proofs.explain.group_step.Goals as goal

pub returns : goal.returns
returns c =
    let row = c.in_ok-row.row.now in
    let decides = MatchOption-at_some _ _ c.in_ok-row.row c.in_ok-row.was c.requires.decides in
    let found = subst (λ (rows : List GroupRow). IsFoundAt is_same_group rows c.position_of.result row) c.deref.ensures.value c.position_of.ensures in (
      row,
      record { stands = group_stands c.args.rows.now.groups.items c.requires.one_each.groups c.position_of.result row decides.0 found; is_row = decides.1 },
      c.copy.ensures.same,
      c.access_step.ensures,
    )

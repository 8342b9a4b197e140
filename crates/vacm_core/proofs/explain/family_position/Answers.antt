use Rattle.std.proofs.lemmas.Option.{MatchOption-at_some}
use Rattle.vacm_core.proofs.Positions.{family_stands}
use Rattle.vacm_core.proofs.explain.family_position.Goals as goal

pub returns : goal.returns
returns c =
    let row = c.in_ok-row.row.now in
    let best = MatchOption-at_some _ _ c.in_ok-row.row c.in_ok-row.was c.requires.decides in
    (row, record { stands = family_stands c.args.rows.now c.requires.one_each c.position_of.result row best.in_table c.position_of.ensures; best = best })

use Rattle.std.proofs.Common.{rules}
use Rattle.std.specs.Borrow.{Bor}
use Rattle.std.proofs.lemmas.Fn.{always_returns_same}
use Rattle.vacm_core.specs.declared.rows.FamilyRow.{FamilyRow}
use Rattle.vacm_core.specs.Place.{arcs_order}
use Rattle.snmpsec_access.proofs.Longest.{subtrees_rise, at_place, nowhere}
use Rattle.snmpsec_access.proofs.subtrees.row_at.Goals as goal

pub returns-in-Ok : goal.returns-in-Ok
returns-in-Ok c =
    let subtree = c.args.subtree.now in
    at_place c.args.rows.now subtree c.in-Ok.place c.index-rows-place.result c.in-Ok.ensures.bound c.index-rows-place.is
    (c.in-Ok.ensures.position (λ (y : Bor FamilyRow). arcs_order y.now.subtree subtree) (always_returns_same _ _ _ (λ a r f k. search rules)))

pub returns-in-Err : goal.returns-in-Err
returns-in-Err c =
    let subtree = c.args.subtree.now in
    nowhere c.args.rows.now subtree c.in-Err.field-0
    (c.in-Err.ensures.position (λ (y : Bor FamilyRow). arcs_order y.now.subtree subtree) (always_returns_same _ _ _ (λ a r f k. search rules)) (subtrees_rise c.args.rows.now subtree c.requires))

use Rattle.std.proofs.Common.{rules}
use Rattle.std.proofs.lemmas.Fn.{always_returns_same}
use Rattle.vacm_core.specs.Place.{arcs_order}
use Rattle.vacm_core.proofs.Exact.{found}
use Rattle.vacm_core.proofs.view.place_of.Goals as goal

pub returns : goal.returns
returns c =
    let facts = c.binary_search_by.ensures in
    let subtree = c.args.subtree.now in
    found c.args.rows.now subtree c.binary_search_by.result c.requires
    (facts.position (λ row. arcs_order subtree row.subtree) (always_returns_same _ _ _ (λ a r f k. search rules))) facts.bound

use Rattle.std.proofs.Common.{rules}
use Rattle.std.proofs.lemmas.Fn.{always_returns_same}
use Rattle.vacm_core.specs.Wildcard.{is_upto}
use Rattle.vacm_core.proofs.Wildcards.{parted, some_alike, are_alike}
use Rattle.vacm_core.proofs.wildcard.count_alike.Goals as goal

pub returns-clause-some : goal.returns-clause-some
returns-clause-some c =
    let rows = c.args.rows.now in
    let first = c.index-rows-0.result in
    some_alike rows first c.requires.falling c.requires.some c.index-rows-0.is c.count_front.result c.count_front.ensures.bound
    (c.count_front.ensures.parted (is_upto first) (always_returns_same _ _ _ (λ a r f k. search rules)) (parted rows first c.requires.falling))

pub returns-clause-alike : goal.returns-clause-alike
returns-clause-alike c =
    let rows = c.args.rows.now in
    let first = c.index-rows-0.result in
    are_alike rows first c.requires.falling c.requires.some c.index-rows-0.is c.count_front.result c.count_front.ensures.bound
    (c.count_front.ensures.parted (is_upto first) (always_returns_same _ _ _ (λ a r f k. search rules)) (parted rows first c.requires.falling))

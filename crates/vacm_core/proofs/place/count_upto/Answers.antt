use Rattle.std.proofs.Common.{rules, nat_lt}
use Rattle.std.proofs.lemmas.Fn.{always_returns_same}
use Rattle.vacm_core.specs.RowOrder.{side_of}
use Rattle.vacm_core.proofs.place.count_upto.Goals as goal

pub returns-clause-parted : goal.returns-clause-parted
returns-clause-parted g c =
    c.count_front.ensures.parted (λ row. nat_lt (side_of g.R.NamedRow.name_of c.args.wanted.now row) 2) (always_returns_same _ _ _ (λ a r f k. search rules)) c.requires

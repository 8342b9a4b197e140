use Rattle.std.proofs.Common.{rules, is_lt}
use Rattle.std.proofs.lemmas.Cmp.{nat_list_cmp_total, on_total, then_total, back_total}
use Rattle.std.proofs.lemmas.Result.{on_ok_weaker}
use Rattle.std.proofs.lemmas.List.Sorted.{ranks_by}
use Rattle.std.proofs.lemmas.Fn.{always_returns_same}
use Rattle.vacm_core.specs.RowOrder.{place_order}
use Rattle.vacm_core.proofs.place.sort.Goals as goal

pub returns-clause-in_place : goal.returns-clause-in_place
returns-clause-in_place g c =
    let name = g.R.NamedRow.name_of in
    let rank = g.R.NamedRow.rank in
    on_ok_weaker c.sort_by.result
    (λ sorted. sorted (λ a b. is_lt (place_order name rank a b))
    (ranks_by (then_total (on_total name nat_list_cmp_total) (back_total g.met.R.NamedRow.rank_total)) (λ x. x))
    (always_returns_same _ _ _ (λ a r f k. search rules)))
    c.sort_by.ensures.sorted

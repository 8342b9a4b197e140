use Rattle.std.proofs.Common.{rules, is_lt, Bor}
use Rattle.std.proofs.lemmas.Cmp.{on_total}
use Rattle.std.proofs.lemmas.Result.{on_ok_weaker}
use Rattle.std.proofs.lemmas.List.Sorted.{ranks_by, IsPermutation-map}
use Rattle.std.proofs.lemmas.Fn.{always_returns_same}
use Rattle.vacm_core.specs.declared.rows.FamilyRow.{FamilyRow}
use Rattle.vacm_core.specs.Allowed.{family_order}
use Rattle.vacm_core.specs.Laws.{family_order-total}
use Rattle.snmpsec_access.proofs.Picks.{sorted_now}
use Rattle.snmpsec_access.proofs.subtrees.sort_rising.Goals as goal

pub returns-clause-moved : goal.returns-clause-moved
returns-clause-moved c = IsPermutation-map (λ (r : Bor FamilyRow). r.now) _ _ c.sort_by.ensures.permutation

pub returns-clause-rising : goal.returns-clause-rising
returns-clause-rising c =
    on_ok_weaker c.sort_by.result
    (λ sorted. sorted_now _ (sorted (λ (a b : Bor FamilyRow). is_lt (family_order a.now b.now))
    (ranks_by (on_total (λ (r : Bor FamilyRow). r.now) family_order-total) (λ r. r))
    (always_returns_same _ _ _ (λ a r f k. search rules))))
    c.sort_by.ensures.sorted

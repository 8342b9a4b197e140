use Rattle.std.proofs.Common.{ap, ◌∙◌, subst, is_lt}
use Rattle.std.proofs.lemmas.Option.{MatchOption-at_some}
use Rattle.vacm_core.specs.Allowed.{family_order}
use Rattle.vacm_core.specs.View.{HasArcs}
use Rattle.vacm_core.specs.Laws.{family_order-total}
use Rattle.vacm_core.specs.Wildcard.{IsDecider}
use Rattle.vacm_core.proofs.First.{best_of_second, best_of_left, second_is_best, first_stays_best}
use Rattle.vacm_core.proofs.view.better.Goals as goal

pub returns-in_default : goal.returns-in_default
returns-in_default c variable rows others first second =
    best_of_second (HasArcs variable) family_order family_order-total rows others c.args.second (subst (IsDecider variable rows) c.in_default.is first) second

pub returns-in_default-second : goal.returns-in_default-second
returns-in_default-second c variable rows others first second =
    let none = subst (IsDecider variable others) c.in_default-second.is second in
    best_of_left (HasArcs variable) family_order family_order-total rows others c.in-Some.one.now (MatchOption-at_some _ _ c.in-Some.one c.in-Some.is first)
    (λ other there fits. absurd (none other there fits))

pub returns-then-is_lt : goal.returns-then-is_lt
returns-then-is_lt c variable rows others first second =
    second_is_best (HasArcs variable) family_order family_order-total rows others c.in-Some.one.now c.in-Some-second.other.now
    (MatchOption-at_some _ _ c.in-Some.one c.in-Some.is first) (MatchOption-at_some _ _ c.in-Some-second.other c.in-Some-second.is second)
    (c.if-is_lt.ensures ∙ ap is_lt c.order.ensures)

pub returns-else-is_lt : goal.returns-else-is_lt
returns-else-is_lt c variable rows others first second =
    first_stays_best (HasArcs variable) family_order family_order-total rows others c.in-Some.one.now c.in-Some-second.other.now
    (MatchOption-at_some _ _ c.in-Some.one c.in-Some.is first) (MatchOption-at_some _ _ c.in-Some-second.other c.in-Some-second.is second)
    (c.if-is_lt.ensures ∙ ap is_lt c.order.ensures)

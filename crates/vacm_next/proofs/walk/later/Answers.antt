use Rattle.std.proofs.Common.{◌≡◌, false, true, ap, ◌∙◌, refl, inl, inr, is_lt}
use Rattle.vacm_next.proofs.Order.{before_or_from}
use Rattle.vacm_next.proofs.walk.later.Goals as goal

pub returns-else-is_lt : goal.returns-else-is_lt
returns-else-is_lt c =
    inl (
      refl,
      elim (before_or_from c.args.first.now c.args.second.now) [
        | inl before ↦ absurd (let e : false ≡ true = c.if-is_lt.ensures ∙ ap is_lt (c.cmp.ensures ∙ before) in cc)
        | inr from ↦ from
      ],
    )

-- How far a walk gets.
use Rattle.std.specs.Prelude.{List, ℕ, Contains}
use Rattle.std.proofs.Common.{refl, inl, inr}
use Rattle.snmp_msg.specs.Variables.{Variable}
use Rattle.vacm_next.specs.Next.{IsBefore, IsUpto}
use Rattle.vacm_next.proofs.Order.{upto_trans, before_is_upto, not_both, before_or_from}
use Rattle.snmp_walk.specs.Column.{StandsAt}

-- A name after the one that was asked is after the one of the request.
pub after_first : (first from asked name : List ℕ) → IsUpto first from → IsUpto from asked → IsBefore asked name → IsBefore first name
after_first first from asked name a b before = elim (before_or_from first name) [
  | inl so ↦ so
  | inr upto ↦ absurd (not_both name asked (upto_trans name first asked upto (upto_trans first from asked a b)) before)
]

-- At such a name the walk may go on.
pub goes_on_at : (first from asked : List ℕ) (told : List Variable) (v : Variable) → IsUpto first from → IsUpto from asked → IsBefore asked v.name → Contains told v → StandsAt first told v.name
goes_on_at first from asked told v a b before there = record {
  place = inr (v, there, refl);
  upto = before_is_upto first v.name (after_first first from asked v.name a b before);
}

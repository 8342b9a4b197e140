-- Devices that have the same variables of those that are seen.
use Rattle.std.specs.Prelude.{◌≡◌, ℕ, List, [], ◌∷◌}
use Rattle.std.proofs.Common.{inl, inr, subst, sym, ◌∙◌}
use Rattle.snmp_msg.specs.Variables.{Variable}
use Rattle.snmp_responder.specs.Distinct.{HasDistinctNames}
use Rattle.snmp_responder.specs.Instrumentation.{IsGot, IsSeenVariable, Known}
use Rattle.snmp_responder.specs.Next.{AreNextAnswers, ComesNext, IsNextAnswer}
use Rattle.snmp_responder.proofs.OneAnswer.{nexts_one}
use Rattle.gateway_laws.specs.Alike.{IsAlike, LookAlike, ShowsNoMore}

module _ (Seen : List ℕ → Type 0) where
  comes_in : (one other : Known) → ShowsNoMore Seen one other → (after : List ℕ) (v : Variable) → ComesNext one Seen after v → ComesNext other Seen after v
  comes_in one other more after v c = record { there = more v c.seen c.there; seen = c.seen; behind = c.behind }

  next_in : (one other : Known) → LookAlike Seen one other → (name : List ℕ) (v : Variable) → IsNextAnswer one Seen name v → IsNextAnswer other Seen name v
  next_in one other alike name v (inl next) = inl (record {
    comes = comes_in one other alike.there name v next.comes;
    least = λ w c. next.least w (comes_in other one alike.back name w c);
  })
  next_in one other alike name v (inr none) = inr (λ w c. none.0 w (comes_in other one alike.back name w c), none.1)

  nexts_in : (one other : Known) → LookAlike Seen one other → (names : List (List ℕ)) (vs : List Variable) → AreNextAnswers one Seen names vs → AreNextAnswers other Seen names vs
  nexts_in one other alike [] [] all = tt
  nexts_in one other alike [] (v ∷ vs) all = absurd all
  nexts_in one other alike (name ∷ names) [] all = absurd all
  nexts_in one other alike (name ∷ names) (v ∷ vs) all = (next_in one other alike name v all.0, nexts_in one other alike names vs all.1)

  pub same_next : (one other : Known) → HasDistinctNames other → LookAlike Seen one other → (names : List (List ℕ)) (vs ws : List Variable)
      → AreNextAnswers one Seen names vs → AreNextAnswers other Seen names ws → vs ≡ ws
  same_next one other distinct alike names vs ws a b = nexts_one other distinct Seen names vs ws (nexts_in one other alike names vs a) b

  seen_in : (one other : Known) → ShowsNoMore Seen one other → (name : List ℕ) (v : Variable) → IsSeenVariable one Seen name v → IsSeenVariable other Seen name v
  seen_in one other more name v s = record { there = more v (subst Seen (sym s.named) s.seen) s.there; named = s.named; seen = s.seen }

  pub alike_got : (one other : Known) → HasDistinctNames other → LookAlike Seen one other → (name : List ℕ) (v w : Variable) → IsGot one Seen name v → IsGot other Seen name w → IsAlike name v w
  alike_got one other distinct alike name v w (inl a) (inl b) = inl (distinct v w (seen_in one other alike.there name v a).there b.there (a.named ∙ sym b.named))
  alike_got one other distinct alike name v w (inl a) (inr (inl b)) = absurd (b.0.none v (seen_in one other alike.there name v a))
  alike_got one other distinct alike name v w (inl a) (inr (inr b)) = absurd (b.0.none v (seen_in one other alike.there name v a))
  alike_got one other distinct alike name v w (inr (inl a)) (inl b) = absurd (a.0.none w (seen_in other one alike.back name w b))
  alike_got one other distinct alike name v w (inr (inl a)) (inr (inl b)) = inr (inr a.1, inr b.1)
  alike_got one other distinct alike name v w (inr (inl a)) (inr (inr b)) = inr (inr a.1, inl b.1)
  alike_got one other distinct alike name v w (inr (inr a)) (inl b) = absurd (a.0.none w (seen_in other one alike.back name w b))
  alike_got one other distinct alike name v w (inr (inr a)) (inr (inl b)) = inr (inl a.1, inr b.1)
  alike_got one other distinct alike name v w (inr (inr a)) (inr (inr b)) = inr (inl a.1, inl b.1)

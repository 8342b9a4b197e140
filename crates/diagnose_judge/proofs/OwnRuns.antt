-- Runs over the messages that authoritative engines sent, and over others between them.
use Rattle.std.proofs.Common.{◌≡◌, ℕ, List, [], ◌∷◌, Bool, refl, sym, subst, ◌∙◌}
use Rattle.snmp_incoming.specs.Outcome.{Given}
use Rattle.snmp_manager.specs.Views.{Held}
use Rattle.diagnose_judge.specs.Judging.{Judgement, unread, discovery, sent_by, sent_to, IsSentBy}
use Rattle.diagnose_judge.specs.Runs.{HasJudged, own_of, judgements_of_own}

-- leaving the other messages out changes nothing
own_alone : (ts : List (ℕ × List ℕ)) (js : List Judgement) (old new : Held) → HasJudged old ts js new → HasJudged old (own_of ts js) (judgements_of_own js) new
own_alone [] [] old new h = h
own_alone [] (j ∷ js) old new h = absurd h
own_alone (t ∷ ts) [] old new h = absurd h
own_alone (t ∷ ts) (unread refusal ∷ js) old new h = subst (λ (s : Held). HasJudged s (own_of ts js) (judgements_of_own js) new) h.1.0 (own_alone ts js h.0 new h.2)
own_alone (t ∷ ts) (discovery ∷ js) old new h = subst (λ (s : Held). HasJudged s (own_of ts js) (judgements_of_own js) new) h.1.0 (own_alone ts js h.0 new h.2)
own_alone (t ∷ ts) (sent_by given in_window ∷ js) old new h = (h.0, h.1, own_alone ts js h.0 new h.2)
own_alone (t ∷ ts) (sent_to given verdict ∷ js) old new h = subst (λ (s : Held). HasJudged s (own_of ts js) (judgements_of_own js) new) h.1.0 (own_alone ts js h.0 new h.2)

abbrev AreOwn : List Judgement → Type 0
AreOwn [] = Unit {0}
AreOwn (sent_by given in_window ∷ js) = AreOwn js
AreOwn _ = ⊥

are_own : (js : List Judgement) → AreOwn (judgements_of_own js)
are_own [] = tt
are_own (unread refusal ∷ js) = are_own js
are_own (discovery ∷ js) = are_own js
are_own (sent_by given in_window ∷ js) = are_own js
are_own (sent_to given verdict ∷ js) = are_own js

module _ (step : (old new other : Held) (now : ℕ) (w : List ℕ) (g h : Given) (a b : Bool) → IsSentBy old now w g a new → IsSentBy old now w h b other → (new ≡ other) × (sent_by g a ≡ sent_by h b)) where
  runs_one : (ts : List (ℕ × List ℕ)) (js ks : List Judgement) (old new other : Held) → AreOwn js → AreOwn ks → HasJudged old ts js new → HasJudged old ts ks other → (new ≡ other) × (js ≡ ks)
  runs_one [] [] [] old new other p q h k = (h ∙ sym k, refl)
  runs_one [] [] (k ∷ ks) old new other p q h x = absurd x
  runs_one [] (j ∷ js) ks old new other p q h x = absurd h
  runs_one (t ∷ ts) [] ks old new other p q h x = absurd h
  runs_one (t ∷ ts) (sent_by g a ∷ js) [] old new other p q h x = absurd x
  runs_one (t ∷ ts) (sent_by g a ∷ js) (unread r ∷ ks) old new other p q h x = absurd q
  runs_one (t ∷ ts) (sent_by g a ∷ js) (discovery ∷ ks) old new other p q h x = absurd q
  runs_one (t ∷ ts) (sent_by g a ∷ js) (sent_to f v ∷ ks) old new other p q h x = absurd q
  runs_one (t ∷ ts) (sent_by g a ∷ js) (sent_by f b ∷ ks) old new other p q h x =
      let first = step old h.0 x.0 t.0 t.1 g f a b h.1 x.1 in
      let rest = runs_one ts js ks h.0 new other p q h.2 (subst (λ (s : Held). HasJudged s ts ks other) (sym first.0) x.2) in
      (rest.0, λ i. first.1 i ∷ rest.1 i)
  runs_one (t ∷ ts) _ ks old new other p q h x = absurd p

  pub same_own : (begin one other : Held) (xs ys : List (ℕ × List ℕ)) (js ks : List Judgement) → HasJudged begin xs js one → HasJudged begin ys ks other → own_of xs js ≡ own_of ys ks
      → (one ≡ other) × (judgements_of_own js ≡ judgements_of_own ks)
  same_own begin one other xs ys js ks h k same =
      runs_one (own_of xs js) (judgements_of_own js) (judgements_of_own ks) begin one other (are_own js) (are_own ks) (own_alone xs js begin one h)
      (subst (λ (zs : List (ℕ × List ℕ)). HasJudged begin zs (judgements_of_own ks) other) (sym same) (own_alone ys ks begin other k))

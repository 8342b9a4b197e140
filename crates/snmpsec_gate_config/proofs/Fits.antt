-- Receivers to which notifications can be sent.
use Rattle.std.proofs.Common.{◌≡◌, ◌<◌, ◌≤◌, ◌+◌, ◌⊎◌, ℕ, zero, suc, List, length, take, get_or, inl, inr, refl, sym, ap, ◌∙◌, subst, arith}
use Rattle.std.proofs.lemmas.Option.{get_or_from_slice_get, slice_get_within}
use Rattle.usm_users.specs.declared.load.UserRow.{UserRow}
use Rattle.snmpsec_gate_config.specs.declared.settings.ReceiverSettings.{ReceiverSettings}
use Rattle.snmpsec_gate_config.specs.Receivers.{AreReceivers, IsFit, IsFitAt}

-- a number up to the last
last_or_below : (k i : ℕ) → k < i + 1 → (k < i) ⊎ (k ≡ i)
last_or_below zero zero lt = inr refl
last_or_below zero (suc i) lt = inl (omega arith)
last_or_below (suc k) zero lt = absurd (omega (arith, lt))
last_or_below (suc k) (suc i) lt = elim (last_or_below k i (omega (arith, lt))) [ inl below ↦ inl (omega (arith, below)) | inr same ↦ inr (ap suc same) ]

module _ (users : List UserRow) (receivers : List ReceiverSettings) where
  -- the one at this place
  pub fit_here : (i : ℕ) (own : ReceiverSettings) → own ≡ get_or receivers i own → IsFit users (take i receivers) own → IsFitAt users receivers i
  fit_here i own is fit receiver there = subst (λ (r : ReceiverSettings). IsFit users (take i receivers) r) (is ∙ get_or_from_slice_get receivers i receiver own there) fit

  -- one more
  pub fit_more : (i : ℕ) (own : ReceiverSettings) → own ≡ get_or receivers i own → IsFit users (take i receivers) own → ((k : ℕ) → k < i → IsFitAt users receivers k) → (k : ℕ) → k < i + 1 → IsFitAt users receivers k
  fit_more i own is fit before k lt = elim (last_or_below k i lt) [ inl below ↦ before k below | inr same ↦ subst (λ (n : ℕ). IsFitAt users receivers n) (sym same) (fit_here i own is fit) ]

  -- all
  pub fit_all : (i : ℕ) → length receivers ≤ i → ((k : ℕ) → k < i → IsFitAt users receivers k) → AreReceivers users receivers
  fit_all i past before k receiver there = let lt = slice_get_within receivers k receiver there in before k (omega (arith, lt, past)) receiver there

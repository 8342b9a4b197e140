-- Octets that are compared by the or of their differences.
use Rattle.std.proofs.Common.{◌≡◌, ◌+◌, ◌<◌, ◌⊎◌, inl, inr, ℕ, List, get_or, length, refl, sym, ap, ◌∙◌, arith}
use Rattle.std.proofs.Math.Nat.{eq-or-lt_of_le}
use Rattle.std.specs.Prelude.{bit_or, bit_xor}
use Rattle.std.specs.Int.Bits.{xor_assoc, xor_self, xor_zero_l, xor_zero_r}
use Rattle.std.proofs.lemmas.Nat.{le_or_l, le_or_r}
use Rattle.std.proofs.lemmas.List.{ext_get_or}

abbrev pub AreSameBelow : List ℕ → List ℕ → ℕ → Type 0
AreSameBelow xs ys k = (i : ℕ) → i < k → get_or xs i 0 ≡ get_or ys i 0

or_left : (x y : ℕ) → bit_or x y ≡ 0 → x ≡ 0
or_left x y e = omega (arith, le_or_l x y)

or_right : (x y : ℕ) → bit_or x y ≡ 0 → y ≡ 0
or_right x y e = omega (arith, le_or_r x y)

xor_none : (x y : ℕ) → bit_xor x y ≡ 0 → x ≡ y
xor_none x y e = sym (xor_zero_r x) ∙ ap (bit_xor x) (sym (xor_self y)) ∙ sym (xor_assoc x y y) ∙ ap (λ (z : ℕ). bit_xor z y) e ∙ xor_zero_l y

pub more_same : (xs ys : List ℕ) (k d : ℕ) → (d ≡ 0 → AreSameBelow xs ys k) → bit_or d (bit_xor (get_or xs k 0) (get_or ys k 0)) ≡ 0 → AreSameBelow xs ys (k + 1)
more_same xs ys k d before e i below = let cases : (i ≡ k) ⊎ (i < k) = eq-or-lt_of_le (omega arith) in elim cases [
  | inr h ↦ before (or_left d _ e) i h
  | inl h ↦ ap (λ (j : ℕ). get_or xs j 0) h ∙ xor_none (get_or xs k 0) (get_or ys k 0) (or_right d _ e) ∙ ap (λ (j : ℕ). get_or ys j 0) (sym h)
]

pub still_none : (xs ys : List ℕ) (k d : ℕ) → xs ≡ ys → d ≡ 0 → bit_or d (bit_xor (get_or xs k 0) (get_or ys k 0)) ≡ 0
still_none xs ys k d e none =
    let x : bit_xor (get_or xs k 0) (get_or ys k 0) ≡ 0 = ap (λ (z : List ℕ). bit_xor (get_or xs k 0) (get_or z k 0)) (sym e) ∙ xor_self (get_or xs k 0) in
    rw (none, x) refl

pub all_same : (xs ys : List ℕ) → length xs ≡ length ys → AreSameBelow xs ys (length xs) → xs ≡ ys
all_same xs ys e h = ext_get_or 0 xs ys e h

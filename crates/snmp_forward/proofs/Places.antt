-- The places of the elements with a property, as one element more is looked at.
use Rattle.std.specs.Prelude.{◌≡◌, ◌<◌, ℕ, zero, suc, List, [], ◌∷◌, ◌++◌, length, Contains, Some, slice_get, slice_index_or, take, ◌+◌}
use Rattle.std.proofs.Common.{refl, sym, ap, subst, ◌∙◌, inl, inr, ◌⊎◌, arith}
use Rattle.std.proofs.lemmas.Option.{same_Some, slice_get_within}
use Rattle.std.proofs.lemmas.List.{length-take-le, take_more}
use Rattle.std.proofs.lemmas.List.Elements.{Contains-append_left, Contains-get_or, Contains-push, Contains-push_cases}
use Rattle.std.proofs.lemmas.List.Quantifiers.{all_pairs_push}
use Rattle.snmp_forward.specs.Receivers.{ArePlaces, HasAt}

module _ {A : Type 0} where
  length_front : (xs : List A) (i : ℕ) → i < length xs → length (take i xs) ≡ i
  length_front xs i within = length-take-le i xs (omega (arith, within))

  get_old : (xs : List A) (x y : A) (n : ℕ) → slice_get xs n ≡ Some y → slice_get (xs ++ x ∷ []) n ≡ Some y
  get_old [] x y n is = absurd (cc is)
  get_old (a ∷ xs) x y zero is = is
  get_old (a ∷ xs) x y (suc n) is = get_old xs x y n is

  get_new : (xs : List A) (x : A) → slice_get (xs ++ x ∷ []) (length xs) ≡ Some x
  get_new [] x = refl
  get_new (a ∷ xs) x = get_new xs x

  get_cases : (xs : List A) (x y : A) (n : ℕ) → slice_get (xs ++ x ∷ []) n ≡ Some y → (slice_get xs n ≡ Some y) ⊎ ((n ≡ length xs) × (x ≡ y))
  get_cases [] x y zero is = inr (refl, same_Some x y is)
  get_cases [] x y (suc n) is = absurd (cc is)
  get_cases (a ∷ xs) x y zero is = inl is
  get_cases (a ∷ xs) x y (suc n) is = elim (get_cases xs x y n is) [
    | inl old ↦ inl old
    | inr (at, same) ↦ inr (ap suc at, same)
  ]

  module _ (P : A → Type 0) where
    less : (xs : List A) (ns : List ℕ) → ArePlaces P xs ns → (k d : ℕ) → k < length ns → slice_index_or ns k d < length xs
    less xs ns are k d within =
        let at = (are.each (slice_index_or ns k d)).0 (Contains-get_or ns k d within) in
        slice_get_within xs (slice_index_or ns k d) at.0 at.1

    -- a place of all of them is one of those before, or the last
    of_more : (xs : List A) (x : A) (n : ℕ) → HasAt P (xs ++ x ∷ []) n → HasAt P xs n ⊎ ((n ≡ length xs) × P x)
    of_more xs x n at = elim (get_cases xs x at.0 n at.1) [
      | inl old ↦ inl (at.0, old, at.2)
      | inr (is, same) ↦ inr (is, subst P (sym same) at.2)
    ]

    pub places_more : (xs : List A) (x : A) (ns : List ℕ) → ArePlaces P xs ns → P x → ArePlaces P (xs ++ x ∷ []) (ns ++ length xs ∷ [])
    places_more xs x ns are p = record {
      rise = all_pairs_push (λ (a b : ℕ). a < b) ns (length xs) are.rise (less xs ns are);
      each = λ n. (
        (λ there. elim (Contains-push_cases ns (length xs) n there) [
          | inl old ↦ let at = (are.each n).0 old in (at.0, get_old xs x at.0 n at.1, at.2)
          | inr is ↦ (x, subst (λ (m : ℕ). slice_get (xs ++ x ∷ []) m ≡ Some x) is (get_new xs x), p)
        ]),
        (λ at. elim (of_more xs x n at) [
          | inl old ↦ Contains-append_left ns (length xs ∷ []) n ((are.each n).1 old)
          | inr (is, has) ↦ subst (λ (m : ℕ). Contains (ns ++ length xs ∷ []) m) (sym is) (Contains-push ns (length xs))
        ]),
      );
    }

    pub places_same : (xs : List A) (x : A) (ns : List ℕ) → ArePlaces P xs ns → ¬ P x → ArePlaces P (xs ++ x ∷ []) ns
    places_same xs x ns are never = record {
      rise = are.rise;
      each = λ n. (
        (λ there. let at = (are.each n).0 there in (at.0, get_old xs x at.0 n at.1, at.2)),
        (λ at. elim (of_more xs x n at) [
          | inl old ↦ (are.each n).1 old
          | inr (is, has) ↦ absurd (never has)
        ]),
      );
    }

    pub no_places : ArePlaces P [] []
    no_places = record {
      rise = λ i j d less within. absurd (omega (arith, within));
      each = λ n. ((λ there. absurd (omega (arith, there.1))), (λ at. absurd (cc at.1)));
    }

    -- the same, of the elements up to a place
    pub places_at : (xs : List A) (i : ℕ) (x : A) (ns : List ℕ) → i < length xs → x ≡ slice_index_or xs i x → ArePlaces P (take i xs) ns → P x → ArePlaces P (take (i + 1) xs) (ns ++ i ∷ [])
    places_at xs i x ns within is are p =
        let front : take (i + 1) xs ≡ take i xs ++ x ∷ [] = take_more xs i x within ∙ ap (λ (y : A). take i xs ++ y ∷ []) (sym is) in
        subst (λ (ys : List A). ArePlaces P ys (ns ++ i ∷ [])) (sym front)
        (subst (λ (n : ℕ). ArePlaces P (take i xs ++ x ∷ []) (ns ++ n ∷ [])) (length_front xs i within) (places_more (take i xs) x ns are p))

    pub places_past : (xs : List A) (i : ℕ) (x : A) (ns : List ℕ) → i < length xs → x ≡ slice_index_or xs i x → ArePlaces P (take i xs) ns → ¬ P x → ArePlaces P (take (i + 1) xs) ns
    places_past xs i x ns within is are never =
        let front : take (i + 1) xs ≡ take i xs ++ x ∷ [] = take_more xs i x within ∙ ap (λ (y : A). take i xs ++ y ∷ []) (sym is) in
        subst (λ (ys : List A). ArePlaces P ys ns) (sym front) (places_same (take i xs) x ns are never)

-- Names in lexicographic order, by what they begin with.
use Rattle.std.proofs.Common.{◌≡◌, ◌≢◌, ℕ, ◌<◌, ◌≤◌, ◌⊎◌, true, false, List, [], ◌∷◌, ◌++◌, sym, ap, ◌∙◌, refl, inl, inr, arith}
use Rattle.std.proofs.lemmas.Bool.{cases_lt}
use Rattle.std.proofs.lemmas.Bool.Decides.{nat_tests}
use Rattle.std.proofs.lemmas.Cmp.{nat_cmp_total, nat_list_cmp_total, tied_itself, upto}
use Rattle.std.specs.Cmp.Lexicographic.{slice_cmp}
use Rattle.std.specs.Ordering.{nat_cmp, ordering_then, ordering_reverse, is_gt}
use Rattle.std.specs.declared.cmp.Ordering.{Ordering}
use Rattle.std.specs.declared.cmp.Ordering.TheVariants.{Less, Equal, Greater}
use Rattle.vacm_next.specs.Next.{IsBefore, IsUpto}

-- ---- two numbers

pub is_less : (x y : ℕ) → x < y → nat_cmp x y ≡ Less
is_less x y h = grind (arith, nat_tests)

pub is_greater : (x y : ℕ) → y < x → nat_cmp x y ≡ Greater
is_greater x y h = grind (arith, nat_tests)

pub is_tied : (x : ℕ) → nat_cmp x x ≡ Equal
is_tied x = tied_itself nat_cmp_total x

pub which : (x y : ℕ) → (x < y) ⊎ (x ≡ y) ⊎ (y < x)
which x y = elim (cases_lt x y) [
  | inl less ↦ inl less
  | inr from ↦ elim (cases_lt y x) [
    | inl more ↦ inr (inr more)
    | inr upto ↦ inr (inl (omega (arith, from, upto)))
  ]
]

-- ---- what two names begin with

-- a common beginning doesn't decide
pub same_beginning : (w xs ys : List ℕ) → slice_cmp nat_cmp (w ++ xs) (w ++ ys) ≡ slice_cmp nat_cmp xs ys
same_beginning [] xs ys = refl
same_beginning (x ∷ w) xs ys = ap (λ o. ordering_then o (slice_cmp nat_cmp (w ++ xs) (w ++ ys))) (is_tied x) ∙ same_beginning w xs ys

-- a name between two that begin alike begins so too
pub between : (w xs ys z : List ℕ) → IsUpto (w ++ xs) z → IsBefore z (w ++ ys) → (rest : List ℕ) × (z ≡ w ++ rest)
between [] xs ys z low high = (z, refl)
between (x ∷ w) xs ys [] low high = absurd (low refl)
between (x ∷ w) xs ys (y ∷ z) low high = elim (which x y) [
  | inl less ↦
      let e : Greater ≡ Less = sym (ap (λ o. ordering_then o (slice_cmp nat_cmp z (w ++ ys))) (is_greater y x less)) ∙ high in cc
  | inr (inl same) ↦
      let down : nat_cmp x y ≡ Equal = ap (nat_cmp x) (sym same) ∙ is_tied x in
      let up : nat_cmp y x ≡ Equal = ap (nat_cmp y) same ∙ is_tied y in
      let more = between w xs ys z
      (λ e. low (ap (λ o. ordering_then o (slice_cmp nat_cmp (w ++ xs) z)) down ∙ e))
      (sym (ap (λ o. ordering_then o (slice_cmp nat_cmp z (w ++ ys))) up) ∙ high) in
      (more.0, ap (λ n. n ∷ z) (sym same) ∙ ap (λ zs. x ∷ zs) more.1)
  | inr (inr more) ↦ absurd (low (ap (λ o. ordering_then o (slice_cmp nat_cmp (w ++ xs) z)) (is_greater x y more)))
]

-- a name comes before another one, or it is at or after it
pub before_or_from : (x y : List ℕ) → IsBefore x y ⊎ IsUpto y x
before_or_from x y = by (slice_cmp nat_cmp x y) refl
  where
    back : slice_cmp nat_cmp y x ≡ ordering_reverse (slice_cmp nat_cmp x y)
    back = nat_list_cmp_total.antisymm y x

    by : (o : Ordering) → slice_cmp nat_cmp x y ≡ o → IsBefore x y ⊎ IsUpto y x
    by Less e = inl e
    by Equal e = inr (λ g. let h : Equal ≡ Greater = sym (ap ordering_reverse e) ∙ sym back ∙ g in cc)
    by Greater e = inr (λ g. let h : Less ≡ Greater = sym (ap ordering_reverse e) ∙ sym back ∙ g in cc)

-- the arc after a common beginning, of a name that comes before
pub arc_before : (w rest : List ℕ) (a : ℕ) → IsBefore (w ++ rest) (w ++ a ∷ []) → (rest ≡ []) ⊎ ((b : ℕ) × (more : List ℕ) × (b < a) × (rest ≡ b ∷ more))
arc_before w rest a before = by rest (sym (same_beginning w rest (a ∷ [])) ∙ before)
  where
    by : (rest : List ℕ) → slice_cmp nat_cmp rest (a ∷ []) ≡ Less → (rest ≡ []) ⊎ ((b : ℕ) × (more : List ℕ) × (b < a) × (rest ≡ b ∷ more))
    by [] h = inl refl
    by (b ∷ []) h = elim (which b a) [
      | inl less ↦ inr (b, [], less, refl)
      | inr (inl same) ↦ let e : Equal ≡ Less = sym (ap (λ o. ordering_then o Equal) (ap (nat_cmp b) (sym same) ∙ is_tied b)) ∙ h in cc
      | inr (inr more) ↦ let e : Greater ≡ Less = sym (ap (λ o. ordering_then o Equal) (is_greater b a more)) ∙ h in cc
    ]
    by (b ∷ c ∷ more) h = elim (which b a) [
      | inl less ↦ inr (b, c ∷ more, less, refl)
      | inr (inl same) ↦ let e : Greater ≡ Less = sym (ap (λ o. ordering_then o Greater) (ap (nat_cmp b) (sym same) ∙ is_tied b)) ∙ h in cc
      | inr (inr over) ↦ let e : Greater ≡ Less = sym (ap (λ o. ordering_then o Greater) (is_greater b a over)) ∙ h in cc
    ]

-- the arc after a common beginning, of a name that comes no earlier
pub arc_from : (w tail rest : List ℕ) (a : ℕ) → IsUpto (w ++ a ∷ tail) (w ++ rest) → (b : ℕ) × (more : List ℕ) × (a ≤ b) × (rest ≡ b ∷ more)
arc_from w tail rest a upto = by rest (λ e. upto (same_beginning w (a ∷ tail) rest ∙ e))
  where
    by : (rest : List ℕ) → slice_cmp nat_cmp (a ∷ tail) rest ≢ Greater → (b : ℕ) × (more : List ℕ) × (a ≤ b) × (rest ≡ b ∷ more)
    by [] h = absurd (h refl)
    by (b ∷ more) h = elim (which a b) [
      | inl less ↦ (b, more, omega (arith, less), refl)
      | inr (inl same) ↦ (b, more, omega (arith, same), refl)
      | inr (inr over) ↦ absurd (h (ap (λ o. ordering_then o (slice_cmp nat_cmp tail more)) (is_greater a b over)))
    ]

-- a beginning comes before what is longer
pub beginning_upto : (w rest : List ℕ) → IsUpto w (w ++ rest)
beginning_upto [] [] e = cc
beginning_upto [] (r ∷ rest) e = cc
beginning_upto (x ∷ w) rest e = beginning_upto w rest (sym (ap (λ o. ordering_then o (slice_cmp nat_cmp w (w ++ rest))) (is_tied x)) ∙ e)

-- names that go on with a greater arc come later
pub later_arc : (w tail more : List ℕ) (a b : ℕ) → a < b → IsUpto (w ++ a ∷ tail) (w ++ b ∷ more)
later_arc w tail more a b less e =
    let h : Less ≡ Greater = sym (ap (λ o. ordering_then o (slice_cmp nat_cmp tail more)) (is_less a b less)) ∙ sym (same_beginning w (a ∷ tail) (b ∷ more)) ∙ e in cc

not_greater : (o : Ordering) → o ≢ Greater → is_gt o ≡ false
not_greater Less h = refl
not_greater Equal h = refl
not_greater Greater h = absurd (h refl)

-- at or after a name that is at or after another one
pub upto_trans : (x y z : List ℕ) → IsUpto x y → IsUpto y z → IsUpto x z
upto_trans x y z first second e =
    let h = upto nat_list_cmp_total x y z (not_greater _ first) (not_greater _ second) in
    let no : true ≡ false = sym (ap is_gt e) ∙ h in cc

-- a name isn't before one that it comes no earlier than
pub not_both : (x y : List ℕ) → IsUpto x y → IsBefore y x → ⊥
not_both x y upto before = upto (nat_list_cmp_total.antisymm x y ∙ ap ordering_reverse before)

pub before_is_upto : (x y : List ℕ) → IsBefore x y → IsUpto x y
before_is_upto x y before e = let h : Less ≡ Greater = sym before ∙ e in cc

-- before a name, and so before all that come no earlier
pub before_upto : (x y z : List ℕ) → IsBefore x y → IsUpto y z → IsBefore x z
before_upto x y z before upto = elim (before_or_from x z) [
  | inl less ↦ less
  | inr from ↦ absurd (not_both y x (upto_trans y z x upto from) before)
]

-- a beginning is before what is longer
pub before_longer : (w more : List ℕ) (a : ℕ) → IsBefore w (w ++ a ∷ more)
before_longer [] more a = refl
before_longer (x ∷ w) more a = ap (λ o. ordering_then o (slice_cmp nat_cmp w (w ++ a ∷ more))) (is_tied x) ∙ before_longer w more a

-- names that go on with a greater arc come later
pub before_later_arc : (w tail more : List ℕ) (a b : ℕ) → a < b → IsBefore (w ++ a ∷ tail) (w ++ b ∷ more)
before_later_arc w tail more a b less = same_beginning w (a ∷ tail) (b ∷ more) ∙ ap (λ o. ordering_then o (slice_cmp nat_cmp tail more)) (is_less a b less)

from_nothing : (xs : List ℕ) → IsUpto [] xs
from_nothing [] e = cc
from_nothing (x ∷ xs) e = cc

-- what comes after a name comes no earlier than the name with a 0 behind it
pub next_is : (w z : List ℕ) → IsBefore w z → IsUpto (w ++ 0 ∷ []) z
next_is [] [] before = cc
next_is [] (b ∷ z) before = elim (which 0 b) [
  | inl less ↦ λ e. let h : Less ≡ Greater = sym (ap (λ o. ordering_then o (slice_cmp nat_cmp [] z)) (is_less 0 b less)) ∙ e in cc
  | inr (inl same) ↦ λ e. from_nothing z (sym (ap (λ o. ordering_then o (slice_cmp nat_cmp [] z)) (ap (nat_cmp 0) (sym same) ∙ is_tied 0)) ∙ e)
  | inr (inr more) ↦ absurd (omega (arith, more))
]
next_is (x ∷ w) [] before = cc
next_is (x ∷ w) (y ∷ z) before = elim (which x y) [
  | inl less ↦ λ e. let h : Less ≡ Greater = sym (ap (λ o. ordering_then o (slice_cmp nat_cmp (w ++ 0 ∷ []) z)) (is_less x y less)) ∙ e in cc
  | inr (inl same) ↦
      let tie : nat_cmp x y ≡ Equal = ap (nat_cmp x) (sym same) ∙ is_tied x in
      λ e. next_is w z (sym (ap (λ o. ordering_then o (slice_cmp nat_cmp w z)) tie) ∙ before) (sym (ap (λ o. ordering_then o (slice_cmp nat_cmp (w ++ 0 ∷ []) z)) tie) ∙ e)
  | inr (inr more) ↦ absurd (let h : Greater ≡ Less = sym (ap (λ o. ordering_then o (slice_cmp nat_cmp w z)) (is_greater x y more)) ∙ before in cc)
]

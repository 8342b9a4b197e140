-- Patterns, and the variables that begin with them.
use Rattle.std.proofs.Common.{◌≡◌, ℕ, zero, suc, ◌+◌, ◌<◌, ◌≤◌, Bool, true, false, ◌&&◌, List, [], ◌∷◌, length, Option, Some, None, sym, ap, ◌∙◌, subst, refl, arith}
use Rattle.std.specs.Prelude.{slice_index, nat_eq, if◌then◌else◌, ◌==◌}
use Rattle.std.specs.List.{starts_with}
use Rattle.std.proofs.lemmas.Bool.Decides.{Decides-eqb}
use Rattle.vacm_core.specs.declared.rows.FamilyRow.{FamilyRow}
use Rattle.vacm_core.specs.Allowed.{mask_bit}
use Rattle.vacm_core.specs.View.{IsExact, HasArcs}
use Rattle.snmpsec_access.specs.Seen.{fits, pattern_from, line_of}

and_true : (a b : Bool) → (a && b) ≡ true → (a ≡ true) × (b ≡ true)
and_true true b h = (refl, h)
and_true false b h = absurd (let e : false ≡ true = h in cc)

both_true : (a b : Bool) → a ≡ true → b ≡ true → (a && b) ≡ true
both_true a b p q = rw (p, q) refl

-- ---- a pattern and the arcs that a mask compares

-- the arcs that the mask compares, from this place on, are equal
record Agrees (k : ℕ) (mask subtree variable : List ℕ) : Type 0 where
  long : length subtree ≤ length variable
  arcs : (j : ℕ) → j < length subtree → mask_bit mask (k + j) ≡ 1 → slice_index subtree j ≡ slice_index variable j

module _ (k : ℕ) (mask : List ℕ) (a : ℕ) (arcs : List ℕ) (v : ℕ) (vs : List ℕ) where
  here : k + 0 ≡ k
  here = omega arith

  further : (i : ℕ) → k + suc i ≡ k + 1 + i
  further i = omega arith

  Agrees-cons : (mask_bit mask k ≡ 1 → a ≡ v) → Agrees (k + 1) mask arcs vs → Agrees k mask (a ∷ arcs) (v ∷ vs)
  Agrees-cons first more = record { long = let l = more.long in omega arith; arcs = at }
    where
      at : (j : ℕ) → j < length (a ∷ arcs) → mask_bit mask (k + j) ≡ 1 → slice_index (a ∷ arcs) j ≡ slice_index (v ∷ vs) j
      at zero within bit = first (subst (λ n. mask_bit mask n ≡ 1) here bit)
      at (suc i) within bit = more.arcs i (omega (arith, within)) (subst (λ n. mask_bit mask n ≡ 1) (further i) bit)

  Agrees-head : Agrees k mask (a ∷ arcs) (v ∷ vs) → mask_bit mask k ≡ 1 → a ≡ v
  Agrees-head all bit = all.arcs 0 (omega arith) (subst (λ n. mask_bit mask n ≡ 1) (sym here) bit)

  Agrees-tail : Agrees k mask (a ∷ arcs) (v ∷ vs) → Agrees (k + 1) mask arcs vs
  Agrees-tail all = record {
    long = let l = all.long in omega arith;
    arcs = λ j within bit. all.arcs (suc j) (omega (arith, within)) (subst (λ n. mask_bit mask n ≡ 1) (sym (further j)) bit);
  }

  -- the first arc of a pattern, by whether the mask compares it
  first_fits : (compared : Bool) (pattern : List (Option ℕ)) → fits ((if compared then Some a else None) ∷ pattern) (v ∷ vs) ≡ true → (compared ≡ true → a ≡ v) × (fits pattern vs ≡ true)
  first_fits true pattern h = let parts = and_true (a == v) (fits pattern vs) h in (λ _. (Decides-eqb a v).0 parts.0, parts.1)
  first_fits false pattern h = (λ e. absurd (let f : false ≡ true = e in cc), h)

  fits_first : (compared : Bool) (pattern : List (Option ℕ)) → (compared ≡ true → a ≡ v) → fits pattern vs ≡ true → fits ((if compared then Some a else None) ∷ pattern) (v ∷ vs) ≡ true
  fits_first true pattern first rest = both_true (a == v) (fits pattern vs) ((Decides-eqb a v).1 (first refl)) rest
  fits_first false pattern first rest = rest

agrees_where_fits : (k : ℕ) (mask subtree variable : List ℕ) → fits (pattern_from k mask subtree) variable ≡ true → Agrees k mask subtree variable
agrees_where_fits k mask [] variable h = record { long = omega arith; arcs = λ j within bit. absurd (omega (arith, within)) }
agrees_where_fits k mask (a ∷ arcs) [] h = absurd (let e : false ≡ true = h in cc)
agrees_where_fits k mask (a ∷ arcs) (v ∷ vs) h =
    let parts = first_fits k mask a arcs v vs (mask_bit mask k == 1) (pattern_from (k + 1) mask arcs) h in
    Agrees-cons k mask a arcs v vs (λ bit. parts.0 ((Decides-eqb (mask_bit mask k) 1).1 bit)) (agrees_where_fits (k + 1) mask arcs vs parts.1)

fits_where_agrees : (k : ℕ) (mask subtree variable : List ℕ) → Agrees k mask subtree variable → fits (pattern_from k mask subtree) variable ≡ true
fits_where_agrees k mask [] variable all = refl
fits_where_agrees k mask (a ∷ arcs) [] all = absurd (let l = all.long in omega arith)
fits_where_agrees k mask (a ∷ arcs) (v ∷ vs) all =
    fits_first k mask a arcs v vs (mask_bit mask k == 1) (pattern_from (k + 1) mask arcs)
    (λ compared. Agrees-head k mask a arcs v vs all ((Decides-eqb (mask_bit mask k) 1).0 compared))
    (fits_where_agrees (k + 1) mask arcs vs (Agrees-tail k mask a arcs v vs all))

from_zero : (j : ℕ) → 0 + j ≡ j
from_zero j = omega arith

-- the line of a row fits the variables that its subtree has
pub has_where_fits : (row : FamilyRow) (variable : List ℕ) → fits (line_of row).pattern variable ≡ true → HasArcs variable row
has_where_fits row variable h =
    let all = agrees_where_fits 0 row.mask row.subtree variable h in
    record { long = all.long; arcs = λ j within bit. all.arcs j within (subst (λ n. mask_bit row.mask n ≡ 1) (sym (from_zero j)) bit) }

pub fits_where_has : (row : FamilyRow) (variable : List ℕ) → HasArcs variable row → fits (line_of row).pattern variable ≡ true
fits_where_has row variable has =
    fits_where_agrees 0 row.mask row.subtree variable (record { long = has.long; arcs = λ j within bit. has.arcs j within (subst (λ n. mask_bit row.mask n ≡ 1) (from_zero j) bit) })

-- ---- a subtree without a wildcard

-- the variable begins with the subtree
abbrev pub begins : List ℕ → List ℕ → Bool
begins subtree variable = starts_with nat_eq variable subtree

exact_from : (k : ℕ) (mask subtree variable : List ℕ) → ((j : ℕ) → j < length subtree → mask_bit mask (k + j) ≡ 1) → fits (pattern_from k mask subtree) variable ≡ begins subtree variable
exact_from k mask [] variable exact = refl
exact_from k mask (a ∷ arcs) [] exact = refl
exact_from k mask (a ∷ arcs) (v ∷ vs) exact =
    let compared : mask_bit mask k ≡ 1 = subst (λ n. mask_bit mask n ≡ 1) (here k mask a arcs v vs) (exact 0 (omega arith)) in
    let test : (mask_bit mask k == 1) ≡ true = (Decides-eqb (mask_bit mask k) 1).1 compared in
    let rest : fits (pattern_from (k + 1) mask arcs) vs ≡ begins arcs vs = exact_from (k + 1) mask arcs vs (λ j within. subst (λ n. mask_bit mask n ≡ 1) (further k mask a arcs v vs j) (exact (suc j) (omega (arith, within)))) in
    ap (λ b. fits ((if b then Some a else None) ∷ pattern_from (k + 1) mask arcs) (v ∷ vs)) test ∙ ap (λ b. (a == v) && b) rest

pub fits_exact : (row : FamilyRow) (variable : List ℕ) → IsExact row → fits (line_of row).pattern variable ≡ begins row.subtree variable
fits_exact row variable exact = exact_from 0 row.mask row.subtree variable (λ j within. rw (from_zero j) (exact j within))

pub begins_itself : (subtree : List ℕ) → begins subtree subtree ≡ true
begins_itself [] = refl
begins_itself (a ∷ arcs) = both_true (a == a) (begins arcs arcs) ((Decides-eqb a a).1 refl) (begins_itself arcs)

-- a subtree that isn't longer begins a variable where it begins a subtree that does
pub begins_both : (shorter subtree variable : List ℕ) → begins subtree variable ≡ true → length shorter ≤ length subtree → begins shorter variable ≡ begins shorter subtree
begins_both [] subtree variable h short = refl
begins_both (s ∷ ss) [] variable h short = absurd (omega (arith, short))
begins_both (s ∷ ss) (a ∷ arcs) [] h short = absurd (let e : false ≡ true = h in cc)
begins_both (s ∷ ss) (a ∷ arcs) (v ∷ vs) h short =
    let parts = and_true (a == v) (begins arcs vs) h in
    let same : a ≡ v = (Decides-eqb a v).0 parts.0 in
    let rest : begins ss vs ≡ begins ss arcs = begins_both ss arcs vs parts.1 (omega (arith, short)) in
    ap (λ x. (s == x) && begins ss vs) (sym same) ∙ ap (λ b. (s == a) && b) rest

-- one that isn't shorter begins only itself
pub begins_as_long : (subtree variable : List ℕ) → begins subtree variable ≡ true → length variable ≤ length subtree → subtree ≡ variable
begins_as_long [] [] h short = refl
begins_as_long [] (v ∷ vs) h short = absurd (omega (arith, short))
begins_as_long (a ∷ arcs) [] h short = absurd (let e : false ≡ true = h in cc)
begins_as_long (a ∷ arcs) (v ∷ vs) h short =
    let parts = and_true (a == v) (begins arcs vs) h in
    let first : a ≡ v = (Decides-eqb a v).0 parts.0 in
    let rest : arcs ≡ vs = begins_as_long arcs vs parts.1 (omega (arith, short)) in
    rw (first, rest) refl

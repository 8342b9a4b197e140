-- The least name in a view: down to it, and up from a name that opens nothing.
use Rattle.std.proofs.Common.{◌≡◌, ℕ, ◌+◌, ◌^◌, ◌<◌, ◌≤◌, List, [], ◌∷◌, ◌++◌, length, sym, ap, subst, ◌∙◌, refl, inl, inr, arith, append_assoc, length-append, take, drop, get_or, ◌-◌}
use Rattle.std.specs.declared.cmp.Ordering.TheVariants.{Equal, Greater}
use Rattle.std.proofs.lemmas.Cmp.{nat_list_cmp_total, tied_itself}
use Rattle.std.proofs.lemmas.List.{append-nil, take_more, take-append-drop}
use Rattle.std.specs.List.{AllByRecursion}
use Rattle.snmp_ber.specs.Oid.{AreArcs}
use Rattle.vacm_core.specs.declared.rows.FamilyRow.{FamilyRow}
use Rattle.vacm_core.specs.View.{Includes}
use Rattle.vacm_next.specs.Next.{IsBefore, IsUpto, IsLeastFrom}
use Rattle.vacm_next.specs.Opening.{Opens, OpensAt, IsLeastArc}
use Rattle.vacm_next.proofs.Order.{which, between, before_or_from, arc_before, arc_from, later_arc, upto_trans}

pub upto_itself : (w : List ℕ) → IsUpto w w
upto_itself w e = let h : Equal ≡ Greater = sym (tied_itself nat_list_cmp_total w) ∙ e in cc

-- from one name on none is seen before another one, from which the least is known
pub least_on : (Seen : List ℕ → Type 0) (start next name : List ℕ) → IsUpto start next → ((other : List ℕ) → AreArcs other → IsUpto start other → IsBefore other next → ¬ Seen other)
    → IsLeastFrom Seen next name → IsLeastFrom Seen start name
least_on Seen start next name upto none least = record {
  are_arcs = least.are_arcs;
  seen = least.seen;
  from_on = upto_trans start next name upto least.from_on;
  least = λ other arcs from_on before. elim (before_or_from other next) [
    | inl lower ↦ none other arcs from_on lower
    | inr on ↦ least.least other arcs on before
  ];
}

module _ (rows : List FamilyRow) where
  -- a name in the view that goes on with an arc
  pub opens_under : (w more other : List ℕ) (b : ℕ) → AreArcs other → Includes rows other → other ≡ w ++ b ∷ more → OpensAt rows w b
  opens_under w more other b arcs included is =
      let e : other ≡ (w ++ b ∷ []) ++ more = is ∙ sym (append_assoc w (b ∷ []) more) in
      record { rest = more; are_arcs = subst AreArcs e arcs; included = subst (Includes rows) e included }

  some_by : (w rest : List ℕ) → AreArcs (w ++ rest) → Includes rows (w ++ rest) → ¬ Includes rows w → (length w < 128) × ((a : ℕ) × OpensAt rows w a)
  some_by w [] arcs included not_this = absurd (not_this (subst (Includes rows) (append-nil w) included))
  some_by w (a ∷ more) arcs included not_this = (
    let l = length-append w (a ∷ more) in
        let m = arcs.most in omega arith,
    (a, opens_under w more (w ++ a ∷ more) a arcs included refl),
  )

  -- a beginning that opens and isn't in the view goes on
  pub some_arc : (w : List ℕ) → Opens rows w → ¬ Includes rows w → (length w < 128) × ((a : ℕ) × OpensAt rows w a)
  some_arc w o not_this = some_by w o.rest o.are_arcs o.included not_this

  -- ---- one arc down

  module _ (start w : List ℕ) (a : ℕ) (least : IsLeastArc rows w 0 a) where
    pub none_down : ¬ Includes rows w → ((other : List ℕ) → AreArcs other → IsUpto start other → IsBefore other w → ¬ Includes rows other)
        → (other : List ℕ) → AreArcs other → IsUpto start other → IsBefore other (w ++ a ∷ []) → ¬ Includes rows other
    none_down not_this none other arcs from_on before included = elim (before_or_from other w) [
      | inl lower ↦ none other arcs from_on lower included
      | inr on ↦
          let b = between w [] (a ∷ []) other (subst (λ xs. IsUpto xs other) (sym (append-nil w)) on) before in
          elim (arc_before w b.0 a (subst (λ xs. IsBefore xs (w ++ a ∷ [])) b.1 before)) [
            | inl empty ↦ not_this (subst (Includes rows) (b.1 ∙ ap (λ xs. w ++ xs) empty ∙ append-nil w) included)
            | inr (arc, more, less, is) ↦ least.least arc (omega arith) less (opens_under w more other arc arcs included (b.1 ∙ ap (λ xs. w ++ xs) is))
          ]
    ]

-- ---- one arc up

-- names that are at or after one, of which there is none with its first arcs
module _ (C : List ℕ → Type 0) (w tail : List ℕ) (e : ℕ) (on : (other : List ℕ) → C other → IsUpto (w ++ e ∷ tail) other) where
  abbrev pub NoneUnder : List ℕ → Type 0
  NoneUnder beginning = (other rest : List ℕ) → C other → other ≡ beginning ++ rest → ⊥

  under_same : (other rest more : List ℕ) (b : ℕ) → other ≡ w ++ rest → rest ≡ b ∷ more → e ≡ b → other ≡ (w ++ e ∷ []) ++ more
  under_same other rest more b is split same = is ∙ ap (λ xs. w ++ xs) (split ∙ ap (λ n. n ∷ more) (sym same)) ∙ sym (append_assoc w (e ∷ []) more)

  pub none_up : NoneUnder (w ++ e ∷ []) → ((a : ℕ) (more other : List ℕ) → e < a → C other → other ≡ w ++ a ∷ more → ⊥) → NoneUnder w
  none_up none none_greater other rest there is =
      let f = arc_from w tail rest e (subst (IsUpto (w ++ e ∷ tail)) is (on other there)) in
      elim (which e f.0) [
        | inl less ↦ none_greater f.0 f.1 other less there (is ∙ ap (λ xs. w ++ xs) f.3)
        | inr (inl same) ↦ none other f.1 there (under_same other rest f.1 f.0 is f.3 same)
        | inr (inr more) ↦ absurd (let g = f.2 in omega (arith, more, g))
      ]

  pub none_between : (a : ℕ) → NoneUnder (w ++ e ∷ []) → ((b : ℕ) (more other : List ℕ) → e < b → b < a → C other → other ≡ w ++ b ∷ more → ⊥)
      → (other : List ℕ) → C other → IsBefore other (w ++ a ∷ []) → ⊥
  none_between a none none_greater other there before =
      let b = between w (e ∷ tail) (a ∷ []) other (on other there) before in
      let f = arc_from w tail b.0 e (subst (IsUpto (w ++ e ∷ tail)) b.1 (on other there)) in
      elim (arc_before w b.0 a (subst (λ xs. IsBefore xs (w ++ a ∷ [])) b.1 before)) [
        | inl empty ↦ let no : f.0 ∷ f.1 ≡ [] = sym f.3 ∙ empty in cc
        | inr (arc, more, less, is) ↦
            let both : f.0 ∷ f.1 ≡ arc ∷ more = sym f.3 ∙ is in
            let same : f.0 ≡ arc = cc in
            elim (which e arc) [
              | inl greater ↦ none_greater arc more other greater less there (b.1 ∙ ap (λ xs. w ++ xs) is)
              | inr (inl here) ↦ none other more there (under_same other b.0 more arc b.1 is here)
              | inr (inr lower) ↦ absurd (let g = f.2 in omega (arith, lower, g, same))
            ]
      ]

module _ (C : List ℕ → Type 0) (from : List ℕ) (left : ℕ) (some : 0 < left) (upto : left ≤ length from) (on : (other : List ℕ) → C other → IsUpto from other) where
  abbrev before : List ℕ
  before = take (left - 1) from

  abbrev last : ℕ
  last = get_or from (left - 1) 0

  front_is : take left from ≡ before ++ last ∷ []
  front_is =
      let e : left ≡ left - 1 + 1 = omega arith in
      ap (λ n. take n from) e ∙ take_more from (left - 1) 0 (omega arith)

  pub from_is : from ≡ before ++ last ∷ drop left from
  from_is = sym (take-append-drop left from) ∙ ap (λ xs. xs ++ drop left from) front_is ∙ append_assoc before (last ∷ []) (drop left from)

  on_split : (other : List ℕ) → C other → IsUpto (before ++ last ∷ drop left from) other
  on_split other there = subst (λ xs. IsUpto xs other) from_is (on other there)

  -- none has these first arcs
  abbrev pub NoneFirst : ℕ → Type 0
  NoneFirst n = (other rest : List ℕ) → C other → other ≡ take n from ++ rest → ⊥

  first_under : NoneFirst left → NoneUnder C before (drop left from) last on_split (before ++ last ∷ [])
  first_under none other rest there is = none other rest there (is ∙ ap (λ xs. xs ++ rest) (sym front_is))

  pub first_up : NoneFirst left → ((a : ℕ) (more other : List ℕ) → last < a → C other → other ≡ before ++ a ∷ more → ⊥) → NoneFirst (left - 1)
  first_up none greater = none_up C before (drop left from) last on_split (first_under none) greater

  pub first_between : NoneFirst left → (a : ℕ) → ((b : ℕ) (more other : List ℕ) → last < b → b < a → C other → other ≡ before ++ b ∷ more → ⊥)
      → (other : List ℕ) → C other → IsBefore other (before ++ a ∷ []) → ⊥
  first_between none a greater = none_between C before (drop left from) last on_split a (first_under none) greater

  pub from_upto : (a : ℕ) → last < a → IsUpto from (before ++ a ∷ [])
  from_upto a less = subst (λ xs. IsUpto xs (before ++ a ∷ [])) (sym from_is) (later_arc before (drop left from) [] last a less)

module _ (rows : List FamilyRow) (from : List ℕ) where
  -- a name in the view, at or after this one
  abbrev pub IsIn : List ℕ → Type 0
  IsIn other = AreArcs other × IsUpto from other × Includes rows other

  is_on : (other : List ℕ) → IsIn other → IsUpto from other
  is_on other (arcs, on, included) = on

  module _ (left : ℕ) (some : 0 < left) (upto : left ≤ length from) (none : (other rest : List ℕ) → AreArcs other → IsUpto from other → other ≡ take left from ++ rest → ¬ Includes rows other) where
    none_first : NoneFirst IsIn from left some upto is_on left
    none_first other rest there is = none other rest there.0 there.1 is there.2

    pub up : ((a : ℕ) → get_or from (left - 1) 0 < a → ¬ OpensAt rows (take (left - 1) from) a)
        → (other rest : List ℕ) → AreArcs other → IsUpto from other → other ≡ take (left - 1) from ++ rest → ¬ Includes rows other
    up greater other rest arcs on is included =
        first_up IsIn from left some upto is_on none_first
        (λ a more other less there is. greater a less (opens_under rows (take (left - 1) from) more other a there.0 there.2 is)) other rest (arcs, on, included) is

    pub found : (a : ℕ) → get_or from (left - 1) 0 < a → ((b : ℕ) → get_or from (left - 1) 0 < b → b < a → ¬ OpensAt rows (take (left - 1) from) b)
        → (name : List ℕ) → IsLeastFrom (Includes rows) (take (left - 1) from ++ a ∷ []) name → IsLeastFrom (Includes rows) from name
    found a less greater name least =
        least_on (Includes rows) from (take (left - 1) from ++ a ∷ []) name (from_upto IsIn from left some upto is_on a less)
        (λ other arcs on lower included. first_between IsIn from left some upto is_on none_first a
        (λ b more other over under there is. greater b over under (opens_under rows (take (left - 1) from) more other b there.0 there.2 is)) other (arcs, on, included) lower)
        least

-- the beginning of a name, not empty, is a name
beginning_limit : (P : ℕ → Type 0) (w rest : List ℕ) → AllByRecursion P (w ++ rest) → AllByRecursion P w
beginning_limit P [] rest h = tt
beginning_limit P (x ∷ w) rest h = (h.0, beginning_limit P w rest h.1)

pub beginning_arcs : (w rest : List ℕ) → 1 ≤ length w → AreArcs (w ++ rest) → AreArcs w
beginning_arcs w rest some arcs = record {
  some = some;
  most = let l = length-append w rest in let m = arcs.most in omega arith;
  limit = beginning_limit (λ arc. arc < 2 ^ 32) w rest arcs.limit;
}

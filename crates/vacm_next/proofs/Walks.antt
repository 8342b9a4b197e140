-- The name after one, names that can be spelled, and the place before a name.
use Rattle.std.proofs.Common.{◌≡◌, ◌≢◌, ℕ, ◌+◌, ◌-◌, ◌^◌, ◌<◌, ◌≤◌, ◌⊎◌, ◌==◌, Bool, true, false, cond, nat_lt, List, [], ◌∷◌, ◌++◌, length, take, drop, get_or, slice_index, sym, ap, subst, ◌∙◌, refl, inl, inr, arith, length-append}
use Rattle.std.specs.Cmp.Lexicographic.{slice_cmp}
use Rattle.std.specs.Ordering.{nat_cmp, ordering_then}
use Rattle.std.specs.declared.cmp.Ordering.TheVariants.{Less, Equal, Greater}
use Rattle.std.specs.List.{AllByRecursion}
use Rattle.std.proofs.lemmas.Bool.{cases_lt}
use Rattle.std.proofs.lemmas.Bool.Decides.{Decides-eqb}
use Rattle.std.proofs.lemmas.List.{append-nil, take_all, take_more, length-take}
use Rattle.std.proofs.lemmas.List.Elements.{All-take, All-from_recursion, recursion_from_All}
use Rattle.snmp_ber.specs.Oid.{AreArcs, IsObjectId}
use Rattle.snmp_ber.specs.declared.number.TheConstants.{MAX_INTEGER32}
use Rattle.vacm_next.specs.Next.{IsBefore, IsUpto, IsLeastFrom, NoneFrom}
use Rattle.vacm_next.specs.Walk.{IsLeastOf, NoneOf, ComesAfter, IsSeenFrom, IsSeenAfter, front_arcs, last_arc, place_before, IsPlace, WalksFrom, PassesNothing}
use Rattle.vacm_next.proofs.Order.{is_less, is_greater, is_tied, which, before_or_from, not_both, before_is_upto, before_upto, before_longer, before_later_arc, next_is, upto_trans}
use Rattle.vacm_next.proofs.Names.{upto_itself, first_up, first_between, from_is}

-- ---- the name after

limit_append : (P : ℕ → Type 0) (w : List ℕ) (a : ℕ) → AllByRecursion P w → P a → AllByRecursion P (w ++ a ∷ [])
limit_append P [] a h p = (p, tt)
limit_append P (x ∷ w) a h p = (h.0, limit_append P w a h.1 p)

limit_take : (P : ℕ → Type 0) (n : ℕ) (w : List ℕ) → AllByRecursion P w → AllByRecursion P (take n w)
limit_take P n w h = recursion_from_All P (take n w) (All-take P n w (All-from_recursion P w h))

limit_at : (P : ℕ → Type 0) (w more : List ℕ) (a : ℕ) → AllByRecursion P (w ++ a ∷ more) → P a
limit_at P [] more a h = h.0
limit_at P (x ∷ w) more a h = limit_at P w more a h.1

pub with_zero : (name : List ℕ) → AreArcs name → length name < 128 → IsLeastOf (ComesAfter name) (name ++ 0 ∷ [])
with_zero name arcs short = record {
  there = (
    record {
      some = let l = length-append name (0 ∷ []) in omega arith;
      most = let l = length-append name (0 ∷ []) in omega arith;
      limit = limit_append (λ arc. arc < 2 ^ 32) name 0 arcs.limit (omega arith);
    },
    before_longer name [] 0,
  );
  least = λ other after. next_is name other after.1;
}

module _ (name : List ℕ) (arcs : AreArcs name) where
  on : (other : List ℕ) → ComesAfter name other → IsUpto name other
  on other after = before_is_upto name other after.1

  -- no name after this one has all of its arcs, if it has as many as there may be
  pub none_longer : 128 ≤ length name → (other rest : List ℕ) → ComesAfter name other → other ≡ take (length name) name ++ rest → ⊥
  none_longer long other [] after is =
      let same : other ≡ name = is ∙ append-nil (take (length name) name) ∙ take_all (length name) name (omega arith) in
      not_both name name (upto_itself name) (subst (IsBefore name) same after.1)
  none_longer long other (a ∷ rest) after is =
      let l : length other ≡ length name + length (a ∷ rest) =
      ap length (is ∙ ap (λ xs. xs ++ a ∷ rest) (take_all (length name) name (omega arith))) ∙ length-append name (a ∷ rest) in
      let m = after.0.most in omega arith

  module _ (left : ℕ) (some : 0 < left) (upto : left ≤ length name) (none : (other rest : List ℕ) → ComesAfter name other → other ≡ take left name ++ rest → ⊥) where
    pub none_with_last : (get_or name (left - 1) 0 + 1 < 2 ^ 32 → ⊥) → (other rest : List ℕ) → ComesAfter name other → other ≡ take (left - 1) name ++ rest → ⊥
    none_with_last full =
        first_up (ComesAfter name) name left some upto on none
        (λ a more other less after is. full (let b = limit_at (λ arc. arc < 2 ^ 32) (take (left - 1) name) more a (subst (AllByRecursion (λ arc. arc < 2 ^ 32)) is after.0.limit) in omega (arith, b, less)))

    pub with_next : (arc : ℕ) → arc ≡ get_or name (left - 1) 0 + 1 → arc < 2 ^ 32 → IsLeastOf (ComesAfter name) (take (left - 1) name ++ arc ∷ [])
    with_next arc is limit = record {
      there = (
        record {
          some = let l = length-append (take (left - 1) name) (arc ∷ []) in omega arith;
          most = let l = length-append (take (left - 1) name) (arc ∷ []) in let t = length-take (left - 1) name in let m = arcs.most in omega arith;
          limit = limit_append (λ arc. arc < 2 ^ 32) (take (left - 1) name) arc (limit_take (λ arc. arc < 2 ^ 32) (left - 1) name arcs.limit) limit;
        },
        subst (λ xs. IsBefore xs (take (left - 1) name ++ arc ∷ [])) (sym (from_is (ComesAfter name) name left some upto on))
            (before_later_arc (take (left - 1) name) (drop left name) [] (get_or name (left - 1) 0) arc (omega arith)),
      );
      least = λ other after. elim (before_or_from other (take (left - 1) name ++ arc ∷ [])) [
        | inl before ↦
            absurd (first_between (ComesAfter name) name left some upto on none arc (λ b more o over under there same. omega (arith, over, under, is)) other after before)
        | inr from ↦ from
      ];
    }

-- ---- names that can be spelled

-- an identifier has a first arc of 0 to 2, and a second one
head_of : (name : List ℕ) → IsObjectId name → (a : ℕ) × (b : ℕ) × (rest : List ℕ) × (a ≤ 2) × (name ≡ a ∷ b ∷ rest)
head_of [] id = absurd id
head_of (a ∷ []) id = absurd id
head_of (a ∷ b ∷ rest) id = (a, b, rest, id.0, refl)

from_first : (first a b : ℕ) (rest : List ℕ) → first ≤ a → IsUpto (first ∷ 0 ∷ []) (a ∷ b ∷ rest)
from_first first a b rest upto = elim (which first a) [
  | inl less ↦ λ e. let h : Less ≡ Greater = sym (ap (λ o. ordering_then o (slice_cmp nat_cmp (0 ∷ []) (b ∷ rest))) (is_less first a less)) ∙ e in cc
  | inr (inl same) ↦
      let tie : nat_cmp first a ≡ Equal = ap (nat_cmp first) (sym same) ∙ is_tied first in
      λ e. upto_second (sym (ap (λ o. ordering_then o (slice_cmp nat_cmp (0 ∷ []) (b ∷ rest))) tie) ∙ e)
  | inr (inr more) ↦ absurd (omega (arith, upto, more))
]
  where
    upto_second : IsUpto (0 ∷ []) (b ∷ rest)
    upto_second = from_zero b rest
      where
        from_zero : (b : ℕ) (rest : List ℕ) → IsUpto (0 ∷ []) (b ∷ rest)
        from_zero b rest = next_is [] (b ∷ rest) refl

-- names with one first arc that can be spelled are consecutive
spelled_between : (f b : ℕ) (rest name : List ℕ) → IsUpto (f ∷ 0 ∷ []) name → IsUpto name (f ∷ b ∷ rest) → IsObjectId (f ∷ b ∷ rest) → IsObjectId name
spelled_between f b rest [] low high id = absurd (low refl)
spelled_between f b rest (x ∷ []) low high id = elim (which f x) [
  | inl less ↦ absurd (high (ap (λ o. ordering_then o (slice_cmp nat_cmp [] (b ∷ rest))) (is_greater x f less)))
  | inr (inl same) ↦ absurd (low (ap (λ o. ordering_then o (slice_cmp nat_cmp (0 ∷ []) [])) (ap (nat_cmp f) (sym same) ∙ is_tied f)))
  | inr (inr more) ↦ absurd (low (ap (λ o. ordering_then o (slice_cmp nat_cmp (0 ∷ []) [])) (is_greater f x more)))
]
spelled_between f b rest (x ∷ y ∷ more) low high id = elim (which f x) [
  | inl less ↦ absurd (high (ap (λ o. ordering_then o (slice_cmp nat_cmp (y ∷ more) (b ∷ rest))) (is_greater x f less)))
  | inr (inl same) ↦
      let tie : nat_cmp x f ≡ Equal = ap (nat_cmp x) same ∙ is_tied x in
      let second : y ≤ b = elim (which y b) [
        | inl less ↦ omega (arith, less)
        | inr (inl is) ↦ omega (arith, is)
        | inr (inr over) ↦ absurd (high (ap (λ o. ordering_then o (slice_cmp nat_cmp (y ∷ more) (b ∷ rest))) tie ∙ ap (λ o. ordering_then o (slice_cmp nat_cmp more rest)) (is_greater y b over)))
      ] in
      let first = id.0 in
      let small = id.1 in
      let large = id.2 in
      (omega (arith, first, same), λ below. (let s = small (omega (arith, below, same)) in omega (arith, s, second)), omega (arith, large, second))
  | inr (inr over) ↦ absurd (low (ap (λ o. ordering_then o (slice_cmp nat_cmp (0 ∷ []) (y ∷ more))) (is_greater f x over)))
]

module _ (Seen : List ℕ → Type 0) (from low : List ℕ) (first : ℕ)
    (is_low : ((low ≡ from) × IsUpto (first ∷ 0 ∷ []) from) ⊎ ((low ≡ first ∷ 0 ∷ []) × IsBefore from (first ∷ 0 ∷ []))) where
  -- none with a lesser first arc
  abbrev pub NoneLower : ℕ → Type 0
  NoneLower n = (other : List ℕ) → IsSeenFrom Seen from other → n ≤ slice_index other 0

  from_low : IsUpto from low
  from_low = elim is_low [
    | inl (is, upto) ↦ subst (IsUpto from) (sym is) (upto_itself from)
    | inr (is, before) ↦ subst (IsUpto from) (sym is) (before_is_upto from (first ∷ 0 ∷ []) before)
  ]

  first_low : IsUpto (first ∷ 0 ∷ []) low
  first_low = elim is_low [
    | inl (is, upto) ↦ subst (IsUpto (first ∷ 0 ∷ [])) (sym is) upto
    | inr (is, before) ↦ subst (IsUpto (first ∷ 0 ∷ [])) (sym is) (upto_itself (first ∷ 0 ∷ []))
  ]

  low_upto : NoneLower first → (other : List ℕ) → IsSeenFrom Seen from other → IsUpto low other
  low_upto none other there =
      let h = head_of other there.1 in
      let head : first ≤ h.0 = subst (λ xs. first ≤ slice_index xs 0) h.4 (none other there) in
      elim is_low [
        | inl (is, upto) ↦ subst (λ xs. IsUpto xs other) (sym is) there.2
        | inr (is, before) ↦ subst (λ xs. IsUpto xs other) (sym is) (subst (IsUpto (first ∷ 0 ∷ [])) (sym h.4) (from_first first h.0 h.1 h.2 head))
      ]

  pub none_low : NoneLower first → NoneFrom Seen low → NoneOf (IsSeenFrom Seen from)
  none_low none no_name other there = no_name other there.0 (low_upto none other there) there.3

  module _ (next : List ℕ) (least : IsLeastFrom Seen low next) where
    pub least_spelled : NoneLower first → IsObjectId next → IsLeastOf (IsSeenFrom Seen from) next
    least_spelled none id = record {
      there = (least.are_arcs, id, upto_trans from low next from_low least.from_on, least.seen);
      least = λ other there. elim (before_or_from other next) [
        | inl before ↦ absurd (least.least other there.0 (low_upto none other there) before there.3)
        | inr on ↦ on
      ];
    }

    pub none_lower : NoneLower first → ¬ IsObjectId next → NoneLower (first + 1)
    none_lower none unspelled other there =
        let h = head_of other there.1 in
        let head : first ≤ h.0 = subst (λ xs. first ≤ slice_index xs 0) h.4 (none other there) in
        elim (cases_lt first h.0) [
          | inl more ↦ subst (λ xs. first + 1 ≤ slice_index xs 0) (sym h.4) (omega (arith, more))
          | inr upto ↦
              let same : h.0 ≡ first = omega (arith, head, upto) in
              let is : other ≡ first ∷ h.1 ∷ h.2 = h.4 ∙ ap (λ n. n ∷ h.1 ∷ h.2) same in
              elim (before_or_from other next) [
                | inl before ↦ absurd (least.least other there.0 (low_upto none other there) before there.3)
                | inr on ↦
                    absurd (unspelled (spelled_between first h.1 h.2 next (upto_trans (first ∷ 0 ∷ []) low next first_low least.from_on) (subst (IsUpto next) is on) (subst IsObjectId is there.1)))
              ]
        ]

-- all first arcs are looked at
pub none_left : (Seen : List ℕ → Type 0) (from : List ℕ) (first : ℕ) → 3 ≤ first → ((other : List ℕ) → IsSeenFrom Seen from other → first ≤ slice_index other 0) → NoneOf (IsSeenFrom Seen from)
none_left Seen from first past none other there =
    let h = head_of other there.1 in
    let head : first ≤ h.0 = subst (λ xs. first ≤ slice_index xs 0) h.4 (none other there) in
    let small = h.3 in
    omega (arith, past, head, small)

-- ---- the place before a name

split_last : (name : List ℕ) → 1 ≤ length name → name ≡ front_arcs name ++ last_arc name ∷ []
split_last name some =
    let e : length name ≡ length name - 1 + 1 = omega arith in
    sym (take_all (length name) name (omega arith)) ∙ ap (λ n. take n name) e ∙ take_more name (length name - 1) 0 (omega arith)

place_is_before : (name : List ℕ) → 1 ≤ length name → IsBefore (place_before name) name
place_is_before name some = subst (IsBefore (place_before name)) (sym (split_last name some)) (by (last_arc name == 0) refl)
  where
    by : (b : Bool) → (last_arc name == 0) ≡ b
        → IsBefore (cond b (front_arcs name) (front_arcs name ++ (last_arc name - 1) ∷ (cond (nat_lt (length name) 128) (MAX_INTEGER32 ∷ []) []))) (front_arcs name ++ last_arc name ∷ [])
    by true e = before_longer (front_arcs name) [] (last_arc name)
    by false e =
        before_later_arc (front_arcs name) (cond (nat_lt (length name) 128) (MAX_INTEGER32 ∷ []) []) [] (last_arc name - 1) (last_arc name)
        (let some_arc : last_arc name ≢ 0 = λ z. (let t = (Decides-eqb (last_arc name) 0).1 z in let no : true ≡ false = sym t ∙ e in cc) in omega (arith, some_arc))

-- ---- a walk

module _ (Seen : List ℕ → Type 0) (after start : List ℕ) (is_start : IsLeastOf (ComesAfter after) start) where
  from_of : (name : List ℕ) → IsSeenAfter Seen after name → IsSeenFrom Seen start name
  from_of name there = (there.0, there.1, is_start.least name (there.0, there.2), there.3)

  after_of : (name : List ℕ) → IsSeenFrom Seen start name → IsSeenAfter Seen after name
  after_of name there = (there.0, there.1, before_upto after start name is_start.there.1 there.2, there.3)

  pub none_after : NoneOf (IsSeenFrom Seen start) → NoneOf (IsSeenAfter Seen after)
  none_after none name there = none name (from_of name there)

  pub walks : (next place : List ℕ) → IsLeastOf (IsSeenFrom Seen start) next → IsPlace after next place → WalksFrom Seen after place
  walks next place least is_place = record {
    next = next;
    is_next = record { there = after_of next least.there; least = λ other there. least.least other (from_of other there) };
    is_place = is_place;
  }

-- nothing is passed over
pub passes : (Seen : List ℕ → Type 0) (after place : List ℕ) → WalksFrom Seen after place → PassesNothing Seen after place
passes Seen after place w = elim w.is_place [
  | inl (id, behind, is) ↦ record {
    upto = subst (IsUpto after) (sym is) (before_is_upto after (place_before w.next) behind);
    none = λ name there upto.
        let least = w.is_next.least name there in
        let on = upto_trans w.next name (place_before w.next) least (subst (IsUpto name) is upto) in
        not_both w.next (place_before w.next) on (place_is_before w.next w.is_next.there.0.some);
  }
  | inr (not_this, is) ↦ record {
    upto = subst (IsUpto after) (sym is) (upto_itself after);
    none = λ name there upto. not_both name after (subst (IsUpto name) is upto) there.2;
  }
]

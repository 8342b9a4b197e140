-- Whether a name that begins so is in the view, by the rows that agree with the beginning.
use Rattle.std.proofs.Common.{◌≡◌, ◌≢◌, ℕ, zero, suc, ◌+◌, ◌-◌, ◌^◌, ◌<◌, ◌≤◌, ◌==◌, Bool, true, false, cond, List, [], ◌∷◌, ◌++◌, length, map, get_or, slice_index, Contains, sym, ap, subst, ◌∙◌, refl, inl, inr, arith, length-append}
use Rattle.std.specs.List.{AllByRecursion, All, range_with_len}
use Rattle.std.specs.Ordering.{nat_cmp, ordering_then}
use Rattle.std.specs.Cmp.Lexicographic.{slice_cmp}
use Rattle.std.specs.declared.cmp.Ordering.TheVariants.{Less, Equal, Greater}
use Rattle.std.proofs.lemmas.Bool.{cases_lt}
use Rattle.std.proofs.lemmas.Bool.Decides.{Decides-eqb}
use Rattle.std.proofs.lemmas.Cmp.{tied_itself}
use Rattle.std.proofs.lemmas.Grind.{same_number_lists}
use Rattle.std.proofs.lemmas.List.{append-nil}
use Rattle.std.proofs.lemmas.List.Elements.{All-append, All-map, All-from_recursion, recursion_from_All}
use Rattle.std.proofs.lemmas.List.FromFn.{length-map-range_with_len, get_or-map-range_with_len}
use Rattle.snmp_ber.specs.Oid.{AreArcs}
use Rattle.vacm_core.specs.declared.rows.FamilyRow.{FamilyRow}
use Rattle.vacm_core.specs.Allowed.{IsBestOf, family_order, mask_bit}
use Rattle.vacm_core.specs.Laws.{family_order-total}
use Rattle.vacm_core.specs.View.{HasArcs, Includes, Agrees, IsExact, IsUnder, NoneUnder}
use Rattle.vacm_next.specs.Opening.{Opens, Covers, IsExceeded, IncludesLonger, Exceeds}
use Rattle.vacm_next.proofs.Order.{is_greater}
use Rattle.vacm_next.proofs.Fresh.{fresh}

-- ---- the arcs of a beginning and what follows

pub first_arc : (w rest : List ℕ) (k : ℕ) → k < length w → get_or (w ++ rest) k 0 ≡ get_or w k 0
first_arc [] rest k within = absurd (omega (arith, within))
first_arc (x ∷ w) rest zero within = refl
first_arc (x ∷ w) rest (suc k) within = first_arc w rest k (omega (arith, within))

pub later_arc_at : (w rest : List ℕ) (k : ℕ) → length w ≤ k → get_or (w ++ rest) k 0 ≡ get_or rest (k - length w) 0
later_arc_at [] rest k from = let e : k ≡ k - length {A = ℕ} [] = omega arith in ap (λ n. get_or rest n 0) e
later_arc_at (x ∷ w) rest zero from = absurd (omega (arith, from))
later_arc_at (x ∷ w) rest (suc k) from =
    let e : suc k - length (x ∷ w) ≡ k - length w = omega arith in
    later_arc_at w rest k (omega (arith, from)) ∙ ap (λ n. get_or rest n 0) (sym e)

-- a shorter row doesn't exceed a longer one
shorter_is_less : (a b : FamilyRow) → length b.subtree < length a.subtree → family_order a b ≢ Less
shorter_is_less a b shorter less =
    let e : Greater ≡ Less = sym (ap (λ o. ordering_then o (slice_cmp nat_cmp a.subtree b.subtree)) (is_greater (length a.subtree) (length b.subtree) shorter)) ∙ less in cc

module _ (rows : List FamilyRow) (w : List ℕ) where
  -- ---- a name in the view that begins so

  -- the row that decides on it is no longer than the beginning: it decides on that too
  short_decides : (rest : List ℕ) (row : FamilyRow) → IsBestOf rows (HasArcs (w ++ rest)) family_order row → length row.subtree ≤ length w → IsBestOf rows (HasArcs w) family_order row
  short_decides rest row best upto = record {
    in_table = best.in_table;
    fits = record { long = upto; arcs = λ k within bit. best.fits.arcs k within bit ∙ first_arc w rest k (omega (arith, within, upto)) };
    unexceeded = λ other there fits. best.unexceeded other there (record {
      long = let l = length-append w rest in let m = fits.long in omega arith;
      arcs = λ k within bit. fits.arcs k within bit ∙ sym (first_arc w rest k (let m = fits.long in omega (arith, within)));
    });
  }

  -- it agrees with the beginning
  agrees_of : (rest : List ℕ) (row : FamilyRow) → HasArcs (w ++ rest) row → Agrees w row
  agrees_of rest row fits k within before bit = fits.arcs k within bit ∙ first_arc w rest k before

  -- it is longer: no better row decides on all names that it has
  long_not_exceeded : (rest : List ℕ) (row : FamilyRow) → IsBestOf rows (HasArcs (w ++ rest)) family_order row → ¬ IsExceeded rows w row
  long_not_exceeded rest row best more = best.unexceeded more.0 more.1 (record {
    long = let e = more.2.covers.same_length in let l = best.fits.long in omega arith;
    arcs = λ k within bit. elim (cases_lt k (length w)) [
      | inl before ↦ more.2.agrees k within before bit ∙ sym (first_arc w rest k before)
      | inr from ↦
          let c = more.2.covers.arcs k from within bit in
          c.1 ∙ best.fits.arcs k (let e = more.2.covers.same_length in omega (arith, within)) c.0
    ];
  }) more.2.better

  -- so the beginning is in the view, or a longer row includes names that begin so
  pub opens_by : Opens rows w → ¬ Includes rows w → (row : FamilyRow) × Contains rows row × IncludesLonger rows w row
  opens_by o none =
      let row = o.included.0 in
      let best = o.included.1 in
      elim (cases_lt (length w) (length row.subtree)) [
        | inl longer ↦ (
          row,
          best.in_table,
          record { includes = o.included.2; longer = longer; agrees = agrees_of o.rest row best.fits; unexceeded = long_not_exceeded o.rest row best },
        )
        | inr upto ↦ absurd (none (row, short_decides o.rest row best upto, o.included.2))
      ]

  -- ---- a row that includes names that begin so

  pub opens_here : AreArcs w → Includes rows w → Opens rows w
  opens_here arcs included = record {
    rest = [];
    are_arcs = subst AreArcs (sym (append-nil w)) arcs;
    included = subst (Includes rows) (sym (append-nil w)) included;
  }

  module _ (row : FamilyRow) (there : Contains rows row) (longer : length w < length row.subtree) (agrees : Agrees w row) (unexceeded : ¬ IsExceeded rows w row) where
    -- the most general name that the row has: an arc that no row has wherever it may be any
    abbrev other_arc : ℕ → ℕ
    other_arc k = (fresh (λ (r : FamilyRow). slice_index r.subtree k) rows).0

    abbrev general_arc : ℕ → ℕ
    general_arc k = cond (mask_bit row.mask k == 1) (slice_index row.subtree k) (other_arc k)

    abbrev general_rest : List ℕ
    general_rest = map general_arc (range_with_len (length w) (length row.subtree - length w))

    abbrev general : List ℕ
    general = w ++ general_rest

    general_long : length general ≡ length row.subtree
    general_long =
        let a = length-append w general_rest in
        let b = length-map-range_with_len general_arc (length w) (length row.subtree - length w) in
        omega arith

    general_at : (k : ℕ) → length w ≤ k → k < length row.subtree → get_or general k 0 ≡ general_arc k
    general_at k from within =
        later_arc_at w general_rest k from
        ∙ get_or-map-range_with_len general_arc (length w) (length row.subtree - length w) (k - length w) k 0 (omega arith) (omega arith)

    compared : (k : ℕ) → mask_bit row.mask k ≡ 1 → general_arc k ≡ slice_index row.subtree k
    compared k bit = ap (λ b. cond b (slice_index row.subtree k) (other_arc k)) ((Decides-eqb (mask_bit row.mask k) 1).1 bit)

    row_has_it : HasArcs general row
    row_has_it = record {
      long = let e = general_long in omega arith;
      arcs = λ k within bit. elim (cases_lt k (length w)) [
        | inl before ↦ agrees k within before bit ∙ sym (first_arc w general_rest k before)
        | inr from ↦ sym (general_at k from within ∙ compared k bit)
      ];
    }

    -- a row of its length that has the name covers it
    covering : (other : FamilyRow) → Contains rows other → HasArcs general other → length other.subtree ≡ length row.subtree → Covers (length w) other row
    covering other in_rows fits same = record {
      same_length = same;
      arcs = λ k from within bit.
          let inside : k < length row.subtree = omega (arith, within, same) in
          let arc : slice_index other.subtree k ≡ general_arc k = fits.arcs k within bit ∙ general_at k from inside in
          by k arc (mask_bit row.mask k == 1) refl;
    }
      where
        by : (k : ℕ) → slice_index other.subtree k ≡ general_arc k → (b : Bool) → (mask_bit row.mask k == 1) ≡ b → (mask_bit row.mask k ≡ 1) × (slice_index other.subtree k ≡ slice_index row.subtree k)
        by k arc true e = ((Decides-eqb (mask_bit row.mask k) 1).0 e, arc ∙ compared k ((Decides-eqb (mask_bit row.mask k) 1).0 e))
        by k arc false e =
            absurd ((fresh (λ (r : FamilyRow). slice_index r.subtree k) rows).2 other in_rows (arc ∙ ap (λ b. cond b (slice_index row.subtree k) (other_arc k)) e))

    row_is_best : IsBestOf rows (HasArcs general) family_order row
    row_is_best = record {
      in_table = there;
      fits = row_has_it;
      unexceeded = λ other in_rows fits. elim (cases_lt (length other.subtree) (length row.subtree)) [
        | inl shorter ↦ shorter_is_less row other shorter
        | inr from ↦
            let same : length other.subtree ≡ length row.subtree = let l = fits.long in let e = general_long in omega arith in
            λ less. unexceeded (other, in_rows, record { agrees = agrees_of general_rest other fits; covers = covering other in_rows fits same; better = less })
      ];
    }

    pub opens_longer : row.include ≡ true → AllByRecursion (λ arc. arc < 2 ^ 32) w → AreArcs row.subtree → length rows < 2 ^ 32 → Opens rows w
    opens_longer includes limit arcs few = record {
      rest = general_rest;
      are_arcs = record {
        some = let e = general_long in let s = arcs.some in omega arith;
        most = let e = general_long in let m = arcs.most in omega arith;
        limit = recursion_from_All (λ arc. arc < 2 ^ 32) general (All-append (λ arc. arc < 2 ^ 32) w general_rest (All-from_recursion (λ arc. arc < 2 ^ 32) w limit) (All-map (λ arc. arc < 2 ^ 32) general_arc _ rest_limit));
      };
      included = (row, row_is_best, includes);
    }
      where
        below : (k : ℕ) → general_arc k < 2 ^ 32
        below k = by (mask_bit row.mask k == 1)
          where
            by : (b : Bool) → cond b (slice_index row.subtree k) (other_arc k) < 2 ^ 32
            by true = subtree_below row.subtree arcs.limit k
              where
                subtree_below : (xs : List ℕ) → AllByRecursion (λ arc. arc < 2 ^ 32) xs → (k : ℕ) → slice_index xs k < 2 ^ 32
                subtree_below [] h k = omega arith
                subtree_below (x ∷ xs) h zero = h.0
                subtree_below (x ∷ xs) h (suc k) = subtree_below xs h.1 k
            by false = let m = (fresh (λ (r : FamilyRow). slice_index r.subtree k) rows).1 in omega (arith, m, few)

        rest_limit : All (λ k. general_arc k < 2 ^ 32) (range_with_len (length w) (length row.subtree - length w))
        rest_limit i d within = below _

-- ---- going through the rows

-- none of the rows up to the next place is so, if such rows are longer than the beginning and agree with it
pub none_skipped : (P : FamilyRow → Type 0) (rows : List FamilyRow) (w : List ℕ) (at next : ℕ) → ((row : FamilyRow) → P row → IsUnder w row) → ((k : ℕ) (d : FamilyRow) → k < at → ¬ P (get_or rows k d))
    → NoneUnder rows w at next → (k : ℕ) (d : FamilyRow) → k < next → ¬ P (get_or rows k d)
none_skipped P rows w at next is_under none skipped k d before so = elim (cases_lt k at) [
  | inl lower ↦ none k d lower so
  | inr from ↦ skipped k d from before (is_under (get_or rows k d) so)
]

-- none of the rows up to the place after this one is so
pub none_here : (P : FamilyRow → Type 0) (rows : List FamilyRow) (place : ℕ) (row : FamilyRow) → ((d : FamilyRow) → row ≡ get_or rows place d) → ¬ P row
    → ((k : ℕ) (d : FamilyRow) → k < place → ¬ P (get_or rows k d)) → (k : ℕ) (d : FamilyRow) → k < place + 1 → ¬ P (get_or rows k d)
none_here P rows place row at not_this none k d before so = elim (cases_lt k place) [
  | inl lower ↦ none k d lower so
  | inr past ↦
      let e : k ≡ place = omega arith in
      not_this (subst P (ap (λ n. get_or rows n d) e ∙ sym (at d)) so)
]

pub includes_is_under : (rows : List FamilyRow) (w : List ℕ) (row : FamilyRow) → IncludesLonger rows w row → IsUnder w row
includes_is_under rows w row h = record { longer = h.longer; agrees = h.agrees }

pub exceeds_is_under : (w : List ℕ) (row : FamilyRow) → IsUnder w row → (other : FamilyRow) → Exceeds w row other → IsUnder w other
exceeds_is_under w row under other more = record {
  longer = let e = more.covers.same_length in let l = under.longer in omega arith;
  agrees = more.agrees;
}

-- of rows that compare each arc none exceeds another
pub exact_not_exceeded : (w : List ℕ) (row other : FamilyRow) → IsUnder w row → IsExact row → IsExact other → ¬ Exceeds w row other
exact_not_exceeded w row other under exact other_exact more =
    let long = more.covers.same_length in
    let same : row.subtree ≡ other.subtree = same_number_lists _ _ (sym long)
    (λ k within. elim (cases_lt k (length w)) [
      | inl before ↦ under.agrees k within before (exact k within) ∙ sym (more.agrees k (omega (arith, within, long)) before (other_exact k (omega (arith, within, long))))
      | inr from ↦ sym (more.covers.arcs k from (omega (arith, within, long)) (other_exact k (omega (arith, within, long)))).1
    ]) in
    let tie : family_order row other ≡ Equal =
    ap (λ xs. ordering_then (nat_cmp (length row.subtree) (length xs)) (slice_cmp nat_cmp row.subtree xs)) (sym same) ∙ tied_itself family_order-total row in
    let no : Equal ≡ Less = sym tie ∙ more.better in cc

-- Family rows whose masks compare each arc, and the beginnings of a variable.
use Rattle.std.proofs.Common.{◌≡◌, ◌≢◌, ℕ, ◌+◌, ◌<◌, ◌≤◌, ◌⊎◌, List, [], length, get_or, take, Contains, MatchResult, sym, ap, subst, ◌∙◌, refl, inl, inr, arith, length-take}
use Rattle.std.specs.List.{HoldsAt}
use Rattle.std.specs.List.Sorted.{IsBinarySearchResult, IsSearchInRange, IsPartitionPoint, IsNonDecreasingBy}
use Rattle.std.specs.Cmp.{IsTotalOrder}
use Rattle.std.specs.Cmp.Lexicographic.{slice_cmp}
use Rattle.std.specs.Ordering.{nat_cmp, ordering_then, ordering_index}
use Rattle.std.specs.declared.cmp.Ordering.{Ordering}
use Rattle.std.specs.declared.cmp.Ordering.TheVariants.{Less, Equal, Greater}
use Rattle.std.specs.declared.result.Result.{Result}
use Rattle.std.specs.declared.result.Result.TheVariants.{Ok, Err}
use Rattle.std.proofs.lemmas.Bool.{cases_lt}
use Rattle.std.proofs.lemmas.Bool.Decides.{nat_tests}
use Rattle.std.proofs.lemmas.Grind.{same_number_lists}
use Rattle.std.proofs.lemmas.Cmp.{nat_cmp_total, nat_list_cmp_total, on_total, then_total, back_total, tied_itself}
use Rattle.std.proofs.lemmas.List.{get_or-take, get_or_default}
use Rattle.std.proofs.lemmas.List.Sorted.{searchable_from_sorted}
use Rattle.std.proofs.lemmas.Map.Lookups.{exact_bytes}
use Rattle.vacm_core.specs.declared.rows.FamilyRow.{FamilyRow}
use Rattle.vacm_core.specs.Allowed.{IsBestOf, family_order}
use Rattle.vacm_core.specs.RowOrder.{AreFalling}
use Rattle.vacm_core.specs.Place.{arcs_order}
use Rattle.vacm_core.specs.View.{IsExact, AreExact, HasArcs}
use Rattle.vacm_core.proofs.First.{not_exceeded, then_equal}
use Rattle.vacm_core.specs.Laws.{family_order-total}

pub arcs_total : IsTotalOrder arcs_order
arcs_total = then_total (on_total (λ (xs : List ℕ). length xs) nat_cmp_total) nat_list_cmp_total

pub arcs_exact : (xs ys : List ℕ) → arcs_order xs ys ≡ Equal → xs ≡ ys
arcs_exact xs ys h = exact_bytes xs ys (then_equal _ _ h).1

-- ---- a search for one subtree

pub subtrees_rise : (run : List FamilyRow) (subtree : List ℕ) → AreFalling family_order run → IsNonDecreasingBy (λ row. ordering_index (arcs_order subtree row.subtree)) run
subtrees_rise run subtree falling = searchable_from_sorted (back_total arcs_total) (λ row. row.subtree) run subtree falling

abbrev pub IsFound : List FamilyRow → List ℕ → Result ℕ ℕ → Type 0
IsFound run subtree r = IsBinarySearchResult (λ (y : FamilyRow). arcs_order subtree y.subtree) run r

pub found_at : (run : List FamilyRow) (subtree : List ℕ) (r : Result ℕ ℕ) (i : ℕ) → IsFound run subtree r → IsSearchInRange r (length run) → r ≡ Ok i
    → (i < length run) × ((d : FamilyRow) → (get_or run i d).subtree ≡ subtree)
found_at run subtree r i result bound is =
    let holds : HoldsAt (λ (y : FamilyRow). arcs_order subtree y.subtree ≡ Equal) run i = subst (IsFound run subtree) is result in
    let within : i < length run = subst (λ x. IsSearchInRange x (length run)) is bound in
    (within, λ d. sym (arcs_exact subtree (get_or run i d).subtree (holds d)))

-- where the rows at and past a place stand against a subtree
abbrev pub IsGap : List FamilyRow → List ℕ → ℕ → Type 0
IsGap run subtree place =
    (k : ℕ) (d : FamilyRow) → k < length run
    → (k < place → arcs_order subtree (get_or run k d).subtree ≡ Less) × (place ≤ k → arcs_order subtree (get_or run k d).subtree ≡ Greater)

pub found_nowhere : (run : List FamilyRow) (subtree : List ℕ) (r : Result ℕ ℕ) (i : ℕ) → AreFalling family_order run → IsFound run subtree r → r ≡ Err i → IsGap run subtree i
found_nowhere run subtree r i falling result is k d within =
    let point : IsNonDecreasingBy (λ (y : FamilyRow). ordering_index (arcs_order subtree y.subtree)) run → IsPartitionPoint (λ (y : FamilyRow). arcs_order subtree y.subtree ≡ Less) (λ (y : FamilyRow). arcs_order subtree y.subtree ≡ Greater) run i =
    subst (IsFound run subtree) is result in
    let parts = point (subtrees_rise run subtree falling) in
    (λ before. parts.0 k d (omega arith) before, λ from. parts.1 k d from within)

abbrev pub IsAt : List FamilyRow → List ℕ → ℕ → Type 0
IsAt run subtree place = (place < length run) × ((d : FamilyRow) → (get_or run place d).subtree ≡ subtree)

pub found : (run : List FamilyRow) (subtree : List ℕ) (r : Result ℕ ℕ) → AreFalling family_order run → IsFound run subtree r → IsSearchInRange r (length run) → MatchResult r (IsAt run subtree) (IsGap run subtree)
found run subtree (Ok i) falling result bound = found_at run subtree (Ok i) i result bound refl
found run subtree (Err i) falling result bound = found_nowhere run subtree (Err i) i falling result refl

-- ---- the longest beginning

-- a row has the variable where its subtree begins it
pub begins_fits : (variable : List ℕ) (row : FamilyRow) (n : ℕ) → n ≤ length variable → row.subtree ≡ take n variable → HasArcs variable row
begins_fits variable row n upto is =
    let long : length row.subtree ≡ n = ap length is ∙ rw length-take (omega arith) in
    record {
      long = omega arith;
      arcs = λ k within compared. ap (λ xs. get_or xs k 0) is ∙ get_or-take n variable k 0 (omega arith);
    }

-- an exact row that has the variable has a beginning of it for its subtree
pub fits_begins : (variable : List ℕ) (row : FamilyRow) → IsExact row → HasArcs variable row → row.subtree ≡ take (length row.subtree) variable
fits_begins variable row exact fits =
    same_number_lists row.subtree (take (length row.subtree) variable) (let l = fits.long in rw length-take (omega arith))
    (λ k within. fits.arcs k within (exact k within) ∙ sym (get_or-take (length row.subtree) variable k 0 within))

not_less : (x y : ℕ) (p : Ordering) → y < x → ordering_then (nat_cmp x y) p ≢ Less
not_less x y p below less =
    let e : nat_cmp x y ≡ Greater = grind (arith, nat_tests) in
    let f : Greater ≡ Less = sym (ap (λ o. ordering_then o p) e) ∙ less in cc

-- a row is not exceeded by a shorter one, nor by one of the same subtree
pub longer : (a b : FamilyRow) → (length b.subtree < length a.subtree) ⊎ (b.subtree ≡ a.subtree) → family_order a b ≢ Less
longer a b (inl shorter) less = not_less (length a.subtree) (length b.subtree) _ shorter less
longer a b (inr same) less =
    let e : family_order a b ≡ Equal = ap (λ xs. arcs_order a.subtree xs) same ∙ tied_itself arcs_total a.subtree in
    let f : Equal ≡ Less = sym e ∙ less in cc

-- of falling rows, a later one has no more arcs
pub no_more_arcs : (a b : FamilyRow) → family_order a b ≢ Less → length b.subtree ≤ length a.subtree
no_more_arcs a b not_below = elim (cases_lt (length a.subtree) (length b.subtree)) [
  | inl more ↦
      let e : nat_cmp (length a.subtree) (length b.subtree) ≡ Less = grind (arith, nat_tests) in
      absurd (not_below (ap (λ o. ordering_then o (slice_cmp nat_cmp a.subtree b.subtree)) e))
  | inr upto ↦ upto
]

-- a list that is before another has no fewer arcs
pub no_fewer_arcs : (xs ys : List ℕ) → arcs_order xs ys ≡ Less → length xs ≤ length ys
no_fewer_arcs xs ys less = elim (cases_lt (length ys) (length xs)) [
  | inl fewer ↦ absurd (not_less (length xs) (length ys) _ fewer less)
  | inr upto ↦ upto
]

-- no row from a place on has so many arcs
abbrev pub AreShorterFrom : List FamilyRow → ℕ → ℕ → Type 0
AreShorterFrom run place bound = (k : ℕ) (d : FamilyRow) → place ≤ k → k < length run → length (get_or run k d).subtree < bound

pub shorter_from : (run : List FamilyRow) (place : ℕ) (row : FamilyRow) → AreFalling family_order run → row ≡ get_or run place row → AreShorterFrom run place (length row.subtree + 1)
shorter_from run place row falling at k d upto within =
    let e : get_or run place d ≡ row = get_or_default run place d row (omega arith) ∙ sym at in
    let h = not_exceeded (HasArcs []) family_order family_order-total run falling place k d upto within in
    let l = no_more_arcs row (get_or run k d) (λ less. h (ap (λ x. family_order x (get_or run k d)) e ∙ less)) in
    omega arith

module _ (variable : List ℕ) (run : List FamilyRow) (exact : AreExact run) where
  -- no row of so many arcs or more fits
  abbrev pub NoneFrom : ℕ → Type 0
  NoneFrom n = (row : FamilyRow) → Contains run row → n ≤ length row.subtree → ¬ HasArcs variable row

  -- at first, none has more arcs than the first row, nor fits with more than the variable
  pub none_past : (n bound : ℕ) → AreShorterFrom run 0 bound → ((x : ℕ) → n ≤ x → x < length variable + 1 → bound ≤ x) → NoneFrom n
  none_past n bound shorter is row c long fits =
      let l = fits.long in
      let from : bound ≤ length row.subtree = is (length row.subtree) long (omega arith) in
      let h = shorter c.0 row (omega arith) c.1 in
      let e : length (get_or run c.0 row).subtree ≡ length row.subtree = ap (λ (r : FamilyRow). length r.subtree) c.2 in
      omega arith

  begins_by : (row : FamilyRow) → Contains run row → HasArcs variable row → row.subtree ≡ take (length row.subtree) variable
  begins_by row there fits = fits_begins variable row (exact row there) fits

  pub none_here : (n : ℕ) → NoneFrom (n + 1) → ((row : FamilyRow) → Contains run row → row.subtree ≢ take n variable) → NoneFrom n
  none_here n none nowhere row there long fits = elim (cases_lt n (length row.subtree)) [
    | inl more ↦ none row there (omega arith) fits
    | inr upto ↦
        let e : length row.subtree ≡ n = omega arith in
        nowhere row there (begins_by row there fits ∙ ap (λ k. take k variable) e)
  ]

  module _ (n place : ℕ) (upto : n ≤ length variable) (none : NoneFrom (n + 1)) (gap : IsGap run (take n variable) place) where
    nowhere : (row : FamilyRow) → Contains run row → row.subtree ≢ take n variable
    nowhere row c same =
        let tied : arcs_order (take n variable) row.subtree ≡ Equal = ap (arcs_order (take n variable)) same ∙ tied_itself arcs_total (take n variable) in
        let at : arcs_order (take n variable) (get_or run c.0 row).subtree ≡ Equal = ap (λ (x : FamilyRow). arcs_order (take n variable) x.subtree) c.2 ∙ tied in
        elim (cases_lt c.0 place) [
          | inl before ↦ let e : Less ≡ Equal = sym ((gap c.0 row c.1).0 before) ∙ at in cc
          | inr from ↦ let e : Greater ≡ Equal = sym ((gap c.0 row c.1).1 from) ∙ at in cc
        ]

    -- between the beginning that was looked up and the arcs of the rows past its place, no row fits
    pub none_between : (next bound : ℕ) → AreShorterFrom run place bound → ((x : ℕ) → next ≤ x → x < n → bound ≤ x) → NoneFrom next
    none_between next bound shorter is row c long fits = elim (cases_lt (length row.subtree) n) [
      | inr from ↦ none_here n none nowhere row c from fits
      | inl below ↦
          let least : bound ≤ length row.subtree = is (length row.subtree) long below in
          let e : length (get_or run c.0 row).subtree ≡ length row.subtree = ap (λ (r : FamilyRow). length r.subtree) c.2 in
          let m : length (take n variable) ≡ n = rw length-take (omega arith) in
          elim (cases_lt c.0 place) [
            | inl before ↦ let h = no_fewer_arcs (take n variable) (get_or run c.0 row).subtree ((gap c.0 row c.1).0 before) in omega arith
            | inr past ↦ let h = shorter c.0 row past c.1 in omega arith
          ]
    ]

  pub longest_is_best : (n : ℕ) (row : FamilyRow) → n ≤ length variable → NoneFrom (n + 1) → Contains run row → row.subtree ≡ take n variable → IsBestOf run (HasArcs variable) family_order row
  longest_is_best n row upto none there is =
      let long : length row.subtree ≡ n = ap length is ∙ rw length-take (omega arith) in
      record {
        in_table = there;
        fits = begins_fits variable row n upto is;
        unexceeded = λ other c fits. elim (cases_lt n (length other.subtree)) [
          | inl more ↦ absurd (none other c (omega arith) fits)
          | inr not_more ↦ elim (cases_lt (length other.subtree) n) [
            | inl shorter ↦ longer row other (inl (omega arith))
            | inr from ↦
                let e : length other.subtree ≡ n = omega arith in
                longer row other (inr (begins_by other c fits ∙ ap (λ k. take k variable) e ∙ sym is))
          ]
        ];
      }

-- The last of rising rows that fits a variable is the best.
use Rattle.std.proofs.Common.{◌≡◌, ◌≢◌, ℕ, zero, suc, ◌<◌, ◌≤◌, ◌⊎◌, Bool, true, false, List, [], ◌∷◌, ◌++◌, length, get_or, take, sym, ap, ◌∙◌, subst, refl, inl, inr, arith, length-take, add-one}
use Rattle.std.specs.Prelude.{Contains, if◌then◌else◌}
use Rattle.std.specs.Ordering.{is_lt}
use Rattle.std.specs.List.Sorted.{IsSorted}
use Rattle.std.specs.declared.cmp.Ordering.TheVariants.{Less}
use Rattle.std.proofs.lemmas.Cmp.{tied_itself}
use Rattle.std.proofs.lemmas.List.{take_all, take_more, get_or-take, get_or_default}
use Rattle.std.proofs.lemmas.List.Elements.{Contains-append_left, Contains-push, Contains-push_cases}
use Rattle.std.proofs.lemmas.List.Sorted.{sorted_far, ranks_by, Contains-permutation}
use Rattle.vacm_core.specs.declared.rows.FamilyRow.{FamilyRow}
use Rattle.vacm_core.specs.Allowed.{IsBestOf, NoneFits, FitsVariable, HasView, family_order}
use Rattle.vacm_core.specs.Laws.{family_order-total}
use Rattle.vacm_core.specs.Place.{family_name}
use Rattle.vacm_core.specs.View.{HasArcs, AnswersView}
use Rattle.vacm_core.proofs.First.{best_of_table, none_of_table}
use Rattle.vacm_core.proofs.Exact.{arcs_exact}
use Rattle.vacm_core.proofs.Uniqueness.{alike}
use Rattle.snmpsec_access.specs.Seen.{fits, line_of, answer_of, rows_of}
use Rattle.snmpsec_access.specs.Rising.{AreRising, saying}
use Rattle.snmpsec_access.proofs.Members.{row_of, among_all, of_view, back}
use Rattle.snmpsec_access.proofs.Begins.{has_where_fits, fits_where_has}
use Rattle.snmpsec_access.proofs.Shortens.{saying_more}

-- the best of these rows for the variable says this, or none of them fits and it isn't included
abbrev IsSaid : List FamilyRow → List ℕ → Bool → Type 0
IsSaid rows variable says =
    (NoneFits rows (HasArcs variable) × (says ≡ false)) ⊎ ((row : FamilyRow) × IsBestOf rows (HasArcs variable) family_order row × (row.include ≡ says))

not_below_itself : (row : FamilyRow) → family_order row row ≢ Less
not_below_itself row h = let e = tied_itself family_order-total row in cc

module _ (seen : List FamilyRow) (row : FamilyRow) (variable : List ℕ) (above : (other : FamilyRow) → Contains seen other → family_order row other ≢ Less) where
  said_by_row : HasArcs variable row → IsSaid (seen ++ row ∷ []) variable row.include
  said_by_row has = inr (
    row,
    record {
      in_table = Contains-push seen row;
      fits = has;
      unexceeded = λ other c f. elim (Contains-push_cases seen row other c) [
        | inl there ↦ above other there
        | inr same ↦ subst (λ (r : FamilyRow). family_order row r ≢ Less) same (not_below_itself row)
      ];
    },
    refl,
  )

  said_before : (says : Bool) → ¬ HasArcs variable row → IsSaid seen variable says → IsSaid (seen ++ row ∷ []) variable says
  said_before says has_not (inl none) = inl (
    λ other c f. elim (Contains-push_cases seen row other c) [
      | inl there ↦ none.0 other there f
      | inr same ↦ has_not (subst (λ (r : FamilyRow). HasArcs variable r) (sym same) f)
    ],
    none.1,
  )
  said_before says has_not (inr best) = inr (
    best.0,
    record {
      in_table = Contains-append_left seen (row ∷ []) best.0 best.1.in_table;
      fits = best.1.fits;
      unexceeded = λ other c f. elim (Contains-push_cases seen row other c) [
        | inl there ↦ best.1.unexceeded other there f
        | inr same ↦ absurd (has_not (subst (λ (r : FamilyRow). HasArcs variable r) (sym same) f))
      ];
    },
    best.2,
  )

  said_more : (b : Bool) → fits (line_of row).pattern variable ≡ b → IsSaid seen variable (saying seen variable) → IsSaid (seen ++ row ∷ []) variable (saying (seen ++ row ∷ []) variable)
  said_more true at_it so_far =
      let says : saying (seen ++ row ∷ []) variable ≡ row.include = saying_more seen row variable ∙ ap (λ b. if b then row.include else saying seen variable) at_it in
      subst (λ says. IsSaid (seen ++ row ∷ []) variable says) (sym says) (said_by_row (has_where_fits row variable at_it))
  said_more false past_it so_far =
      let says : saying (seen ++ row ∷ []) variable ≡ saying seen variable = saying_more seen row variable ∙ ap (λ b. if b then row.include else saying seen variable) past_it in
      subst (λ says. IsSaid (seen ++ row ∷ []) variable says) (sym says)
      (said_before (saying seen variable) (λ has. let e : true ≡ false = sym (fits_where_has row variable has) ∙ past_it in cc) so_far)

-- an earlier one of rising rows is not above a later one
pub above_earlier : (rows : List FamilyRow) → IsSorted family_order rows → (i : ℕ) (row other : FamilyRow) → i < length rows → row ≡ get_or rows i row → Contains (take i rows) other → family_order row other ≢ Less
above_earlier rows rising i row other within at c less =
    let j : c.0 < i = let w = c.1 in omega (arith, length-take i rows) in
    let there : get_or rows c.0 other ≡ other = sym (get_or-take i rows c.0 other j) ∙ c.2 in
    let last : get_or rows i other ≡ row = get_or_default rows i other row within ∙ sym at in
    let far = sorted_far (λ a b. is_lt (family_order a b)) (ranks_by family_order-total (λ x. x)) rows rising c.0 i other (omega (arith, j)) within in
    let e : is_lt (family_order row other) ≡ false = ap (λ (r : FamilyRow). is_lt (family_order r other)) (sym last) ∙ ap (λ (r : FamilyRow). is_lt (family_order (get_or rows i other) r)) (sym there) ∙ far in
    let f : true ≡ false = sym (ap is_lt less) ∙ e in cc

said_upto : (rows : List FamilyRow) (variable : List ℕ) → IsSorted family_order rows → (i : ℕ) → i ≤ length rows → IsSaid (take i rows) variable (saying (take i rows) variable)
said_upto rows variable rising zero upto = inl (λ row c. absurd (omega (arith, c.1)), refl)
said_upto rows variable rising (suc i) upto =
    let within : i < length rows = omega (arith, upto) in
    let row = element rows i within in
    let at : row ≡ get_or rows i row = element_at rows i within in
    let taken : take (suc i) rows ≡ take i rows ++ row ∷ [] = rw (← add-one) (take_more rows i row within ∙ ap (λ (x : FamilyRow). take i rows ++ x ∷ []) (sym at)) in
    subst (λ (rs : List FamilyRow). IsSaid rs variable (saying rs variable)) (sym taken)
    (said_more (take i rows) row variable (λ other c. above_earlier rows rising i row other within at c) (fits (line_of row).pattern variable) refl (said_upto rows variable rising i (omega (arith, upto))))
  where
    element : (rows : List FamilyRow) (i : ℕ) → i < length rows → FamilyRow
    element [] i within = absurd (omega (arith, within))
    element (row ∷ rows) i within = get_or (row ∷ rows) i row

    element_at : (rows : List FamilyRow) (i : ℕ) (within : i < length rows) → element rows i within ≡ get_or rows i (element rows i within)
    element_at [] i within = absurd (omega (arith, within))
    element_at (row ∷ rows) i within = get_or_default (row ∷ rows) i row (get_or (row ∷ rows) i row) within

said : (rows : List FamilyRow) (variable : List ℕ) → IsSorted family_order rows → IsSaid rows variable (saying rows variable)
said rows variable rising = subst (λ (rs : List FamilyRow). IsSaid rs variable (saying rs variable)) (take_all (length rows) rows (omega arith)) (said_upto rows variable rising (length rows) (omega arith))

-- rows that rise say what the best of them says, and nothing where none fits
pub said_by_best : (rows : List FamilyRow) (variable : List ℕ) → IsSorted family_order rows → ((x y : FamilyRow) → Contains rows x → Contains rows y → x.subtree ≡ y.subtree → x ≡ y)
    → (row : FamilyRow) → IsBestOf rows (HasArcs variable) family_order row → saying rows variable ≡ row.include
said_by_best rows variable rising one_each row best = elim (said rows variable rising) [
  | inl none ↦ absurd (none.0 row best.in_table best.fits)
  | inr other ↦
      let order = alike family_order family_order-total other.0 row (other.1.unexceeded row best.in_table best.fits) (best.unexceeded other.0 other.1.in_table other.1.fits) in
      let same : other.0 ≡ row = one_each other.0 row other.1.in_table best.in_table (arcs_exact other.0.subtree row.subtree order) in
      sym other.2 ∙ ap (λ (r : FamilyRow). r.include) same
]

pub said_by_none : (rows : List FamilyRow) (variable : List ℕ) → IsSorted family_order rows → NoneFits rows (HasArcs variable) → saying rows variable ≡ false
said_by_none rows variable rising none = elim (said rows variable rising) [
  | inl nothing ↦ nothing.1
  | inr best ↦ absurd (none best.0 best.1.in_table best.1.fits)
]

-- the rows of a view decide as isAccessAllowed does
pub decides : (families picked : List FamilyRow) (view variable : List ℕ) → AreRising families view picked → HasView families view → AnswersView families view variable (answer_of (saying picked variable))
decides families picked view variable are has =
    by (saying picked variable) (said picked variable are.rising)
  where
    among : (row : FamilyRow) → Contains picked row → Contains families row
    among row c = among_all families view row (back (rows_of families view) picked are.moved row c)

    whole : (row : FamilyRow) → Contains families row → row.view ≡ view → Contains picked row
    whole row c named = Contains-permutation (rows_of families view) picked row are.moved (row_of families view row c named)

    here : (row : FamilyRow) → Contains picked row → HasArcs variable row → FitsVariable view variable row
    here row c h = record { same_view = of_view families view row (back (rows_of families view) picked are.moved row c); long = h.long; arcs = h.arcs }

    by : (says : Bool) → IsSaid picked variable says → AnswersView families view variable (answer_of says)
    by true (inl none) = absurd (let e : true ≡ false = none.1 in cc)
    by true (inr best) = (has, (best.0, best_of_table (FitsVariable view variable) (HasArcs variable) family_order family_name view families picked among whole (λ row f. f.same_view) (λ row f. record { long = f.long; arcs = f.arcs }) here best.0 best.1, best.2))
    by false (inl none) = (has, inl (none_of_table (FitsVariable view variable) (HasArcs variable) family_order family_name view families picked among whole (λ row f. f.same_view) (λ row f. record { long = f.long; arcs = f.arcs }) here none.0))
    by false (inr best) = (has, inr (best.0, best_of_table (FitsVariable view variable) (HasArcs variable) family_order family_name view families picked among whole (λ row f. f.same_view) (λ row f. record { long = f.long; arcs = f.arcs }) here best.0 best.1, best.2))

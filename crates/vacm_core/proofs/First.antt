-- The first row of a run that fits is the best of its table.
use Rattle.std.proofs.Common.{◌≡◌, ◌≢◌, ℕ, ◌+◌, ◌<◌, ◌≤◌, List, ◌++◌, true, false, length, get_or, Option, Some, None, MatchOption, Bor, Contains, sym, ap, subst, ◌∙◌, refl, inl, inr, arith}
use Rattle.std.specs.Cmp.{IsTotalOrder}
use Rattle.std.specs.Ordering.{is_lt, ordering_then}
use Rattle.std.specs.declared.cmp.Ordering.{Ordering}
use Rattle.std.specs.declared.cmp.Ordering.TheVariants.{Less, Equal, Greater}
use Rattle.std.proofs.lemmas.Bool.{cases_lt}
use Rattle.std.proofs.lemmas.Cmp.{back_total}
use Rattle.std.proofs.lemmas.List.{get_or_default}
use Rattle.std.proofs.lemmas.List.Elements.{Contains-append_left, Contains-append_right, Contains-append_cases}
use Rattle.std.proofs.lemmas.List.Sorted.{sorted_far, ranks_by}
use Rattle.vacm_core.specs.Allowed.{IsBestOf, NoneFits}
use Rattle.vacm_core.specs.RowOrder.{AreFalling}

pub then_equal : (o p : Ordering) → ordering_then o p ≡ Equal → (o ≡ Equal) × (p ≡ Equal)
then_equal Less p h = cc
then_equal Equal p h = (refl, h)
then_equal Greater p h = cc

-- the best of a name's rows is the best of their table
module _ {R : Type 0} (Fits Here : R → Type 0) (rank : R → R → Ordering) (name : R → List ℕ) (wanted : List ℕ) (rows those : List R)
    (among : (row : R) → Contains those row → Contains rows row)
    (whole : (row : R) → Contains rows row → name row ≡ wanted → Contains those row)
    (named : (row : R) → Fits row → name row ≡ wanted)
    (here : (row : R) → Fits row → Here row)
    (fits : (row : R) → Contains those row → Here row → Fits row) where
  pub none_of_table : NoneFits those Here → NoneFits rows Fits
  none_of_table none row there f = none row (whole row there (named row f)) (here row f)

  pub best_of_table : (row : R) → IsBestOf those Here rank row → IsBestOf rows Fits rank row
  best_of_table row best = record {
    in_table = among row best.in_table;
    fits = fits row best.in_table best.fits;
    unexceeded = λ other there f. best.unexceeded other (whole other there (named other f)) (here other f);
  }

module _ {R : Type 0} (Fits : R → Type 0) (rank : R → R → Ordering) (laws : IsTotalOrder rank) where
  -- of falling rows, an earlier one is not exceeded by a later one
  pub not_exceeded : (run : List R) → AreFalling rank run → (i j : ℕ) (d : R) → i ≤ j → j < length run → rank (get_or run i d) (get_or run j d) ≢ Less
  not_exceeded run falling i j d upto within less =
      let far = sorted_far (λ a b. is_lt (rank b a)) (ranks_by (back_total laws) (λ x. x)) run falling i j d upto within in
      let e : true ≡ false = sym (ap is_lt less) ∙ far in cc

  -- no row before this place fits
  abbrev pub NoneBefore : List R → ℕ → Type 0
  NoneBefore run i = (k : ℕ) (d : R) → k < i → k < length run → ¬ Fits (get_or run k d)

  module _ (run : List R) where
    pub first_is_best : AreFalling rank run → (i : ℕ) (row : R) → i < length run → row ≡ get_or run i row → NoneBefore run i → Fits row → IsBestOf run Fits rank row
    first_is_best falling i row within at none fits = record {
      in_table = (i, within, sym at);
      fits = fits;
      unexceeded = λ other c other_fits less. elim (cases_lt c.0 i) [
        | inl before ↦ none c.0 other before c.1 (subst Fits (sym c.2) other_fits)
        | inr from ↦
            let e : get_or run i other ≡ row = get_or_default run i other row within ∙ sym at in
            not_exceeded run falling i c.0 other from c.1 (ap (λ x. rank x (get_or run c.0 other)) e ∙ ap (rank row) c.2 ∙ less)
      ];
    }

    pub none_at_all : (i : ℕ) → length run ≤ i → NoneBefore run i → NoneFits run Fits
    none_at_all i long none row c fits = none c.0 row (omega (arith, c.1, long)) c.1 (subst Fits (sym c.2) fits)

    pub one_more : (i : ℕ) (row : R) → i < length run → row ≡ get_or run i row → NoneBefore run i → ¬ Fits row → NoneBefore run (i + 1)
    one_more i row within at none not_fits k d before long fits = elim (cases_lt k i) [
      | inl lower ↦ none k d lower long fits
      | inr from ↦
          let e : k ≡ i = omega arith in
          not_fits (subst Fits (ap (λ n. get_or run n d) e ∙ get_or_default run i d row within ∙ sym at) fits)
    ]

  -- two tables together
  pub none_of_both : (xs ys : List R) → NoneFits xs Fits → NoneFits ys Fits → NoneFits (xs ++ ys) Fits
  none_of_both xs ys none other_none row there fits = elim (Contains-append_cases xs ys row there) [
    | inl c ↦ none row c fits
    | inr c ↦ other_none row c fits
  ]

  pub best_of_left : (xs ys : List R) (row : R) → IsBestOf xs Fits rank row → ((other : R) → Contains ys other → Fits other → rank row other ≢ Less) → IsBestOf (xs ++ ys) Fits rank row
  best_of_left xs ys row best others = record {
    in_table = Contains-append_left xs ys row best.in_table;
    fits = best.fits;
    unexceeded = λ other there fits. elim (Contains-append_cases xs ys other there) [
      | inl c ↦ best.unexceeded other c fits
      | inr c ↦ others other c fits
    ];
  }

  pub best_of_right : (xs ys : List R) (row : R) → IsBestOf ys Fits rank row → ((other : R) → Contains xs other → Fits other → rank row other ≢ Less) → IsBestOf (xs ++ ys) Fits rank row
  best_of_right xs ys row best others = record {
    in_table = Contains-append_right xs ys row best.in_table;
    fits = best.fits;
    unexceeded = λ other there fits. elim (Contains-append_cases xs ys other there) [
      | inl c ↦ others other c fits
      | inr c ↦ best.unexceeded other c fits
    ];
  }

  -- a row that exceeds the best is exceeded by none that the best is not exceeded by
  pub above_best : (a b other : R) → rank a b ≡ Less → rank a other ≢ Less → rank b other ≢ Less
  above_best a b other less not_less more = not_less (laws.trans a b other less more)

  pub not_above_best : (a b other : R) → rank a b ≢ Less → rank b other ≢ Less → rank a other ≢ Less
  not_above_best a b other first second less =
      let h = (ranks_by laws (λ x. x)).chain a b other (not_less _ first) (not_less _ second) in
      let e : true ≡ false = sym (ap is_lt less) ∙ h in cc
    where
      not_less : (o : Ordering) → o ≢ Less → is_lt o ≡ false
      not_less Less h = absurd (h refl)
      not_less Equal h = refl
      not_less Greater h = refl

  pub best_of_second : (xs ys : List R) (o : Option (Bor R)) → NoneFits xs Fits → MatchOption o (NoneFits ys Fits) (λ row. IsBestOf ys Fits rank row.now) → MatchOption o (NoneFits (xs ++ ys) Fits) (λ row. IsBestOf (xs ++ ys) Fits rank row.now)
  best_of_second xs ys None none other_none = none_of_both xs ys none other_none
  best_of_second xs ys (Some b) none best = best_of_right xs ys b.now best (λ other c fits. absurd (none other c fits))

  module _ (xs ys : List R) (first second : R) (best : IsBestOf xs Fits rank first) (other_best : IsBestOf ys Fits rank second) where
    pub second_is_best : true ≡ is_lt (rank first second) → IsBestOf (xs ++ ys) Fits rank second
    second_is_best t = best_of_right xs ys second other_best (λ other c fits. above_best first second other (less_by _ t) (best.unexceeded other c fits))
      where
        less_by : (o : Ordering) → true ≡ is_lt o → o ≡ Less
        less_by Less h = refl
        less_by Equal h = cc
        less_by Greater h = cc

    pub first_stays_best : false ≡ is_lt (rank first second) → IsBestOf (xs ++ ys) Fits rank first
    first_stays_best t = best_of_left xs ys first best (λ other c fits. not_above_best first second other (λ less. let e : false ≡ true = t ∙ ap is_lt less in cc) (other_best.unexceeded other c fits))

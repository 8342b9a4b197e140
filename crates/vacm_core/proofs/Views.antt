-- The rows of a view in two tables, and what they answer.
use Rattle.std.proofs.Common.{◌≡◌, ◌≢◌, ℕ, ◌<◌, ◌⊎◌, List, [], ◌∷◌, ◌++◌, length, Contains, Bool, true, false, cond, Option, Some, None, MatchOption, Bor, sym, ◌∙◌, subst, refl, inl, inr, arith}
use Rattle.std.proofs.lemmas.List.Elements.{Contains-append_left, Contains-append_right, Contains-append_cases}
use Rattle.vacm_core.specs.declared.access.Access.{Access}
use Rattle.vacm_core.specs.declared.access.Access.TheVariants.{NoSuchContext, NoGroupName, NoAccessEntry, NoSuchView, NotInView, AccessAllowed}
use Rattle.vacm_core.specs.declared.access.ViewType.{ViewType}
use Rattle.std.proofs.lemmas.Option.{MatchOption-at_some}
use Rattle.vacm_core.specs.declared.rows.ContextRow.{ContextRow}
use Rattle.vacm_core.specs.declared.rows.GroupRow.{GroupRow}
use Rattle.vacm_core.specs.declared.rows.AccessRow.{AccessRow}
use Rattle.vacm_core.specs.declared.ask.Deciding.{Deciding}
use Rattle.vacm_core.specs.declared.rows.FamilyRow.{FamilyRow}
use Rattle.vacm_core.specs.Tables.{Tables}
use Rattle.vacm_core.specs.Steps.{HasNoGroup, DecidesView, DecidesAccess, DecidesGroup, DecidesContext}
use Rattle.vacm_core.specs.Allowed.{Allowed, ByView, Requester, HasContext, HasView, IsInGroup, IsGroupRow, IsBestOf, NoneFits, FitsMessage, FitsVariable, access_order, family_order, view_name}
use Rattle.vacm_core.specs.RowOrder.{IsRunOf}
use Rattle.vacm_core.specs.Place.{family_name}
use Rattle.vacm_core.specs.View.{HasArcs, AnswersView, AreDistinct, AreRowsOf}
use Rattle.vacm_core.specs.Wildcard.{wildcard_order}
use Rattle.vacm_core.proofs.First.{best_of_table, none_of_table}

some_row : (rows : List FamilyRow) → 0 < length rows → (row : FamilyRow) × Contains rows row
some_row [] h = absurd (omega (arith, h))
some_row (row ∷ rows) h = (row, (0, omega arith, refl))

module _ (xs ys xr yr : List FamilyRow) (view : List ℕ) (first : IsRunOf family_name family_order view xs xr) (second : IsRunOf family_name wildcard_order view ys yr) where
  among : (row : FamilyRow) → Contains (xr ++ yr) row → Contains (xs ++ ys) row
  among row there = elim (Contains-append_cases xr yr row there) [
    | inl c ↦ Contains-append_left xs ys row (first.among row c)
    | inr c ↦ Contains-append_right xs ys row (second.among row c)
  ]

  whole : (row : FamilyRow) → Contains (xs ++ ys) row → row.view ≡ view → Contains (xr ++ yr) row
  whole row there named = elim (Contains-append_cases xs ys row there) [
    | inl c ↦ Contains-append_left xr yr row (first.whole row c named)
    | inr c ↦ Contains-append_right xr yr row (second.whole row c named)
  ]

  named : (row : FamilyRow) → Contains (xr ++ yr) row → row.view ≡ view
  named row there = elim (Contains-append_cases xr yr row there) [
    | inl c ↦ first.named row c
    | inr c ↦ second.named row c
  ]

  module _ (variable : List ℕ) where
    pub none_of_view : NoneFits (xr ++ yr) (HasArcs variable) → NoneFits (xs ++ ys) (FitsVariable view variable)
    none_of_view = none_of_table (FitsVariable view variable) (HasArcs variable) family_order family_name view (xs ++ ys) (xr ++ yr) among whole
        (λ row f. f.same_view) (λ row f. record { long = f.long; arcs = f.arcs }) (λ row there h. record { same_view = named row there; long = h.long; arcs = h.arcs })

    pub best_of_view : (row : FamilyRow) → IsBestOf (xr ++ yr) (HasArcs variable) family_order row → IsBestOf (xs ++ ys) (FitsVariable view variable) family_order row
    best_of_view = best_of_table (FitsVariable view variable) (HasArcs variable) family_order family_name view (xs ++ ys) (xr ++ yr) among whole
        (λ row f. f.same_view) (λ row f. record { long = f.long; arcs = f.arcs }) (λ row there h. record { same_view = named row there; long = h.long; arcs = h.arcs })

  pub rows_of_view : AreRowsOf (xs ++ ys) view (xr ++ yr)
  rows_of_view = record { both = λ row. (λ there. (among row there, named row there), λ h. whole row h.0 h.1) }

  pub distinct_of_view : ((x y : FamilyRow) → Contains (xs ++ ys) x → Contains (xs ++ ys) y → x.view ≡ y.view → x.subtree ≡ y.subtree → x ≡ y) → AreDistinct (xr ++ yr)
  distinct_of_view one x y a b same = one x y (among x a) (among y b) (named x a ∙ sym (named y b)) same

  pub has_view_where : (view ≢ []) × ((0 < length xr) ⊎ (0 < length yr)) → HasView (xs ++ ys) view
  has_view_where h = record { named = h.0; has_row = by_row h.1 }
    where
      by_row : (0 < length xr) ⊎ (0 < length yr) → (row : FamilyRow) × Contains (xs ++ ys) row × (row.view ≡ view)
      by_row (inl l) = let r = some_row xr l in (r.0, Contains-append_left xs ys r.0 (first.among r.0 r.1), first.named r.0 r.1)
      by_row (inr l) = let r = some_row yr l in (r.0, Contains-append_right xs ys r.0 (second.among r.0 r.1), second.named r.0 r.1)

  pub where_has_view : HasView (xs ++ ys) view → (view ≢ []) × ((0 < length xr) ⊎ (0 < length yr))
  where_has_view h = (
    h.named,
    elim (Contains-append_cases xr yr h.has_row.0 (whole h.has_row.0 h.has_row.1 h.has_row.2)) [
      | inl c ↦ inl (let w = c.1 in omega arith)
      | inr c ↦ inr (let w = c.1 in omega arith)
    ],
  )

-- no row fits where there is no view of this name
pub none_of_no_view : (rows : List FamilyRow) (view variable : List ℕ) → ¬ HasView rows view → view ≢ [] → NoneFits rows (FitsVariable view variable)
none_of_no_view rows view variable none some row there fits = none (record { named = some; has_row = (row, there, fits.same_view) })

-- the row that decides says what is answered
pub by_row : (rows : List FamilyRow) (view variable : List ℕ) (row : FamilyRow) → HasView rows view → IsBestOf rows (FitsVariable view variable) family_order row
    → (answer : Access) → answer ≡ cond row.include AccessAllowed NotInView → AnswersView rows view variable answer
by_row rows view variable row has best answer is = by row.include refl is
  where
    by : (include : Bool) → row.include ≡ include → answer ≡ cond include AccessAllowed NotInView → AnswersView rows view variable answer
    by true e is = subst (λ a. AnswersView rows view variable a) (sym is) (has, (row, best, e))
    by false e is = subst (λ a. AnswersView rows view variable a) (sym is) (has, inr (row, best, e))

-- what the view answers is the answer
pub by_view : (t : Tables) (q : Requester) (view : ViewType) (variable group : List ℕ) (row : AccessRow)
    → HasContext t.contexts q.context → IsInGroup t.groups q.model q.name group → IsBestOf t.access (FitsMessage group q.model q.level q.context) access_order row
    → (answer : Access) → AnswersView t.families (view_name view row) variable answer → Allowed t q view variable answer
by_view t q view variable group row context in_group best NoSuchContext h = absurd h
by_view t q view variable group row context in_group best NoGroupName h = absurd h
by_view t q view variable group row context in_group best NoAccessEntry h = absurd h
by_view t q view variable group row context in_group best NoSuchView h = record { context = context; group = group; in_group = in_group; row = row; best = best; so = h }
by_view t q view variable group row context in_group best NotInView h = record { context = context; group = group; in_group = in_group; row = row; best = best; so = h }
by_view t q view variable group row context in_group best AccessAllowed h = record { context = context; group = group; in_group = in_group; row = row; best = best; so = h }

-- the rows that decide, from the context to the access row
module _ (t : Tables) (q : Requester) (view : ViewType) (variable : List ℕ) (d : Deciding) (decides : DecidesContext t q view variable d)
    (context : Bor ContextRow) (has_context : d.context ≡ Some context) where
  group_of : DecidesGroup t q view variable d
  group_of = (MatchOption-at_some _ _ context has_context decides).2

  pub context_of : HasContext t.contexts q.context
  context_of = let c = MatchOption-at_some _ _ context has_context decides in (context.now, c.0, c.1)

  pub no_group_of : d.group ≡ None → (group : List ℕ) → ¬ IsInGroup t.groups q.model q.name group
  no_group_of none = subst (λ (o : Option (Bor GroupRow)). MatchOption o (HasNoGroup t.groups q.model q.name) (λ row. Contains t.groups row.now × IsGroupRow q.model q.name row.now × DecidesAccess t q view variable row.now.group d)) none group_of

  module _ (group : Bor GroupRow) (has_group : d.group ≡ Some group) where
    access_of : DecidesAccess t q view variable group.now.group d
    access_of = (MatchOption-at_some _ _ group has_group group_of).2

    in_group_of : IsInGroup t.groups q.model q.name group.now.group
    in_group_of = let g = MatchOption-at_some _ _ group has_group group_of in (group.now, g.0, g.1, refl)

    pub no_access_of : d.access ≡ None → (variable : List ℕ) → Allowed t q view variable NoAccessEntry
    no_access_of none variable' = (
      context_of,
      (group.now.group, in_group_of, subst (λ (o : Option (Bor AccessRow)). MatchOption o (NoneFits t.access (FitsMessage group.now.group q.model q.level q.context)) (λ row. IsBestOf t.access (FitsMessage group.now.group q.model q.level q.context) access_order row.now × DecidesView t.families (view_name view row.now) variable d.family)) none access_of),
    )

    pub view_of : (row : Bor AccessRow) → d.access ≡ Some row → (P : List ℕ → Type 0) → P (view_name view row.now) → ByView t q view P
    view_of row has_row P so =
        record { context = context_of; group = group.now.group; in_group = in_group_of; row = row.now; best = (MatchOption-at_some _ _ row has_row access_of).0; so = so }

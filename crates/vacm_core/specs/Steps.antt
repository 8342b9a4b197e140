-- Which rows decide on a question (RFC 3415 section 3), and where they stand.
--
-- `TellsContext tables message view variable steps`. Which rows decide, as far as it comes, by the
-- relations of `Allowed`, and where they stand. `IsBestAt`: the row at this position is the best of those
-- that fit. `TellsGroup`, `TellsAccess`, `TellsView`, `TellsFamily`: what comes after the context.
-- `DecidesContext` and what follows it say the same of the rows alone.
use Rattle.std.specs.Prelude.{◌≡◌, ◌≢◌, ℕ, List, [], Option, Some, None, MatchOption, Contains, slice_get}
use Rattle.std.specs.Borrow.{Bor}
use Rattle.std.specs.declared.cmp.Ordering.{Ordering}
use Rattle.vacm_core.specs.Tables.{Tables}
use Rattle.vacm_core.specs.Allowed.{Requester, IsBestOf, NoneFits, HasContext, IsGroupRow, IsInGroup, FitsMessage}
use Rattle.vacm_core.specs.Allowed.{FitsVariable, access_order, family_order, view_name}
use Rattle.vacm_core.specs.declared.access.ViewType.{ViewType}
use Rattle.vacm_core.specs.declared.rows.ContextRow.{ContextRow}
use Rattle.vacm_core.specs.declared.rows.GroupRow.{GroupRow}
use Rattle.vacm_core.specs.declared.rows.AccessRow.{AccessRow}
use Rattle.vacm_core.specs.declared.rows.FamilyRow.{FamilyRow}
use Rattle.vacm_core.specs.declared.ask.Deciding.{Deciding}
use Rattle.vacm_core.specs.declared.steps.Asking.{Asking}
use Rattle.vacm_core.specs.declared.steps.ContextStep.{ContextStep}
use Rattle.vacm_core.specs.declared.steps.GroupStep.{GroupStep}
use Rattle.vacm_core.specs.declared.steps.AccessStep.{AccessStep}
use Rattle.vacm_core.specs.declared.steps.ViewStep.{ViewStep}

-- The row stands at this position, and it is the best of those that fit.
pub record IsBestAt {R : Type 0} (rows : List R) (Fits : R → Type 0) (order : R → R → Ordering) (position : ℕ)
    (row : R) : Type 0 where
  pub stands : slice_get rows position ≡ Some row
  pub best : IsBestOf rows Fits order row

-- The row of the context stands at this position.
pub record IsContextAt (rows : List ContextRow) (context : List ℕ) (position : ℕ) : Type 0 where
  pub row : ContextRow
  pub stands : slice_get rows position ≡ Some row
  pub named : row.name ≡ context

-- The row at this position has the name's group.
pub record IsGroupAt (rows : List GroupRow) (model : ℕ) (name : List ℕ) (position : ℕ) (row : GroupRow) : Type 0 where
  pub stands : slice_get rows position ≡ Some row
  pub is_row : IsGroupRow model name row

-- the name is in no group
abbrev pub HasNoGroup : List GroupRow → ℕ → List ℕ → Type 0
HasNoGroup rows model name = (group : List ℕ) → ¬ IsInGroup rows model name group

-- ---- the rows that decide, from the last to the first

-- the family row of the view that decides on the variable, where one has it
abbrev pub DecidesFamily : List FamilyRow → List ℕ → List ℕ → Option (Bor FamilyRow) → Type 0
DecidesFamily rows view variable family =
    MatchOption family (NoneFits rows (FitsVariable view variable))
    (λ row. IsBestOf rows (FitsVariable view variable) family_order row.now)

-- of the view of this name; the empty name is no view
abbrev pub DecidesView : List FamilyRow → List ℕ → List ℕ → Option (Bor FamilyRow) → Type 0
DecidesView rows name variable family = name ≢ [] → DecidesFamily rows name variable family

-- the best of the group's access rows that match the message, where one does
abbrev pub DecidesAccess : Tables → Requester → ViewType → List ℕ → List ℕ → Deciding → Type 0
DecidesAccess t q view variable group d =
    MatchOption d.access (NoneFits t.access (FitsMessage group q.model q.level q.context))
    (λ row. IsBestOf t.access (FitsMessage group q.model q.level q.context) access_order row.now
    × DecidesView t.families (view_name view row.now) variable d.family)

-- the row of the security name's group, where it has one
abbrev pub DecidesGroup : Tables → Requester → ViewType → List ℕ → Deciding → Type 0
DecidesGroup t q view variable d =
    MatchOption d.group (HasNoGroup t.groups q.model q.name)
    (λ row. Contains t.groups row.now × IsGroupRow q.model q.name row.now
    × DecidesAccess t q view variable row.now.group d)

-- the row of the context, where there is one
abbrev pub DecidesContext : Tables → Requester → ViewType → List ℕ → Deciding → Type 0
DecidesContext t q view variable d =
    MatchOption d.context (¬ HasContext t.contexts q.context)
    (λ row. Contains t.contexts row.now × (row.now.name ≡ q.context) × DecidesGroup t q view variable d)

-- ---- their positions

-- the family row of the view that decides on the variable, where one has it
abbrev pub TellsFamily : List FamilyRow → List ℕ → List ℕ → Option ℕ → Type 0
TellsFamily rows view variable None = NoneFits rows (FitsVariable view variable)
TellsFamily rows view variable (Some position) = (row : FamilyRow)
    × IsBestAt rows (FitsVariable view variable) family_order position row

-- the view of this name; the empty name is no view
abbrev pub TellsView : List FamilyRow → List ℕ → List ℕ → Option ViewStep → Type 0
TellsView rows name variable None = name ≡ []
TellsView rows name variable (Some step) = (name ≢ []) × (step.name ≡ name) × TellsFamily rows name variable step.family

-- the best of the group's access rows that match the message, where one does
abbrev pub TellsAccess : Tables → Requester → ViewType → List ℕ → List ℕ → Option AccessStep → Type 0
TellsAccess t q view variable group None = NoneFits t.access (FitsMessage group q.model q.level q.context)
TellsAccess t q view variable group (Some step) =
    (row : AccessRow) × IsBestAt t.access (FitsMessage group q.model q.level q.context) access_order step.position row
    × TellsView t.families (view_name view row) variable step.view

-- the group of the security name, where it has one
abbrev pub TellsGroup : Tables → Requester → ViewType → List ℕ → Option GroupStep → Type 0
TellsGroup t q view variable None = HasNoGroup t.groups q.model q.name
TellsGroup t q view variable (Some step) =
    (row : GroupRow) × IsGroupAt t.groups q.model q.name step.position row × (step.name ≡ row.group)
    × TellsAccess t q view variable row.group step.access

-- the context, where there is one
abbrev pub TellsContext : Tables → Requester → ViewType → List ℕ → Option ContextStep → Type 0
TellsContext t q view variable None = ¬ HasContext t.contexts q.context
TellsContext t q view variable (Some step) = IsContextAt t.contexts q.context step.position
    × TellsGroup t q view variable step.group

-- ---- what the values of the code say

abbrev pub requester_of : Asking → Requester
requester_of a = record { model = a.model; name = a.name.now; level = a.level; context = a.context.now }

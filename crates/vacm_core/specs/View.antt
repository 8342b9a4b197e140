-- What the rows of one view say of a variable.
use Rattle.std.specs.Prelude.{◌≡◌, ℕ, ◌<◌, ◌≤◌, ◌↔◌, Bool, true, nat_lt, List, ◌∷◌, length, take}
use Rattle.std.specs.Prelude.{slice_index, get_or, Contains}
use Rattle.std.specs.Ordering.{nat_cmp, ordering_index}
use Rattle.std.specs.declared.cmp.Ordering.TheVariants.{Greater}
use Rattle.std.specs.Cmp.Lexicographic.{slice_cmp}
use Rattle.vacm_core.specs.declared.access.Access.{Access}
use Rattle.vacm_core.specs.declared.access.Access.TheVariants.{NoSuchContext, NoGroupName, NoAccessEntry, NoSuchView}
use Rattle.vacm_core.specs.declared.access.Access.TheVariants.{NotInView, AccessAllowed}
use Rattle.vacm_core.specs.declared.rows.FamilyRow.{FamilyRow}
use Rattle.vacm_core.specs.Allowed.{HasView, IsBestOf, IsInView, IsOutOfView, family_order, mask_bit}

-- the mask compares each arc of the subtree
abbrev pub IsExact : FamilyRow → Type 0
IsExact row = (k : ℕ) → k < length row.subtree → mask_bit row.mask k ≡ 1

abbrev pub AreExact : List FamilyRow → Type 0
AreExact rows = (row : FamilyRow) → Contains rows row → IsExact row

-- the subtree has the variable, whatever the row's view
pub record HasArcs (variable : List ℕ) (row : FamilyRow) : Type 0 where
  pub long : length row.subtree ≤ length variable
  pub arcs : (k : ℕ) → k < length row.subtree → mask_bit row.mask k ≡ 1
      → slice_index row.subtree k ≡ slice_index variable k

-- the subtree of the row and the beginning have the same arcs, where both have one and the mask compares it
abbrev pub Agrees : List ℕ → FamilyRow → Type 0
Agrees beginning row = (k : ℕ) → k < length row.subtree → k < length beginning → mask_bit row.mask k ≡ 1
    → slice_index row.subtree k ≡ slice_index beginning k

-- the row agrees with the beginning and is longer
pub record IsUnder (beginning : List ℕ) (row : FamilyRow) : Type 0 where
  pub longer : length beginning < length row.subtree
  pub agrees : Agrees beginning row

-- no row from the first place on, and before the second, agrees with the beginning and is longer
abbrev pub NoneUnder : List FamilyRow → List ℕ → ℕ → ℕ → Type 0
NoneUnder rows beginning place end = (k : ℕ) (d : FamilyRow) → place ≤ k → k < end
    → ¬ IsUnder beginning (get_or rows k d)

-- the length of the row and the first arcs of its subtree, as many as the beginning has
abbrev pub front_key : List ℕ → FamilyRow → List ℕ
front_key beginning row = length row.subtree ∷ take (length beginning) row.subtree

-- the row is longer than this, or as long and its first arcs are greater than the beginning
abbrev pub is_before : ℕ → List ℕ → FamilyRow → Bool
is_before size beginning row =
    nat_lt (ordering_index (slice_cmp nat_cmp (size ∷ beginning) (front_key beginning row))) 1

-- the row is before those of this many arcs that begin so. A row that begins so and has more arcs stands before it
pub record IsPast (size : ℕ) (beginning : List ℕ) (row : FamilyRow) : Type 0 where
  pub before : is_before size beginning row ≡ true
  pub none : (more : ℕ) → size < more → slice_cmp nat_cmp (more ∷ beginning) (front_key beginning row) ≡ Greater

-- no two of the rows have the same subtree
abbrev pub AreDistinct : List FamilyRow → Type 0
AreDistinct rows = (x y : FamilyRow) → Contains rows x → Contains rows y → x.subtree ≡ y.subtree → x ≡ y

-- the rows are those of the view of this name
pub record AreRowsOf (families : List FamilyRow) (view : List ℕ) (rows : List FamilyRow) : Type 0 where
  pub both : (row : FamilyRow) → Contains rows row ↔ (Contains families row × (row.view ≡ view))

-- of the rows of one view that have the variable, the best includes it
abbrev pub Includes : List FamilyRow → List ℕ → Type 0
Includes rows variable =
    (row : FamilyRow) × IsBestOf rows (HasArcs variable) family_order row × (row.include ≡ true)

-- the answer where a view is known
abbrev pub AnswersView : List FamilyRow → List ℕ → List ℕ → Access → Type 0
AnswersView rows view variable NoSuchContext = ⊥
AnswersView rows view variable NoGroupName = ⊥
AnswersView rows view variable NoAccessEntry = ⊥
AnswersView rows view variable NoSuchView = ¬ HasView rows view
AnswersView rows view variable NotInView = HasView rows view × IsOutOfView rows view variable
AnswersView rows view variable AccessAllowed = HasView rows view × IsInView rows view variable

-- Read views of access rows that no family row has (RFC 3415, section 4): whoever has such a view sees nothing by it.
--
-- `has_family`: a family row has the view. `is_without_family`: the view isn't empty, and none has it.
-- `views_without_family`: the read views of the access rows that are so, each once, in the order of the rows.
use Rattle.std.specs.Prelude.{◌≡◌, ◌&&◌, ◌||◌, ℕ, Bool, not, if◌then◌else◌, List, [], ◌∷◌, ◌++◌}
use Rattle.std.specs.List.{fold, list_any}
use Rattle.std.specs.HashSet.{contains_by}
use Rattle.std.specs.Str.{bytes_eq}
use Rattle.vacm_core.specs.Faults.{is_empty}
use Rattle.vacm_core.specs.declared.rows.AccessRow.{AccessRow}
use Rattle.vacm_core.specs.declared.rows.FamilyRow.{FamilyRow}
use Rattle.snmpsec_gate_config.specs.declared.view.KnownViews.{KnownViews}

abbrev pub has_family : List FamilyRow → List ℕ → Bool
has_family families view = list_any (λ row. bytes_eq view row.view) families

abbrev pub is_without_family : List FamilyRow → List ℕ → Bool
is_without_family families view = not (is_empty view) && not (has_family families view)

abbrev pub is_among : List (List ℕ) → List ℕ → Bool
is_among views view = list_any (λ other. bytes_eq view other) views

-- the row's read view comes after those of the rows before it, where it is so and isn't one of them
abbrev pub with_view : List FamilyRow → List (List ℕ) → AccessRow → List (List ℕ)
with_view families views row = if is_without_family families row.read && not (is_among views row.read)
    then views ++ row.read ∷ [] else views

abbrev pub views_without_family : List FamilyRow → List AccessRow → List (List ℕ)
views_without_family families access = fold (with_view families) [] access

-- ---- what the code knows

-- the view is among these
abbrev pub has : KnownViews → List ℕ → Bool
has known view = contains_by (λ key. bytes_eq view key.now) known.names

-- these are the views that family rows have
abbrev pub AreViewsOf : List FamilyRow → KnownViews → Type 0
AreViewsOf families known = (view : List ℕ) → has known view ≡ has_family families view

-- these are the views that family rows have, and those that were found
abbrev pub AreKnown : List FamilyRow → List (List ℕ) → KnownViews → Type 0
AreKnown families views known = (view : List ℕ) → has known view ≡ (has_family families view || is_among views view)

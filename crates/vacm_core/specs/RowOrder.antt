-- How rows stand in a table: by name, and those of a name from the best down.
use Rattle.std.specs.Prelude.{◌≡◌, ◌≢◌, ℕ, ◌<◌, ◌≤◌, List, length, get_or, slice_range, Contains, Some, None, nat_eq}
use Rattle.std.specs.Map.{lookup}
use Rattle.std.specs.Ordering.{nat_cmp, ordering_then, ordering_index}
use Rattle.std.specs.Cmp.Lexicographic.{slice_cmp, pointwise}
use Rattle.std.specs.List.Sorted.{IsSorted}
use Rattle.std.specs.declared.cmp.Ordering.{Ordering}
use Rattle.vacm_core.specs.declared.table.Run.{Run}

-- rows rise by their names, and the rows of a name fall
abbrev pub place_order : {R : Type 0} → (R → List ℕ) → (R → R → Ordering) → R → R → Ordering
place_order name rank a b = ordering_then (slice_cmp nat_cmp (name a) (name b)) (rank b a)

abbrev pub AreInPlace : {R : Type 0} → (R → List ℕ) → (R → R → Ordering) → List R → Type 0
AreInPlace name rank rows = IsSorted (place_order name rank) rows

-- from the best down
abbrev pub AreFalling : {R : Type 0} → (R → R → Ordering) → List R → Type 0
AreFalling rank rows = IsSorted (λ a b. rank b a) rows

-- where a row stands against a name: 0 before, 1 there, 2 after
abbrev pub side_of : {R : Type 0} → (R → List ℕ) → List ℕ → R → ℕ
side_of name wanted row = ordering_index (slice_cmp nat_cmp (name row) wanted)

abbrev pub HasRowOf : {R : Type 0} → (R → List ℕ) → List ℕ → List R → Type 0
HasRowOf {R} name wanted rows = (row : R) × Contains rows row × (name row ≡ wanted)

-- the rows of a name, from the best down
pub record IsRunOf {R : Type 0} (name : R → List ℕ) (rank : R → R → Ordering) (wanted : List ℕ)
    (rows run : List R) : Type 0 where
  pub named : (row : R) → Contains run row → name row ≡ wanted
  pub among : (row : R) → Contains run row → Contains rows row
  pub whole : (row : R) → Contains rows row → name row ≡ wanted → Contains run row
  pub falling : AreFalling rank run

-- of the rows the one at the place is the first with the name
pub record IsFirstPlace {R : Type 0} (name : R → List ℕ) (rows : List R) (wanted : List ℕ) (place : ℕ) : Type 0 where
  pub named : (row : R) → name (get_or rows place row) ≡ wanted
  pub none_before : (k : ℕ) (row : R) → k < place → name (get_or rows k row) ≢ wanted

-- the entries give the run of each name that one of so many rows has, and of no other name
pub record AreRuns {R : Type 0} (name : R → List ℕ) (rank : R → R → Ordering) (rows : List R) (many : ℕ)
    (entries : List (List ℕ × Run)) : Type 0 where
  pub within : (wanted : List ℕ) (run : Run) → lookup (pointwise nat_eq wanted) entries ≡ Some run
      → (run.first ≤ run.end) × (run.end ≤ length rows)
  pub is_run : (wanted : List ℕ) (run : Run) → lookup (pointwise nat_eq wanted) entries ≡ Some run
      → IsRunOf name rank wanted rows (slice_range rows run.first run.end)
  pub missing : (wanted : List ℕ) → lookup (pointwise nat_eq wanted) entries ≡ None → (k : ℕ) (row : R) → k < many
      → name (get_or rows k row) ≢ wanted
  pub short : (k : ℕ) (row : R) → k < many → length (name (get_or rows k row)) ≤ 32

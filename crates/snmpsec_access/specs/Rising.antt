-- The rows of a view from the least up, those of them that are needed, and what the values of the code say of them.
use Rattle.std.specs.Prelude.{◌≡◌, ◌≢◌, ◌⊎◌, ℕ, ◌<◌, Bool, List, [], ◌∷◌, ◌++◌, length, get_or, remove}
use Rattle.std.specs.Prelude.{Contains, map}
use Rattle.std.specs.Borrow.{Bor}
use Rattle.std.specs.List.Sorted.{IsSorted, IsPermutation}
use Rattle.vacm_core.specs.declared.rows.FamilyRow.{FamilyRow}
use Rattle.vacm_core.specs.Allowed.{family_order}
use Rattle.vacm_core.specs.Tables.{Tables}
use Rattle.vacm_core.specs.View.{AreExact, AnswersView}
use Rattle.vacm_core.specs.declared.steps.Asking.{Asking}
use Rattle.vacm_core.specs.Steps.{requester_of}
use Rattle.snmpsec_access.specs.declared.deciding.Deciding.{Deciding}
use Rattle.snmpsec_access.specs.declared.deciding.Deciding.TheVariants.{Refusal, Rows}
use Rattle.snmpsec_access.specs.declared.viewer.Seen.{Seen}
use Rattle.snmpsec_access.specs.Askers.{Asker}
use Rattle.snmpsec_access.specs.Seen.{Decision, refusal, by_lines, Decided, IsDecided, IsRefusal, AreLinesOf}
use Rattle.snmpsec_access.specs.Seen.{answer_of, is_included, line_of, rows_of}

-- what references point to
abbrev pub rows_at : List (Bor FamilyRow) → List FamilyRow
rows_at items = map (λ row. row.now) items

-- The rows of the view, from the least up.
pub record AreRising (families : List FamilyRow) (view : List ℕ) (picked : List FamilyRow) : Type 0 where
  pub moved : IsPermutation (rows_of families view) picked
  pub rising : IsSorted family_order picked

-- what the lines of rows say of a variable
abbrev pub saying : List FamilyRow → List ℕ → Bool
saying rows variable = is_included (map line_of rows) variable

-- The row is kept behind the others where they don't say the same of its subtree.
abbrev pub IsNext : List FamilyRow → FamilyRow → List FamilyRow → Type 0
IsNext kept row next =
    ((saying kept row.subtree ≡ row.include) × (next ≡ kept))
    ⊎ ((saying kept row.subtree ≢ row.include) × (next ≡ kept ++ row ∷ []))

-- Those that are kept say the same of each variable, and none of them can be left out: without it its own
-- subtree is decided otherwise.
pub record AreLeft (seen kept : List FamilyRow) : Type 0 where
  pub same : (variable : List ℕ) → saying kept variable ≡ saying seen variable
  pub among : (row : FamilyRow) → Contains kept row → Contains seen row
  pub rising : IsSorted family_order kept
  pub own : (row : FamilyRow) → Contains kept row → saying kept row.subtree ≡ row.include
  pub needed : (k : ℕ) (d : FamilyRow) → k < length kept
      → saying (remove kept k) (get_or kept k d).subtree ≢ saying kept (get_or kept k d).subtree

-- Those that are kept of rows that rise: where none has a wildcard those that are needed, else all.
abbrev pub AreKept : List FamilyRow → List FamilyRow → Type 0
AreKept rows kept = (AreExact rows × AreLeft rows kept) ⊎ ((¬ AreExact rows) × (kept ≡ rows))

-- ---- what decides

abbrev pub decision_of : Deciding → Decision
decision_of (Refusal answer) = refusal answer
decision_of (Rows rows) = by_lines (map line_of (rows_at rows.items))

-- So each variable is answered where the view is known.
abbrev pub IsOfView : List FamilyRow → List ℕ → Decision → Type 0
IsOfView families view (refusal answer) = IsRefusal answer
    × ((variable : List ℕ) → AnswersView families view variable answer)
IsOfView families view (by_lines lines) =
    ((variable : List ℕ) → AnswersView families view variable (answer_of (is_included lines variable)))
    × AreLinesOf families view lines

abbrev pub asker_of : Asking → Asker
asker_of asking = record { message = requester_of asking; view = asking.view }

-- what is seen of a name of this model
abbrev pub decided_of : ℕ → List ℕ → Seen → Decided
decided_of model name s = record {
  asker = record {
    message = record { model = model; name = name; level = s.level; context = s.context.now };
    view = s.view;
  };
  decision = decision_of s.deciding;
}

-- The list goes on with what decides on these questions.
pub record SeesOn (t : Tables) (from : List Asker) (before after : List Decided) : Type 0 where
  pub decisions : List Decided
  pub askers : map (λ d. d.asker) decisions ≡ from
  pub each : (d : Decided) → Contains decisions d → IsDecided t d
  pub joined : after ≡ before ++ decisions

-- What a name may see, for each view, at each level and in each context: lines of which the last that fits a
-- variable decides on it.
--
-- `is_included lines variable`. The last line that `fits` the variable says whether it is included. A
-- `Line` has an arc or none at each place of its pattern; `line_of` a family row leaves out the arcs that
-- its mask doesn't compare. `AreNeeded`: without any one of the lines some variable is decided otherwise.
--
-- `AreLinesOf families view lines`. The lines of a view: of rows of it (`rows_of`), from the least up;
-- where no row has a wildcard all are needed, and else all rows have theirs.
--
-- `Decide tables message view lines`. Each variable is decided by the lines as by `Allowed`, and they are
-- lines of the view that the best access row names (`ByView`). `IsDecision`: an answer that no variable
-- changes (`IsRefusal`), for each variable; or lines that decide.
--
-- `AreSeen tables model name decisions`. There is a decision for each level, view and context row, in this
-- order (`viewers`). `any_includes`: a line of one of them includes something.
use Rattle.std.specs.Prelude.{◌≡◌, ◌≢◌, ◌⊎◌, ⊤, ℕ, ◌+◌, ◌<◌, ◌==◌, ◌&&◌, Bool, true, false, if◌then◌else◌, List, []}
use Rattle.std.specs.Prelude.{◌∷◌, length, map, fold, remove, Contains, Option, Some, None}
use Rattle.std.specs.List.{flat_map, filter, list_any}
use Rattle.std.specs.List.Sorted.{IsSorted, IsPermutation}
use Rattle.std.specs.Str.{bytes_eq}
use Rattle.snmp_ber.specs.declared.level.Level.{Level}
use Rattle.vacm_core.specs.declared.access.ViewType.{ViewType}
use Rattle.vacm_core.specs.declared.access.ViewType.TheVariants.{Read, Write, Notify}
use Rattle.vacm_core.specs.declared.access.Access.{Access}
use Rattle.vacm_core.specs.declared.access.Access.TheVariants.{NoSuchContext, NoGroupName, NoAccessEntry, NoSuchView}
use Rattle.vacm_core.specs.declared.access.Access.TheVariants.{NotInView, AccessAllowed}
use Rattle.vacm_core.specs.declared.rows.ContextRow.{ContextRow}
use Rattle.vacm_core.specs.declared.rows.FamilyRow.{FamilyRow}
use Rattle.vacm_core.specs.Allowed.{Requester, Allowed, ByView, mask_bit, family_order}
use Rattle.vacm_core.specs.Tables.{Tables}
use Rattle.vacm_core.specs.View.{AreExact}
use Rattle.snmpsec_access.specs.Askers.{Asker, levels}

-- ---- lines

-- what a line asks of a variable, arc by arc (`None`: any arc), and whether it includes what fits
pub record Line : Type 0 where
  pub include : Bool
  pub pattern : List (Option ℕ)

-- The variable begins with the pattern.
abbrev pub fits : List (Option ℕ) → List ℕ → Bool
fits [] variable = true
fits (arc ∷ arcs) [] = false
fits (None ∷ arcs) (v ∷ vs) = fits arcs vs
fits (Some a ∷ arcs) (v ∷ vs) = (a == v) && fits arcs vs

-- The last line that fits the variable says whether it is included; it isn't where none fits.
abbrev pub is_included : List Line → List ℕ → Bool
is_included lines variable = fold
    (λ before line. if fits line.pattern variable then line.include else before) false lines

abbrev pub answer_of : Bool → Access
answer_of true = AccessAllowed
answer_of false = NotInView

-- Without any one of the lines some variable would be decided otherwise.
abbrev pub AreNeeded : List Line → Type 0
AreNeeded lines = (k : ℕ) → k < length lines
    → (variable : List ℕ) × (is_included (remove lines k) variable ≢ is_included lines variable)

-- ---- the lines of rows

-- the arcs from this place on, of which the mask leaves some free
abbrev pub pattern_from : ℕ → List ℕ → List ℕ → List (Option ℕ)
pattern_from k mask [] = []
pattern_from k mask (arc ∷ arcs) = (if mask_bit mask k == 1 then Some arc else None) ∷ pattern_from (k + 1) mask arcs

abbrev pub line_of : FamilyRow → Line
line_of row = record { include = row.include; pattern = pattern_from 0 row.mask row.subtree }

-- the rows of the view
abbrev pub rows_of : List FamilyRow → List ℕ → List FamilyRow
rows_of families view = filter (λ row. bytes_eq row.view view) families

-- The lines for a view are those of rows of it, from the least up. Where none of its rows has a wildcard, no
-- line is too many; else each row has its line.
pub record AreLinesOf (families : List FamilyRow) (view : List ℕ) (lines : List Line) : Type 0 where
  pub rows : List FamilyRow
  pub lines_of : lines ≡ map line_of rows
  pub among : (row : FamilyRow) → Contains rows row → Contains (rows_of families view) row
  pub rising : IsSorted family_order rows
  pub kept : (AreExact (rows_of families view) × AreNeeded lines)
      ⊎ ((¬ AreExact (rows_of families view)) × IsPermutation (rows_of families view) rows)

-- ---- what is reported of a question

-- Each variable is decided by the lines as isAccessAllowed decides it (RFC 3415, section 3).
pub record Decide (t : Tables) (q : Requester) (view : ViewType) (lines : List Line) : Type 0 where
  pub allowed : (variable : List ℕ) → Allowed t q view variable (answer_of (is_included lines variable))
  pub lines_of : ByView t q view (λ name. AreLinesOf t.families name lines)

-- an answer that is given before a variable is looked at
abbrev pub IsRefusal : Access → Type 0
IsRefusal NoSuchContext = ⊤
IsRefusal NoGroupName = ⊤
IsRefusal NoAccessEntry = ⊤
IsRefusal NoSuchView = ⊤
IsRefusal NotInView = ⊥
IsRefusal AccessAllowed = ⊥

-- one answer for all variables, or the lines that decide on each
pub data Decision : Type 0 where
  refusal : Access → Decision
  by_lines : List Line → Decision

-- So each variable is answered.
abbrev pub IsDecision : Tables → Asker → Decision → Type 0
IsDecision t a (refusal answer) = IsRefusal answer × ((variable : List ℕ) → Allowed t a.message a.view variable answer)
IsDecision t a (by_lines lines) = Decide t a.message a.view lines

-- ---- all questions of a name

-- the views
abbrev pub views : List ViewType
views = Read ∷ Write ∷ Notify ∷ []

-- the question of a name for a view, at a level and in a context that there is
abbrev pub viewer : ℕ → List ℕ → Level → ViewType → ContextRow → Asker
viewer model name level view
    context = record {
      message = record { model = model; name = name; level = level; context = context.name };
      view = view;
    }

abbrev pub of_level : List ContextRow → ℕ → List ℕ → Level → List Asker
of_level contexts model name level = flat_map (λ view. map (viewer model name level view) contexts) views

-- The product of levels, views and context rows, in this order, the rows by their positions.
abbrev pub viewers : List ContextRow → ℕ → List ℕ → List Asker
viewers contexts model name = flat_map (of_level contexts model name) levels

-- a line includes what fits it
abbrev pub includes : Decision → Bool
includes (refusal answer) = false
includes (by_lines lines) = list_any (λ line. line.include) lines

-- a question, and what decides on it
pub record Decided : Type 0 where
  pub asker : Asker
  pub decision : Decision

abbrev pub IsDecided : Tables → Decided → Type 0
IsDecided t d = IsDecision t d.asker d.decision

abbrev pub any_includes : List Decided → Bool
any_includes decisions = list_any (λ d. includes d.decision) decisions

-- Each question of the name is decided, in their order.
pub record AreSeen (t : Tables) (model : ℕ) (name : List ℕ) (decisions : List Decided) : Type 0 where
  pub askers : map (λ d. d.asker) decisions ≡ viewers t.contexts model name
  pub each : (d : Decided) → Contains decisions d → IsDecided t d

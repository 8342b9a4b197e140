-- What answers on access are explained by: the rows of a configuration, and the lines of its text in which they begin.
--
-- `Explaining`. `AnswersAlike`: tables that a question is asked of have the rows, so that each answer is that of the
-- rows. `HasRow`: some table has a row.
use Rattle.std.specs.Prelude.{◌≢◌, ◌⊎◌, ℕ, List, []}
use Rattle.vacm_core.specs.Allowed.{Allowed, Requester}
use Rattle.vacm_core.specs.Tables.{HaveSameRows, Tables}
use Rattle.vacm_core.specs.declared.access.Access.{Access}
use Rattle.vacm_core.specs.declared.access.ViewType.{ViewType}
use Rattle.snmpsec_access.specs.declared.headings.RowLines.{RowLines}

pub record Explaining : Type 0 where
  pub tables : Tables
  pub lines : RowLines

-- the two have the same rows, and each answer over the second is one over the first
pub record AnswersAlike (rows asked : Tables) : Type 0 where
  pub same_rows : HaveSameRows rows asked
  pub answers : (requester : Requester) (view : ViewType) (variable : List ℕ) (answer : Access)
      → Allowed asked requester view variable answer → Allowed rows requester view variable answer

-- some table has a row
abbrev pub HasRow : Tables → Type 0
HasRow t = (t.contexts ≢ []) ⊎ ((t.groups ≢ []) ⊎ ((t.access ≢ []) ⊎ (t.families ≢ [])))

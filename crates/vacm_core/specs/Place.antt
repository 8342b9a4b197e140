-- What the rows of the four tables stand by.
--
-- `AreInPlace`: rows rise by their names, and those of a name fall by a rank. `IsRunOf name rank wanted
-- rows run`: the run has all rows of the name, no others, and falls. `AreRuns`: the entries give the run of
-- each name.
--
-- `AreInPlace`: how the rows of a table stand, its invariant. They rise by a name (a context's own, a
-- security name, a group, a view), and those of one name fall from the best down, in the very orders of
-- `Allowed`; family rows whose mask compares each arc stand apart from those with a wildcard. `IsRunOf`: a
-- slice has all rows of a name and no other, from the best down. `AreRuns`: the entries of a map give the
-- run of each name that has rows, and of no other. `AnswersView`: the last three answers, over the rows of
-- one view.
use Rattle.std.specs.Prelude.{ℕ, List, length}
use Rattle.std.specs.Ordering.{nat_cmp, ordering_then}
use Rattle.std.specs.Cmp.Lexicographic.{slice_cmp}
use Rattle.std.specs.declared.cmp.Ordering.{Ordering}
use Rattle.std.specs.declared.cmp.Ordering.TheVariants.{Equal}
use Rattle.vacm_core.specs.declared.rows.ContextRow.{ContextRow}
use Rattle.vacm_core.specs.declared.rows.GroupRow.{GroupRow}
use Rattle.vacm_core.specs.declared.rows.AccessRow.{AccessRow}
use Rattle.vacm_core.specs.declared.rows.FamilyRow.{FamilyRow}

-- the name that a table's rows stand by
abbrev pub context_name : ContextRow → List ℕ
context_name row = row.name

abbrev pub group_name : GroupRow → List ℕ
group_name row = row.name

abbrev pub access_name : AccessRow → List ℕ
access_name row = row.group

abbrev pub family_name : FamilyRow → List ℕ
family_name row = row.view

-- which of two rows of a name is the better
abbrev pub context_rank : ContextRow → ContextRow → Ordering
context_rank a b = Equal

abbrev pub group_rank : GroupRow → GroupRow → Ordering
group_rank a b = nat_cmp a.model b.model

-- by the number of arcs, then by the arcs
abbrev pub arcs_order : List ℕ → List ℕ → Ordering
arcs_order xs ys = ordering_then (nat_cmp (length xs) (length ys)) (slice_cmp nat_cmp xs ys)

use Rattle.std.proofs.Common.{List, subst, inr, refl}
use Rattle.std.specs.Borrow.{Bor}
use Rattle.vacm_core.specs.declared.rows.FamilyRow.{FamilyRow}
use Rattle.vacm_core.specs.View.{AreExact}
use Rattle.snmpsec_access.specs.Rising.{rows_at}
use Rattle.snmpsec_access.proofs.subtrees.needed_rows.Goals as goal

pub returns-then-not-are_exact : goal.returns-then-not-are_exact
returns-then-not-are_exact c = inr (subst (λ (items : List (Bor FamilyRow)). ¬ AreExact (rows_at items)) c.deref.ensures.value c.if-not-are_exact.ensures, refl)

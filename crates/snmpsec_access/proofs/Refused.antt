-- A question that has another answer isn't answered accessAllowed.
use Rattle.std.proofs.Common.{◌≢◌, ℕ, List}
use Rattle.vacm_core.specs.declared.access.ViewType.{ViewType}
use Rattle.vacm_core.specs.declared.access.Access.{Access}
use Rattle.vacm_core.specs.declared.access.Access.TheVariants.{AccessAllowed}
use Rattle.vacm_core.specs.Allowed.{Requester, Allowed}
use Rattle.vacm_core.specs.Tables.{Tables}
use Rattle.vacm_core.proofs.Uniqueness.{Allowed-unique}
use Rattle.snmpsec_access.specs.WhoSees.{AnswerFor}

pub refused : (tables rows : Tables) (q : Requester) (view : ViewType) (variable : List ℕ) (answer : Access) → AnswerFor tables rows → Allowed tables q view variable answer → answer ≢ AccessAllowed
    → ¬ Allowed rows q view variable AccessAllowed
refused tables rows q view variable answer ready is other may =
    other (Allowed-unique rows q view variable ready.one_row_each answer AccessAllowed (ready.decides q view variable answer is) may)

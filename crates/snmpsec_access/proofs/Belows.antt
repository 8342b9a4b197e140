-- What a view opens is what a message sees at or below a name.
use Rattle.std.proofs.Common.{◌≡◌, ◌↔◌, ℕ, Bool, true, false, IsTrue, List, ◌++◌, refl}
use Rattle.std.specs.Prelude.{MatchBool}
use Rattle.vacm_core.specs.declared.rows.FamilyRow.{FamilyRow}
use Rattle.vacm_core.specs.declared.access.ViewType.{ViewType}
use Rattle.vacm_core.specs.declared.access.Access.TheVariants.{AccessAllowed}
use Rattle.vacm_core.specs.Tables.{Tables}
use Rattle.vacm_core.specs.Allowed.{Allowed, Requester}
use Rattle.vacm_core.specs.View.{Includes}
use Rattle.vacm_next.specs.Opening.{Opens}
use Rattle.snmpsec_access.specs.Extent.{SeesBelow}

pub opened : (t : Tables) (q : Requester) (view : ViewType) (rows : List FamilyRow) (beginning : List ℕ) (found : Bool)
    → ((variable : List ℕ) → Includes rows variable → Allowed t q view variable AccessAllowed)
    → ((variable : List ℕ) → Allowed t q view variable AccessAllowed → Includes rows variable)
    → IsTrue found ↔ Opens rows beginning
    → MatchBool found (SeesBelow t q view beginning) (¬ SeesBelow t q view beginning)
opened t q view rows beginning true there back opens =
    let o = opens.0 refl in
    record { rest = o.rest; are_arcs = o.are_arcs; allowed = there (beginning ++ o.rest) o.included }
opened t q view rows beginning false there back opens = λ below.
    let wrong : false ≡ true = opens.1 (record { rest = below.rest; are_arcs = below.are_arcs; included = back (beginning ++ below.rest) below.allowed }) in
    cc wrong

-- tables that answer alike see alike below a name
pub carried : (s t : Tables) (q : Requester) (view : ViewType) (beginning : List ℕ) (found : Bool)
    → ((variable : List ℕ) → Allowed s q view variable AccessAllowed → Allowed t q view variable AccessAllowed)
    → ((variable : List ℕ) → Allowed t q view variable AccessAllowed → Allowed s q view variable AccessAllowed)
    → MatchBool found (SeesBelow s q view beginning) (¬ SeesBelow s q view beginning)
    → MatchBool found (SeesBelow t q view beginning) (¬ SeesBelow t q view beginning)
carried s t q view beginning true there back below =
    record { rest = below.rest; are_arcs = below.are_arcs; allowed = there (beginning ++ below.rest) below.allowed }
carried s t q view beginning false there back none = λ below.
    none (record { rest = below.rest; are_arcs = below.are_arcs; allowed = back (beginning ++ below.rest) below.allowed })

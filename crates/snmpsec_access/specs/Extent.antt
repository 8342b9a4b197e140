-- Whether a message may see some name at or below one (RFC 3415, section 3).
--
-- `SeesBelow tables message view name`. There is a name of 1 to 128 arcs below 2^32 that begins with the arcs of
-- this one, and of which isAccessAllowed answers accessAllowed: this name itself, or a longer one. It isn't asked
-- whether there is a variable of that name. `SeesWanted`: what is asked of a name, that its variable is seen, or some
-- name at or below it.
use Rattle.std.specs.Prelude.{ℕ, List, ◌++◌}
use Rattle.snmp_ber.specs.Oid.{AreArcs}
use Rattle.vacm_core.specs.Tables.{Tables}
use Rattle.vacm_core.specs.Allowed.{Allowed, Requester}
use Rattle.vacm_core.specs.declared.access.ViewType.{ViewType}
use Rattle.vacm_core.specs.declared.access.Access.TheVariants.{AccessAllowed}
use Rattle.snmpsec_access.specs.declared.extent.Extent.{Extent}
use Rattle.snmpsec_access.specs.declared.extent.Extent.TheVariants.{Variable, Below}

-- some name begins so, and the message may see it
pub record SeesBelow (t : Tables) (message : Requester) (view : ViewType) (beginning : List ℕ) : Type 0 where
  pub rest : List ℕ
  pub are_arcs : AreArcs (beginning ++ rest)
  pub allowed : Allowed t message view (beginning ++ rest) AccessAllowed

-- the message may see the variable, or some name at or below it, as it is asked
abbrev pub SeesWanted : Tables → Extent → Requester → ViewType → List ℕ → Type 0
SeesWanted t Variable message view variable = Allowed t message view variable AccessAllowed
SeesWanted t Below message view variable = SeesBelow t message view variable

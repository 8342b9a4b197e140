-- The next name that a message may see (RFC 3415, section 3; RFC 3416, section 4.2.2).
--
-- Names are in lexicographic order: by their arcs, and a proper beginning before what is longer. `NoneFrom`: of
-- all names of 1 to 128 arcs below 2^32 that aren't before one, none is seen. `IsLeastFrom`: the least of those
-- that are seen.
use Rattle.std.specs.Prelude.{◌≡◌, ◌≢◌, ℕ, List}
use Rattle.std.specs.Ordering.{nat_cmp}
use Rattle.std.specs.Cmp.Lexicographic.{slice_cmp}
use Rattle.std.specs.declared.cmp.Ordering.TheVariants.{Less, Greater}
use Rattle.snmp_ber.specs.Oid.{AreArcs}
use Rattle.vacm_core.specs.Tables.{Tables}
use Rattle.vacm_core.specs.Allowed.{Allowed, Requester}
use Rattle.vacm_core.specs.declared.access.Access.TheVariants.{AccessAllowed}
use Rattle.vacm_core.specs.declared.access.ViewType.{ViewType}

-- the first name comes before the second
abbrev pub IsBefore : List ℕ → List ℕ → Type 0
IsBefore name other = slice_cmp nat_cmp name other ≡ Less

-- the first name comes before the second, or it is the second
abbrev pub IsUpto : List ℕ → List ℕ → Type 0
IsUpto name other = slice_cmp nat_cmp name other ≢ Greater

-- such messages may see the variable of this name
abbrev pub Sees : Tables → Requester → ViewType → List ℕ → Type 0
Sees t requester view name = Allowed t requester view name AccessAllowed

-- of all names at or after this one, none is seen
abbrev pub NoneFrom : (List ℕ → Type 0) → List ℕ → Type 0
NoneFrom Seen from = (name : List ℕ) → AreArcs name → IsUpto from name → ¬ Seen name

-- of all names at or after the first that are seen, the second is the least
pub record IsLeastFrom (Seen : List ℕ → Type 0) (from name : List ℕ) : Type 0 where
  pub are_arcs : AreArcs name
  pub seen : Seen name
  pub from_on : IsUpto from name
  pub least : (other : List ℕ) → AreArcs other → IsUpto from other → IsBefore other name → ¬ Seen other

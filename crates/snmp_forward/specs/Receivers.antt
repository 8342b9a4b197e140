-- Who may be notified of what (RFC 3413, section 3.3; RFC 3415, section 3).
--
-- `notified_in`: the names of the variables of which a receiver may be notified in a context. `MayBeNotified`: it may
-- be notified of all of a notification. `ArePlaces`: the places of all elements with a property. `IsFirstLong`: the
-- first receiver whose user's name is too long.
use Rattle.std.specs.Prelude.{◌≡◌, ◌↔◌, ◌<◌, ◌≤◌, ℕ, List, All, AllPairs, Contains, Some, length, slice_get, take}
use Rattle.snmp_msg.specs.Variables.{Variable}
use Rattle.vacm_core.specs.Tables.{Tables}
use Rattle.vacm_core.specs.declared.access.ViewType.TheVariants.{Notify}
use Rattle.vacm_next.specs.Next.{Sees}
use Rattle.snmp_agent.specs.Decides.{question}
use Rattle.snmp_forward.specs.declared.receivers.Receiver.{Receiver}
use Rattle.snmp_forward.specs.declared.receivers.TheConstants.{USER_NAME_LIMIT}

-- isAccessAllowed answers accessAllowed for the variable of this name in the notify view: of the receiver's user, at
-- its level, in this context
abbrev pub notified_in : Tables → Receiver → List ℕ → List ℕ → Type 0
notified_in tables r context = Sees tables (question r.user.items r.level context) Notify

-- the receiver may be notified: each of the variables is in that view (step 3), and so is the snmpTrapOID (step 4)
pub record MayBeNotified (tables : Tables) (r : Receiver) (context : List ℕ) (vs : List Variable) (trap_oid : List ℕ)
    : Type 0 where
  pub variables : All (λ (v : Variable). notified_in tables r context v.name) vs
  pub kind : notified_in tables r context trap_oid

-- the element at this place, counted from 0, has P
abbrev pub HasAt : {A : Type 0} → (A → Type 0) → List A → ℕ → Type 0
HasAt {A} P xs n = (x : A) × (slice_get xs n ≡ Some x) × P x

-- the places of all the elements that have P, the least first
pub record ArePlaces {A : Type 0} (P : A → Type 0) (xs : List A) (places : List ℕ) : Type 0 where
  pub rise : AllPairs (λ (a b : ℕ). a < b) places
  pub each : (n : ℕ) → Contains places n ↔ HasAt P xs n

abbrev pub IsShort : Receiver → Type 0
IsShort r = length r.user.items ≤ USER_NAME_LIMIT

pub record IsFirstLong (receivers : List Receiver) (number : ℕ) : Type 0 where
  pub long : HasAt (λ (r : Receiver). USER_NAME_LIMIT < length r.user.items) receivers number
  pub before : All IsShort (take number receivers)

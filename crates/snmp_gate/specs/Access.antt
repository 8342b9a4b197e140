-- Which requests are asked of a device, by the answers on access (RFC 3413, section 3.2; RFC 3416, section 4.2).
--
-- `IsGranted`: by this answer for one of its bindings a request is asked. `IsFirstRefused`: by the first answer that
-- isn't so it isn't asked, and this is what it is answered.
use Rattle.std.specs.Prelude.{◌≡◌, ⊤, ℕ, ◌+◌, ◌<◌, List, All, length, take}
use Rattle.std.specs.List.{HoldsAt}
use Rattle.vacm_core.specs.declared.access.Access.{Access}
use Rattle.snmp_agent.specs.Statuses.{IsStatusOf}
use Rattle.snmp_agent.specs.declared.status.Status.{Status}
use Rattle.snmp_agent.specs.declared.status.Status.TheVariants as status
use Rattle.snmp_gate.specs.declared.refused_access.AccessRefusal.{AccessRefusal}
use Rattle.snmp_gate.specs.declared.refused_access.AccessRefusal.TheVariants.{AuthorizationError, NoAccess}
use Rattle.snmp_gate.specs.declared.refused_access.AccessRefusal.TheVariants.{UnknownContext}

-- the device may be asked
abbrev pub IsPassed : Status → Type 0
IsPassed status.NoError = ⊤
IsPassed status.NoSuchObject = ⊤
IsPassed status.NotSeen = ⊤
IsPassed status.NoAccess = ⊥
IsPassed status.AuthorizationError = ⊥
IsPassed status.UnknownContext = ⊥

-- the request is answered so, if the binding of this number has the status
abbrev pub IsRefusedBy : Status → ℕ → AccessRefusal → Type 0
IsRefusedBy status.NoAccess number (NoAccess index) = index ≡ number
IsRefusedBy status.AuthorizationError number AuthorizationError = ⊤
IsRefusedBy status.UnknownContext number UnknownContext = ⊤
IsRefusedBy _ number refusal = ⊥

-- by this answer on access for one of its bindings the device may be asked
abbrev pub IsGranted : ℕ → Access → Type 0
IsGranted tag access = (s : Status) × IsStatusOf access tag s × IsPassed s

-- of the answers for the bindings the first that isn't granted is this one's
pub record IsFirstRefused (tag : ℕ) (answers : List Access) (refusal : AccessRefusal) : Type 0 where
  pub place : ℕ
  pub within : place < length answers
  pub status_is : Status
  pub status : HoldsAt (λ (access : Access). IsStatusOf access tag status_is) answers place
  pub refused : IsRefusedBy status_is (place + 1) refusal
  pub before : All (IsGranted tag) (take place answers)

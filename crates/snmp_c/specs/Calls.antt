-- What calls answer and write, with a handle and without.
--
-- `Done`: the answer is the number of the result. `Telling`: it is, and what is reported stands in a struct.
-- `ReadsBinding`, `Writes`: bindings as octets. `Spells`: a ScopedPDU as octets. `TellsStatus`: what becomes of a
-- variable. `IsValueCode`: whether a content fits its tag. `TellsConfiguration`: why a configuration is refused.
use Rattle.std.specs.Prelude.{◌≡◌, ◌<◌, ◌⊎◌, ⊤, ℕ, ℤ, pos, List, Some, None, Result, MatchResult}
use Rattle.vacm_core.specs.declared.access.Access.{Access}
use Rattle.snmp_agent.specs.declared.status.Status.{Status}
use Rattle.snmp_agent.specs.Statuses.{IsStatusOf, status_number}
use Rattle.snmp_handles.specs.Numbers.{access_of}
use Rattle.snmp_handles.specs.declared.fault.CallFault.{CallFault}
use Rattle.snmp_handles.specs.declared.fault.CallFault.TheVariants.{BadArgument}
use Rattle.snmp_handles.specs.Faults.{code, fault_code}
use Rattle.snmp_handles.specs.Bindings.{ReadsAt, WritesBinding}
use Rattle.snmp_handles.specs.ScopedPdus.{Saying, WritesScoped}
use Rattle.snmp_handles.specs.Configurations.{TellsConfig}
use Rattle.snmp_msg.specs.Values.{IsValueOf}

-- The answer is the number of the result, of which this is said.
abbrev pub Done : (Result ⊤ CallFault → Type 0) → ℤ → Type 0
Done Says answer = (told : Result ⊤ CallFault) × (answer ≡ code told) × Says told

-- The same of a result that is reported: `tell` writes it into what is said. Of a fault nothing is reported.
abbrev pub Telling : {V S : Type 0} → (S → V → S) → (Result V CallFault → Type 0) → S → S → ℤ → Type 0
Telling {V} tell Says said said_new answer = (told : Result V CallFault) × (answer ≡ code told) × Says told
    × MatchResult told (λ value. said_new ≡ tell said value) (λ fault. said_new ≡ said)

-- ---- variable bindings

abbrev pub ReadsBinding : List ℕ → ℕ → List ℕ → List ℕ → List ℕ → List ℕ → ℤ → Type 0
ReadsBinding list at arcs arcs_new numbers numbers_new answer = Done
    (ReadsAt list at arcs arcs_new numbers numbers_new) answer

abbrev pub Writes : List ℕ → ℕ → List ℕ → List ℕ → List ℕ → ℕ → ℕ → ℤ → Type 0
Writes arcs tag content out out_new written written_new answer = Done
    (WritesBinding arcs tag content out out_new written written_new) answer

abbrev pub Spells : Saying → List ℕ → List ℕ → List ℕ → ℕ → ℕ → ℤ → Type 0
Spells saying list out out_new written written_new answer = Done
    (WritesScoped saying list out out_new written written_new) answer

-- The number of what becomes of a variable for which access was answered so, in a request whose PDU has this tag, is
-- written; or no answer has the number, or the tag isn't an octet, and nothing is.
abbrev pub TellsStatus : ℕ → ℕ → ℕ → ℕ → ℤ → Type 0
TellsStatus access tag status status_new answer =
    ((told : Access) × (it : Status) × (access_of access ≡ Some told) × (tag < 256) × IsStatusOf told tag it
    × (answer ≡ pos 0) × (status_new ≡ status_number it))
    ⊎ (((access_of access ≡ None) ⊎ (255 < tag)) × (answer ≡ fault_code BadArgument) × (status_new ≡ status))

-- whether it is the content of a value with this tag
abbrev pub IsValueCode : ℕ → List ℕ → ℤ → Type 0
IsValueCode tag content answer =
    ((answer ≡ pos 1) × (tag < 256) × IsValueOf tag content)
    ⊎ (((answer ≡ pos 0) × (tag < 256) × (IsValueOf tag content → ⊥))
    ⊎ ((answer ≡ fault_code BadArgument) × (255 < tag)))

-- ---- a configuration

abbrev pub TellsConfiguration : List ℕ → List ℕ → List ℕ → List ℕ → List ℕ → ℕ → ℕ → ℤ → Type 0
TellsConfiguration config numbers numbers_new out out_new written written_new answer = Done
    (TellsConfig config numbers numbers_new out out_new written written_new) answer

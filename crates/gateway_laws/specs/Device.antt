-- A device that answers as RFC 3416 says (sections 4.2.1 and 4.2.2), from variables that don't change.
--
-- `IsDevice`: its variables have values, and names that an OBJECT IDENTIFIER can spell. `IsAnswered`: what a name is
-- answered with, of the variables that are seen. `AllSeen`: the device itself hides none. `IsTrueAnswer`: an answer of
-- the device has what RFC 3416 says for each name that was asked, or an error.
use Rattle.std.specs.Prelude.{◌≡◌, ⊤, ℕ, List, Contains}
use Rattle.std.specs.List.{AllZip}
use Rattle.snmp_ber.specs.Oid.{AreArcs, IsObjectId}
use Rattle.snmp_msg.specs.Variables.{Variable, variables_of}
use Rattle.snmp_msg.specs.declared.pdu.Pdu.{Pdu}
use Rattle.snmp_responder.specs.Instrumentation.{IsGot, Known}
use Rattle.snmp_responder.specs.Next.{IsNextAnswer}
use Rattle.snmp_walk.specs.Answer.{IsNoError}
use Rattle.snmp_walk.specs.Bindings.{IsValue}
use Rattle.snmp_walk.specs.declared.failure.TheConstants.{NO_SUCH_NAME}
use Rattle.snmp_walk.specs.declared.operation.ReadOperation.{ReadOperation}
use Rattle.snmp_walk.specs.declared.operation.ReadOperation.TheVariants.{Get, GetNext}

-- each variable has a name that can be spelled, and a value
pub record IsDevice (device : Known) : Type 0 where
  pub arcs : (v : Variable) → Contains device.variables v → AreArcs v.name
  pub spelled : (v : Variable) → Contains device.variables v → IsObjectId v.name
  pub values : (v : Variable) → Contains device.variables v → IsValue v

-- each name is seen
abbrev pub AllSeen : List ℕ → Type 0
AllSeen name = ⊤

-- what the name is answered with in a request of this type, where these names are seen
abbrev pub IsAnswered : Known → (List ℕ → Type 0) → ReadOperation → List ℕ → Variable → Type 0
IsAnswered device Seen Get name v = IsGot device Seen name v
IsAnswered device Seen GetNext name v = IsNextAnswer device Seen name v

-- each of the names is answered so, in their order
abbrev pub AreAnswered : Known → (List ℕ → Type 0) → List (ReadOperation × List ℕ) → List Variable → Type 0
AreAnswered device Seen asks vs =
    AllZip (λ (ask : ReadOperation × List ℕ) v. IsAnswered device Seen ask.0 ask.1 v) asks vs

-- an answer of the device: without an error it has what the device has for each name; and it doesn't say noSuchName,
-- which is for devices of version-1 (RFC 3416, section 3)
pub record IsTrueAnswer (device : Known) (asks : List (ReadOperation × List ℕ)) (answer : Pdu) : Type 0 where
  pub answered : IsNoError answer → AreAnswered device AllSeen asks (variables_of answer.list.now)
  pub not_version_1 : ¬ (answer.second ≡ NO_SUCH_NAME)

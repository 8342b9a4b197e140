-- What a device said for a request.
--
-- `Said`: its variables, what it was asked, and each of its answers with that. `AreTrue`: each of its answers is what
-- RFC 3416 says of a device's variables (sections 4.2.1 to 4.2.3). `IsSetStatus`: what a
-- Response says of a Set (section 4.2.5).
use Rattle.std.specs.Prelude.{◌≡◌, ◌⊎◌, ℤ, List, [], All, Contains, Option, Some}
use Rattle.snmp_msg.specs.Pdu.{PduParts}
use Rattle.snmp_msg.specs.Variables.{Variable, variables_of}
use Rattle.snmp_msg.specs.declared.pdu_type.PduType.TheVariants.{SetRequest}
use Rattle.snmp_responder.specs.Instrumentation.{Known}
use Rattle.gateway_laws.specs.Requests.{IsTrueResponse, RequestPdu}
use Rattle.snmp_gate.specs.Question.{Question}
use Rattle.snmp_gate.specs.SetOutcome.{IsToldStatus}
use Rattle.snmp_gate.specs.declared.set_answer.ResponseStatus.{ResponseStatus}
use Rattle.snmp_gate.specs.declared.set_answer.TheConstants.{NO_ERROR, TOO_BIG}

-- an answer, and what the device was asked
pub record Exchange : Type 0 where
  pub asked : RequestPdu
  pub answer : PduParts

-- the variables of its answers, with the ends of walks that they tell
pub record Said : Type 0 where
  pub variables : List Variable
  pub exchanges : List Exchange
  pub asked : List RequestPdu

-- nothing yet
abbrev pub said_nothing : Said
said_nothing = record { variables = []; exchanges = []; asked = [] }

-- the device wasn't asked
abbrev pub IsUnasked : Said → Type 0
IsUnasked said = said.asked ≡ []

-- it was asked a Set, and answered so that the Response has this error-status
pub record SaysOfSet (said : Said) (status : ℤ) : Type 0 where
  pub exchange : Exchange
  pub there : Contains said.exchanges exchange
  pub set : exchange.asked.type ≡ SetRequest
  pub told : IsToldStatus exchange.answer.second status

-- no device was asked the Set: then the Response to it has an error, unless it has no bindings, or says this again
abbrev pub IsUnaskedStatus : Question → Said → Option ResponseStatus → ResponseStatus → Type 0
IsUnaskedStatus q said again says = IsUnasked said
    × ((says.status ≡ NO_ERROR → variables_of q.list ≡ []) ⊎ (again ≡ Some says))

-- what the Response to a Set says: tooBig; or its device wasn't asked; or it answered so
abbrev pub IsSetStatus : Question → Said → Option ResponseStatus → ResponseStatus → Type 0
IsSetStatus q said again says = (says.status ≡ TOO_BIG)
    ⊎ (IsUnaskedStatus q said again says ⊎ SaysOfSet said says.status)

-- the answer is that of a device with these variables
abbrev pub IsTrueExchange : Known → Exchange → Type 0
IsTrueExchange device e = IsTrueResponse device e.asked e.answer

abbrev pub AreTrue : Known → Said → Type 0
AreTrue device said = All (IsTrueExchange device) said.exchanges

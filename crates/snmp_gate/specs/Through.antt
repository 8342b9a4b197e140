-- What a client sees through a gateway of a device that answers as RFC 3416 says (sections 4.2.1 to 4.2.3).
--
-- `ShowsDevice`: the Response has what the device has that is restricted to what the message may see. `TellsDevice`: a
-- datagram to a client is a report, or a Response with an error, or such a one. `TellsSet`: it says of a Set what
-- its device said, or tooBig. `IsDoneBy`: why it may say that a Set was done.
use Rattle.std.specs.Prelude.{◌≡◌, ◌⊎◌, ℕ, List, [], map}
use Rattle.snmp_msg.specs.PduTypes.{pdu_tag}
use Rattle.snmp_msg.specs.Variables.{Variable, variables_of}
use Rattle.snmp_msg.specs.declared.pdu_type.PduType.TheVariants.{GetBulkRequest, SetRequest}
use Rattle.snmp_incoming.specs.Outcome.{Given}
use Rattle.snmp_agent.specs.declared.unhandled.Unhandled.{Unhandled}
use Rattle.snmp_responder.specs.Instrumentation.{Known}
use Rattle.snmp_walk.specs.BulkDialogue.{IsCountOf}
use Rattle.snmp_walk.specs.Dialogue.{requests_of}
use Rattle.snmp_walk.specs.declared.operation.ReadOperation.{ReadOperation}
use Rattle.gateway_laws.specs.Bulk.{IsFrontOfBulk}
use Rattle.gateway_laws.specs.Device.{AreAnswered}
use Rattle.snmp_gate.specs.Question.{Question}
use Rattle.snmp_gate.specs.ReadAsks.{read_type}
use Rattle.snmp_gate.specs.Replies.{Answering, ClientAnswer, IsReport, IsResponse, Told}
use Rattle.snmp_gate.specs.Said.{Said, SaysOfSet}
use Rattle.snmp_gate.specs.declared.set_answer.ResponseStatus.{ResponseStatus}
use Rattle.snmp_gate.specs.declared.set_answer.TheConstants.{NO_ERROR, TOO_BIG}

-- the variables of a Response: to a GetRequest and a GetNextRequest what this device has for each name, to a
-- GetBulkRequest a front of what it has, and to a SetRequest the request's own
pub data ShowsDevice (device : Known) (Seen : List ℕ → Type 0) (q : Question) (vs : List Variable) : Type 0 where
  reads : (operation : ReadOperation) → q.tag ≡ pdu_tag (read_type operation)
      → AreAnswered device Seen (requests_of operation (variables_of q.list)) vs → ShowsDevice device Seen q vs
  bulk : q.tag ≡ pdu_tag GetBulkRequest → (non_repeaters max_repetitions : ℕ)
      → IsCountOf q.second non_repeaters → IsCountOf q.third max_repetitions
      → IsFrontOfBulk device Seen (map (λ (v : Variable). v.name) (variables_of q.list)) non_repeaters max_repetitions
      vs → ShowsDevice device Seen q vs
  sets : q.tag ≡ pdu_tag SetRequest → vs ≡ variables_of q.list → ShowsDevice device Seen q vs

abbrev pub TellsDevice : Known → (List ℕ → Type 0) → Answering → Question → Given → ClientAnswer → Type 0
TellsDevice device Seen by q g answer = ((why : Unhandled) × IsReport by g why answer)
    ⊎ ((told : Told) × IsResponse by g told answer
    × (told.status ≡ NO_ERROR → ShowsDevice device Seen q told.variables))

abbrev pub TellsSet : Said → Answering → Given → ClientAnswer → Type 0
TellsSet said by g answer = ((why : Unhandled) × IsReport by g why answer)
    ⊎ ((told : Told) × IsResponse by g told answer × ((told.status ≡ TOO_BIG) ⊎ SaysOfSet said told.status))

-- the Set has no bindings; or its device said that it was done; or that may be told again
abbrev pub IsDoneBy : Question → Said → (ResponseStatus → Type 0) → ResponseStatus → Type 0
IsDoneBy q said Again says = (variables_of q.list ≡ []) ⊎ (SaysOfSet said NO_ERROR ⊎ Again says)

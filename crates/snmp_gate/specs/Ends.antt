-- How a device's answer ends a request (RFC 3416, section 4.2).
--
-- `IsFailing`: a status with an error. `FailsOrGoesOn`: the answer has an error, or the request goes on. `IsEndFor`: an
-- answer without an error ends only a SetRequest, and none is unfit for one. `ErrsSo`: why an answer ends a request for
-- values. `EndsSet`: an answer ends a SetRequest by what it says. `EndsIfSet`: it ends a SetRequest.
use Rattle.std.specs.Prelude.{◌≡◌, ◌≢◌, ⊤, ℕ, None, pos}
use Rattle.snmp_msg.specs.PduTypes.{pdu_tag}
use Rattle.snmp_msg.specs.declared.pdu.Pdu.{Pdu}
use Rattle.snmp_msg.specs.declared.pdu_type.PduType.TheVariants.{SetRequest}
use Rattle.vacm_core.specs.Tables.{Tables}
use Rattle.snmp_walk.specs.declared.failure.FailureStatus.{FailureStatus}
use Rattle.snmp_walk.specs.declared.failure.FailureStatus.TheVariants as failure
use Rattle.snmp_gate.specs.Question.{Question}
use Rattle.snmp_gate.specs.ReadErrors.{IsIndexAmong, IsReadError}
use Rattle.snmp_gate.specs.Said.{Said}
use Rattle.snmp_gate.specs.SetOutcome.{IsToldIndex, IsToldStatus}
use Rattle.snmp_gate.specs.Work.{IsOwnStatus}
use Rattle.snmp_gate.specs.declared.onward.AnswerTaken.{AnswerTaken}
use Rattle.snmp_gate.specs.declared.onward.AnswerTaken.TheVariants as taken
use Rattle.snmp_gate.specs.declared.onward.AnswerTaken.TheVariants.{Ends}
use Rattle.snmp_gate.specs.declared.set_answer.ResponseStatus.{ResponseStatus}
use Rattle.snmp_gate.specs.declared.task.Task.{Task}
use Rattle.snmp_gate.specs.declared.task.Task.TheVariants as task
use Rattle.snmp_gate.specs.declared.set_answer.TheConstants.{GEN_ERR, NO_ERROR, NO_SUCH_NAME, TOO_BIG}

abbrev pub IsFailing : ResponseStatus → Type 0
IsFailing says = says.status ≢ NO_ERROR

abbrev pub FailsOrGoesOn : AnswerTaken → Type 0
FailsOrGoesOn (Ends says) = IsFailing says
FailsOrGoesOn _ = ⊤

abbrev pub IsEndFor : Tables → Question → Said → AnswerTaken → Type 0
IsEndFor tables q told (Ends says) = IsOwnStatus tables q told None says
IsEndFor tables q told (taken.Unfit fault) = q.tag ≢ pdu_tag SetRequest
IsEndFor tables q told _ = ⊤

-- an answer ends a request for values by its cause
abbrev pub ErrsSo : Tables → Question → Said → AnswerTaken → Type 0
ErrsSo tables q told (Ends says) = IsReadError tables q told says
ErrsSo tables q told _ = ⊤

-- the Response to a SetRequest says what the device's answer says
pub record IsOutcomeOf (answer : Pdu) (says : ResponseStatus) : Type 0 where
  pub status : IsToldStatus answer.second says.status
  pub bindings : ℕ
  pub index : IsToldIndex answer.second answer.third bindings says.index

abbrev pub EndsSet : Pdu → AnswerTaken → Type 0
EndsSet answer (Ends says) = IsOutcomeOf answer says
EndsSet answer _ = ⊥

-- an answer to a SetRequest ends it
abbrev pub EndsIfSet : Task → AnswerTaken → Type 0
EndsIfSet t answer = t ≡ task.Set → (says : ResponseStatus) × (answer ≡ Ends says)

-- what a Response says of an error of the device
abbrev pub IsStatusOfFailure : FailureStatus → ℕ → ResponseStatus → Type 0
IsStatusOfFailure failure.TooBig bindings says = (says.status ≡ TOO_BIG) × (says.index ≡ pos 0)
IsStatusOfFailure failure.NoSuchName bindings says = (says.status ≡ NO_SUCH_NAME) × IsIndexAmong says.index bindings
IsStatusOfFailure failure.GenErr bindings says = (says.status ≡ GEN_ERR) × IsIndexAmong says.index bindings

-- By which PDU a request asks (RFC 3416, section 3), and by which message.
--
-- `IsRequestOf`: the place of the request with a number. `IsNumberOfNone`: none has it. `IsTagOf`: the tag of the PDU
-- by which the messages of the request with this number ask. `IsMessageOf`: the first of these messages.
use Rattle.std.specs.Prelude.{◌≡◌, ◌≢◌, ◌<◌, ℕ, List, All, Some, length}
use Rattle.std.specs.List.{HoldsAt}
use Rattle.snmp_gate.specs.Messages.{question_in}
use Rattle.snmp_gate.specs.Question.{Question}
use Rattle.snmp_gate.specs.declared.requests.WaitingRequest.{WaitingRequest}
use Rattle.snmp_gate.specs.declared.waiting_message.WaitingMessage.{WaitingMessage}
use Rattle.snmp_gate.specs.declared.work.Work.{Work}

abbrev pub Request : Type 0
Request = WaitingRequest WaitingMessage Work

pub record IsRequestOf (requests : List Request) (number place : ℕ) : Type 0 where
  pub within : place < length requests
  pub numbered : HoldsAt (λ (r : Request). r.number ≡ number) requests place

abbrev pub IsNumberOfNone : List Request → ℕ → Type 0
IsNumberOfNone requests number = All (λ (r : Request). r.number ≢ number) requests

-- the request's messages ask by a PDU with this tag
abbrev pub AsksBy : ℕ → ℕ → Request → Type 0
AsksBy number tag r = (r.number ≡ number) × ((q : Question) × (question_in r.first ≡ Some q) × (tag ≡ q.tag))

pub record IsTagOf (requests : List Request) (number tag : ℕ) : Type 0 where
  pub place : ℕ
  pub within : place < length requests
  pub asks : HoldsAt (AsksBy number tag) requests place

pub record IsMessageOf (requests : List Request) (number : ℕ) (message : WaitingMessage) : Type 0 where
  pub place : ℕ
  pub within : place < length requests
  pub asks : HoldsAt (λ (r : Request). (r.number ≡ number) × (message ≡ r.first)) requests place

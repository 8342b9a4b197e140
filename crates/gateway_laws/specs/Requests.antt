-- What a device is asked, and what one answers that answers as RFC 3416 says (sections 4.2.1 to 4.2.3), from variables
-- that don't change.
--
-- `RequestPdu`: what a request asks. `Has`: the variables of a Response to it that has no error. `IsTrueResponse`: a
-- Response of the device is so, and never says noSuchName.
use Rattle.std.specs.Prelude.{◌≡◌, ⊤, ℕ, pos, List, ◌++◌, map}
use Rattle.snmp_msg.specs.Pdu.{PduParts}
use Rattle.snmp_msg.specs.Variables.{Variable, variables_of}
use Rattle.snmp_msg.specs.declared.pdu_type.PduType.{PduType}
use Rattle.snmp_msg.specs.declared.pdu_type.PduType.TheVariants.{GetBulkRequest, GetNextRequest, GetRequest}
use Rattle.snmp_responder.specs.Bulk.{IsBulk}
use Rattle.snmp_responder.specs.Instrumentation.{Known}
use Rattle.snmp_walk.specs.Dialogue.{requests_of}
use Rattle.snmp_walk.specs.declared.failure.TheConstants.{NO_SUCH_NAME}
use Rattle.snmp_walk.specs.declared.operation.ReadOperation.TheVariants.{Get, GetNext}
use Rattle.gateway_laws.specs.Device.{AllSeen, AreAnswered}

-- what a request asks, besides its request-id. The two numbers are 0 but in a GetBulkRequest
pub record RequestPdu : Type 0 where
  pub type : PduType
  pub non_repeaters : ℕ
  pub max_repetitions : ℕ
  pub variables : List Variable

-- the variables are the first ones of what the device has for a GetBulkRequest, which may be all
pub record HasFirst (device : Known) (r : RequestPdu) (vs : List Variable) : Type 0 where
  pub whole : List Variable
  pub is_bulk : IsBulk device AllSeen (map (λ (v : Variable). v.name) r.variables) r.non_repeaters r.max_repetitions
      whole
  pub rest : List Variable
  pub joined : whole ≡ vs ++ rest

-- the variables are those that the device has for a request of this type; of any other type nothing is said
abbrev pub Has : Known → PduType → RequestPdu → List Variable → Type 0
Has device GetRequest r vs = AreAnswered device AllSeen (requests_of Get r.variables) vs
Has device GetNextRequest r vs = AreAnswered device AllSeen (requests_of GetNext r.variables) vs
Has device GetBulkRequest r vs = HasFirst device r vs
Has device _ r vs = ⊤

-- a Response of the device: with error-status noError (0) it has these variables; and it doesn't say noSuchName, which
-- is for devices of version-1 (RFC 3416, section 3)
pub record IsTrueResponse (device : Known) (r : RequestPdu) (answer : PduParts) : Type 0 where
  pub bindings : answer.second ≡ pos 0 → Has device r.type r (variables_of answer.list)
  pub not_version_1 : ¬ (answer.second ≡ NO_SUCH_NAME)

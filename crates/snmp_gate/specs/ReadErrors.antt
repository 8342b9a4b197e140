-- Why the Response to a request for values has an error (RFC 3413, section 3.2; RFC 3416, sections 4.2.1 to 4.2.3).
--
-- `IsReadError`: its error-status and error-index, by their cause. `IsCauseOfRefusal`: why no device is asked.
use Rattle.std.specs.Prelude.{◌≡◌, ◌⊎◌, ⊤, ℕ, ℤ, pos, Contains, length}
use Rattle.snmp_msg.specs.PduTypes.{pdu_tag}
use Rattle.snmp_msg.specs.Variables.{Variable, variables_of}
use Rattle.snmp_msg.specs.declared.pdu_type.PduType.TheVariants.{SetRequest}
use Rattle.vacm_core.specs.Allowed.{Allowed}
use Rattle.vacm_core.specs.Tables.{Tables}
use Rattle.vacm_core.specs.declared.access.Access.{Access}
use Rattle.vacm_core.specs.declared.access.ViewType.TheVariants.{Read}
use Rattle.snmp_agent.specs.Statuses.{IsStatusOf}
use Rattle.snmp_agent.specs.declared.status.Status.TheVariants.{AuthorizationError}
use Rattle.snmp_gate.specs.Messages.{requester_in}
use Rattle.snmp_gate.specs.Question.{Question}
use Rattle.snmp_gate.specs.Said.{Exchange, IsUnasked, Said}
use Rattle.snmp_gate.specs.SetOutcome.{IsNumberOfBinding}
use Rattle.snmp_gate.specs.declared.refused_access.AccessRefusal.{AccessRefusal}
use Rattle.snmp_gate.specs.declared.refused_access.AccessRefusal.TheVariants as refusal
use Rattle.snmp_gate.specs.declared.set_answer.ResponseStatus.{ResponseStatus}
use Rattle.snmp_gate.specs.declared.set_answer.TheConstants.{AUTHORIZATION_ERROR, GEN_ERR, NO_SUCH_NAME, TOO_BIG}

-- the error-index, of so many bindings: 0, or the number of one of them, which counts from 1
abbrev pub IsIndexAmong : ℤ → ℕ → Type 0
IsIndexAmong index bindings = (index ≡ pos 0) ⊎ IsNumberOfBinding index bindings

-- for one of the names isAccessAllowed finds no group, no access row or no view (RFC 3415, section 3.2)
pub record IsUnauthorized (tables : Tables) (q : Question) : Type 0 where
  pub name : Variable
  pub there : Contains (variables_of q.list) name
  pub access : Access
  pub decided : Allowed tables (requester_in q) Read name.name access
  pub refused : IsStatusOf access q.tag AuthorizationError

-- the device answered with this error-status
pub record HasAnswered (told : Said) (status : ℤ) : Type 0 where
  pub exchange : Exchange
  pub there : Contains told.exchanges exchange
  pub status_is : exchange.answer.second ≡ status

pub data IsReadError (tables : Tables) (q : Question) (told : Said) (says : ResponseStatus) : Type 0 where
  -- the sender isn't authorized, and no device was asked
  unauthorized : says.status ≡ AUTHORIZATION_ERROR → says.index ≡ pos 0 → IsUnasked told → IsUnauthorized tables q
      → IsReadError tables q told says
  -- the Response is too long, or what its device would be asked, or would answer
  too_big : says.status ≡ TOO_BIG → says.index ≡ pos 0 → IsReadError tables q told says
  -- its device said so of a name
  no_such_name : says.status ≡ NO_SUCH_NAME → IsIndexAmong says.index (length (variables_of q.list))
      → HasAnswered told NO_SUCH_NAME → IsReadError tables q told says
  -- its device answered with another error, or with what doesn't fit, or would have to be asked too often
  gen_err : says.status ≡ GEN_ERR → IsIndexAmong says.index (length (variables_of q.list))
      → IsReadError tables q told says

-- why no device is asked, by the answers on access
abbrev pub IsCauseOfRefusal : Tables → Question → AccessRefusal → Type 0
IsCauseOfRefusal tables q refusal.AuthorizationError = (q.tag ≡ pdu_tag SetRequest) ⊎ IsUnauthorized tables q
IsCauseOfRefusal tables q (refusal.NoAccess number) = q.tag ≡ pdu_tag SetRequest
IsCauseOfRefusal tables q refusal.UnknownContext = ⊤

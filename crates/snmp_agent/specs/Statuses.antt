-- What becomes of a request by the answers on access (RFC 3413, section 3.2; RFC 3416, section 4.2).
--
-- `IsStatusOf` (RFC 3413, section 3.2). The answer on access and the tag of the PDU for which each status
-- is due.
use Rattle.std.specs.Prelude.{◌≡◌, ◌≢◌, ◌⊎◌, ℕ}
use Rattle.snmp_msg.specs.PduTypes.{pdu_tag}
use Rattle.snmp_msg.specs.declared.pdu_type.PduType.TheVariants.{GetRequest, SetRequest}
use Rattle.vacm_core.specs.declared.access.Access.{Access}
use Rattle.vacm_core.specs.declared.access.Access.TheVariants.{NoSuchContext, NoGroupName, NoAccessEntry, NoSuchView}
use Rattle.vacm_core.specs.declared.access.Access.TheVariants.{NotInView, AccessAllowed}
use Rattle.snmp_agent.specs.declared.status.Status.{Status}
use Rattle.snmp_agent.specs.declared.status.Status.TheVariants.{NoError, NoAccess, AuthorizationError, NoSuchObject}
use Rattle.snmp_agent.specs.declared.status.Status.TheVariants.{NotSeen, UnknownContext}

-- the answer on access and the tag of the PDU for which each is due
abbrev pub IsStatusOf : Access → ℕ → Status → Type 0
IsStatusOf access tag NoError = access ≡ AccessAllowed
IsStatusOf access tag UnknownContext = access ≡ NoSuchContext
IsStatusOf access tag AuthorizationError = (access ≡ NoGroupName) ⊎ ((access ≡ NoAccessEntry) ⊎ (access ≡ NoSuchView))
IsStatusOf access tag NoAccess = (access ≡ NotInView) × (tag ≡ pdu_tag SetRequest)
IsStatusOf access tag NoSuchObject = (access ≡ NotInView) × (tag ≡ pdu_tag GetRequest)
IsStatusOf access tag NotSeen = (access ≡ NotInView) × (tag ≢ pdu_tag GetRequest)
    × (tag ≢ pdu_tag SetRequest)

-- the error-status (RFC 3416, section 3), or the exception's tag, or one that no message has
abbrev pub status_number : Status → ℕ
status_number NoError = 0
status_number NoAccess = 6
status_number AuthorizationError = 16
status_number NoSuchObject = 128
status_number NotSeen = 256
status_number UnknownContext = 257

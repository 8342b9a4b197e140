-- What a message says, and the header with which it is sent.
--
-- What an envelope and a body are sent as: a header with msgMaxSize 65507 and the user-based model at the
-- envelope's level, and the shortest spelling of the scoped PDU. `sent_with` and `scoped_after`: the same
-- of a front, which is a body without its bindings, and what any bindings say. `seal_answer`: the answer as
-- `Seals` has it. `IsMeasured` (`Scopeds`): the sizes that are known of a ScopedPDU before it is spelled in
-- its place are those of its parts.
use Rattle.std.specs.Prelude.{ℕ, Bool, true, false, List, map, All}
use Rattle.snmp_ber.specs.declared.level.Level.{Level}
use Rattle.snmp_ber.specs.declared.level.Level.TheVariants.{NoAuthNoPriv, AuthNoPriv, AuthPriv}
use Rattle.snmp_message.specs.declared.message.TheConstants.{LARGEST}
use Rattle.snmp_message.specs.declared.header.Header.{Header}
use Rattle.snmp_message.specs.Scoped.{contexts_text, scoped_text}
use Rattle.snmp_msg.specs.Variables.{Variable, CanBeWritten, variable_of}
use Rattle.snmp_msg.specs.Pdu.{PduParts, pdu_with, pdu_text}
use Rattle.snmp_msg.specs.PduTypes.{IsPduTag}
use Rattle.snmp_outgoing.specs.declared.body.Body.{Body}
use Rattle.snmp_outgoing.specs.declared.front.Front.{Front}

-- ---- the header

abbrev pub has_auth : Level → Bool
has_auth NoAuthNoPriv = false
has_auth AuthNoPriv = true
has_auth AuthPriv = true

abbrev pub has_privacy : Level → Bool
has_privacy NoAuthNoPriv = false
has_privacy AuthNoPriv = false
has_privacy AuthPriv = true

-- the header of what is sent at a level: msgMaxSize is the most that a datagram over UDP and IPv4 can have,
-- and the security model is the user-based one (RFC 3412, section 6)
abbrev pub header_at : Level → ℕ → Bool → Header
header_at level id reportable = record {
  id = id;
  max_size = LARGEST;
  auth = has_auth level;
  privacy = has_privacy level;
  reportable = reportable;
  model = 3;
}

-- ---- the body

-- its PDU, in the shortest spelling
abbrev pub pdu_in : Body → PduParts
pdu_in b = pdu_with b.tag b.id b.second b.third (map variable_of b.bindings.now)

-- its ScopedPDU, in the shortest spelling (RFC 3412, section 6.8)
abbrev pub scoped_of : Body → List ℕ
scoped_of b = scoped_text b.context_engine.now b.context_name.now (pdu_text (pdu_in b))

-- what it says besides its bindings, and these
abbrev pub front_in : Body → Front
front_in b = record {
  context_engine = b.context_engine;
  context_name = b.context_name;
  tag = b.tag;
  id = b.id;
  second = b.second;
  third = b.third;
}

abbrev pub variables_in : Body → List Variable
variables_in b = map variable_of b.bindings.now

-- the PDU and the ScopedPDU of a front and bindings
abbrev pub pdu_after : Front → List Variable → PduParts
pdu_after f vs = pdu_with f.tag f.id f.second f.third vs

-- the content of that ScopedPDU
abbrev pub contexts_after : Front → List Variable → List ℕ
contexts_after f vs = contexts_text f.context_engine.now f.context_name.now (pdu_text (pdu_after f vs))

abbrev pub scoped_after : Front → List Variable → List ℕ
scoped_after f vs = scoped_text f.context_engine.now f.context_name.now (pdu_text (pdu_after f vs))

-- It can be written.
pub record BodyFits (b : Body) : Type 0 where
  pub tag : IsPduTag b.tag
  pub bindings : All (λ x. CanBeWritten (variable_of x)) b.bindings.now

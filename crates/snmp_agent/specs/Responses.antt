-- Responses, each as what is handed in to be sealed.
--
-- `response` (RFC 3412, section 7.1, RFC 3416, section 4.2). The Response to what was given: its msgID,
-- user, level, contexts and request-id, under the engine's boots and time. `responding`: the same as it is
-- handed in to be sealed.
use Rattle.std.specs.Prelude.{ℕ, ℤ, false, List}
use Rattle.snmp_message.specs.Scoped.{Contexts}
use Rattle.snmp_msg.specs.Variables.{Variable}
use Rattle.snmp_msg.specs.PduTypes.{pdu_tag}
use Rattle.snmp_msg.specs.declared.pdu_type.PduType.TheVariants.{Response}
use Rattle.snmp_msg.specs.Pdu.{PduParts, pdu_with}
use Rattle.engine_clock.specs.Pairs.{BootsAndTime}
use Rattle.usm_core.specs.Sealed.{Sending}
use Rattle.snmp_incoming.specs.Outcome.{Given}
use Rattle.snmp_outgoing.specs.Speaks.{Speech, spoken}

-- The Response to what was given, with contexts c and PDU p, from the engine with its boots and time (RFC
-- 3412, section 7.1; RFC 3416, section 4.2): msgID, user, level, contexts and request-id are those of the
-- request.
abbrev pub response : List ℕ → BootsAndTime → Given → Contexts → PduParts → ℤ → ℤ → List Variable → List ℕ → Speech
response engine own g c p status index vs salt = record {
  level = g.level;
  id = g.id;
  reportable = false;
  engine = engine;
  pair = own;
  user = g.user;
  salt = salt;
  context_engine = c.engine;
  context_name = c.name;
  pdu = pdu_with (pdu_tag Response) p.id status index vs;
}

abbrev pub responding : List ℕ → BootsAndTime → Given → Contexts → PduParts → ℤ → ℤ → List Variable → List ℕ → Sending
responding engine own g c p status index vs salt = spoken (response engine own g c p status index vs salt)

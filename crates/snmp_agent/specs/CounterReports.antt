-- Reports of one counter (RFC 3412, section 7.1, step 3; RFC 3414, section 3.2), each as what is handed in to
-- be sealed.
--
-- `reporting` (RFC 3414, section 3.2). The report of a counter of usmStats, in the default context of the
-- engine: at authNoPriv for counter 2, else at noAuthNoPriv; `counter_report` is what it says. `refusing`: the
-- report on an accepted message that isn't handled, at its own level (RFC 3412 section 7.1).
use Rattle.std.specs.Prelude.{◌==◌, ℕ, ℤ, pos, false, if◌then◌else◌, List, [], ◌∷◌, replicate}
use Rattle.snmp_ber.specs.declared.level.Level.{Level}
use Rattle.snmp_ber.specs.declared.level.Level.TheVariants.{NoAuthNoPriv, AuthNoPriv}
use Rattle.snmp_ber.specs.Spelling.{integer}
use Rattle.snmp_message.specs.Scoped.{scoped_text}
use Rattle.snmp_msg.specs.Variables.{Variable}
use Rattle.snmp_msg.specs.PduTypes.{pdu_tag}
use Rattle.snmp_msg.specs.declared.pdu_type.PduType.TheVariants.{Report}
use Rattle.snmp_msg.specs.Pdu.{PduParts, pdu_with, pdu_text}
use Rattle.engine_clock.specs.Pairs.{BootsAndTime}
use Rattle.usm_core.specs.Sealed.{Sending}
use Rattle.snmp_incoming.specs.Outcome.{Given}
use Rattle.snmp_outgoing.specs.Bodies.{header_at}
use Rattle.snmp_outgoing.specs.Counters.{counter_name, name_of}
use Rattle.snmp_outgoing.specs.Speaks.{Speech, spoken}
use Rattle.snmp_outgoing.specs.declared.counter.Counter.{Counter}

-- ---- on a message that is refused

-- a Counter32 (RFC 2578, section 7.1.6) with its name
abbrev pub counter_variable : ℕ → ℕ → Variable
counter_variable n value = record { name = counter_name n; tag = 65; content = integer (pos value) }

-- the ScopedPDU of the report of the counter of this name: in the default context of the engine, with the counter alone
abbrev pub counter_scoped : List ℕ → ℤ → List ℕ → ℕ → List ℕ
counter_scoped engine request_id name value =
    scoped_text engine []
    (pdu_text (pdu_with (pdu_tag Report) request_id (pos 0) (pos 0)
    (record { name = name; tag = 65; content = integer (pos value) } ∷ [])))

-- usmStatsNotInTimeWindows, whose number is 2, is reported with authentication (RFC 3414, section 3.2, step
-- 7), and the others without
abbrev pub report_level : ℕ → Level
report_level k = if k == 2 then AuthNoPriv else NoAuthNoPriv

-- the report of counter k, with the agent's engine, its boots and time, and the counter's value
abbrev pub reporting : List ℕ → BootsAndTime → ℕ → List ℕ → ℤ → ℕ → ℕ → Sending
reporting engine own id user request_id k value = record {
  header = header_at (report_level k) id false;
  engine = engine;
  pair = own;
  user = user;
  salt = replicate 8 0;
  scoped = counter_scoped engine request_id (counter_name k) value;
}

-- what that report says
abbrev pub counter_report : List ℕ → BootsAndTime → ℕ → List ℕ → ℤ → ℕ → ℕ → Speech
counter_report engine own id user request_id k value = record {
  level = report_level k;
  id = id;
  reportable = false;
  engine = engine;
  pair = own;
  user = user;
  salt = replicate 8 0;
  context_engine = engine;
  context_name = [];
  pdu = pdu_with (pdu_tag Report) request_id (pos 0) (pos 0) (counter_variable k value ∷ []);
}

-- ---- on an accepted message that nothing handles

-- a Counter32 (RFC 2578, section 7.1.6) with its name
abbrev pub count_variable : Counter → ℕ → Variable
count_variable counter value = record { name = name_of counter; tag = 65; content = integer (pos value) }

-- The report on an accepted message that isn't answered: at the message's own level, to its user, in the
-- default context of the engine, with the counter's value.
abbrev pub count_report : List ℕ → BootsAndTime → Given → PduParts → Counter → ℕ → List ℕ → Speech
count_report engine own g p counter value salt = record {
  level = g.level;
  id = g.id;
  reportable = false;
  engine = engine;
  pair = own;
  user = g.user;
  salt = salt;
  context_engine = engine;
  context_name = [];
  pdu = pdu_with (pdu_tag Report) p.id (pos 0) (pos 0) (count_variable counter value ∷ []);
}

abbrev pub refusing : List ℕ → BootsAndTime → Given → PduParts → Counter → ℕ → List ℕ → Sending
refusing engine own g p counter value salt = spoken (count_report engine own g p counter value salt)

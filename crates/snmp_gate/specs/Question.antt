-- What a message asks, but for its ids (RFC 3411, section 3.3.1; RFC 3416, section 3).
--
-- `Question`: who asks, at which level, in which context of which engine, and the PDU but for its request-id.
use Rattle.std.specs.Prelude.{ℕ, ℤ, List}
use Rattle.snmp_ber.specs.declared.level.Level.{Level}
use Rattle.snmp_gate.specs.declared.client_message.ClientMessage.{ClientMessage}

pub record Question : Type 0 where
  -- the address of the client
  pub client : List ℕ
  pub user : List ℕ
  pub level : Level
  -- contextEngineID
  pub engine : List ℕ
  -- contextName
  pub context : List ℕ
  -- the PDU's type
  pub tag : ℕ
  -- error-status and error-index, or non-repeaters and max-repetitions
  pub second : ℤ
  pub third : ℤ
  -- variable-bindings
  pub list : List ℕ

abbrev pub question_of : ClientMessage → Question
question_of m = record {
  client = m.client.now;
  user = m.user.now;
  level = m.level;
  engine = m.engine.now;
  context = m.context.now;
  tag = m.pdu.tag;
  second = m.pdu.second;
  third = m.pdu.third;
  list = m.pdu.list.now;
}

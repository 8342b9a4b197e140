-- What a manager's requests are sent as (RFC 3414, sections 3.1 and 4).
--
-- `requesting`, `discovering`, `asking_time` (RFC 3414, sections 3.1 and 4). What a manager's request with a front and
-- bindings is sent as: at levels with authentication with the held boots and the notion of the time, or
-- zeros where nothing is held. `front_in` and `variables_in` are the front and the bindings of a body.
use Rattle.std.specs.Prelude.{◌≡◌, ◌≤◌, ℕ, pos, true, List, [], length, replicate, Option, Some, None}
use Rattle.snmp_ber.specs.declared.level.Level.{Level}
use Rattle.snmp_ber.specs.declared.level.Level.TheVariants.{NoAuthNoPriv, AuthNoPriv, AuthPriv}
use Rattle.snmp_ber.specs.declared.number.TheConstants.{MAX_INTEGER32}
use Rattle.snmp_message.specs.Scoped.{scoped_text}
use Rattle.snmp_msg.specs.Variables.{Variable, AllFit}
use Rattle.snmp_msg.specs.Pdu.{AreInRange, pdu_with, pdu_text}
use Rattle.snmp_msg.specs.PduTypes.{IsPduTag, is_confirmed, pdu_tag}
use Rattle.snmp_msg.specs.declared.pdu_type.PduType.TheVariants.{GetRequest}
use Rattle.engine_clock.specs.Pairs.{BootsAndTime, IsPair}
use Rattle.engine_clock.specs.Marks.{SeenPair}
use Rattle.engine_clock.specs.Windows.{notion_at}
use Rattle.usm_core.specs.Authentic.{HasEngineLength}
use Rattle.usm_core.specs.Sealed.{Sending}
use Rattle.snmp_outgoing.specs.declared.front.Front.{Front}
use Rattle.snmp_outgoing.specs.Bodies.{header_at, pdu_after, scoped_after}
use Rattle.snmp_outgoing.specs.Speaks.{Speech}

-- boots and time as they are sent where nothing is known
abbrev pub no_pair : BootsAndTime
no_pair = record { boots = 0; time = 0 }

-- the boots and time of a request: at levels with authentication the held boots and the notion of the time
abbrev pub written_pair : Level → Option SeenPair → ℕ → BootsAndTime
written_pair NoAuthNoPriv held now = no_pair
written_pair AuthNoPriv None now = no_pair
written_pair AuthPriv None now = no_pair
written_pair AuthNoPriv (Some mark) now = record { boots = mark.pair.boots; time = notion_at now mark }
written_pair AuthPriv (Some mark) now = record { boots = mark.pair.boots; time = notion_at now mark }

-- a request with this front and these bindings to the engine, of which this mark is held
abbrev pub requesting : Option SeenPair → ℕ → ℕ → List ℕ → List ℕ → Level → Front → List Variable → List ℕ → Sending
requesting held now id engine user level f vs salt = record {
  header = header_at level id (is_confirmed f.tag);
  engine = engine;
  pair = written_pair level held now;
  user = user;
  salt = salt;
  scoped = scoped_after f vs;
}

-- the same as a speech
abbrev pub request : Option SeenPair → ℕ → ℕ → List ℕ → List ℕ → Level → Front → List Variable → List ℕ → Speech
request held now id engine user level f vs salt = record {
  level = level;
  id = id;
  reportable = is_confirmed f.tag;
  engine = engine;
  pair = written_pair level held now;
  user = user;
  salt = salt;
  context_engine = f.context_engine.now;
  context_name = f.context_name.now;
  pdu = pdu_after f vs;
}

-- The request's numbers, names, bindings and held pair are in their ranges.
pub record RequestFits (held : Option SeenPair) (number : ℕ) (identifier name octets : List ℕ) (f : Front)
    (vs : List Variable) : Type 0 where
  pub id : number ≤ MAX_INTEGER32
  pub pair : (mark : SeenPair) → held ≡ Some mark → IsPair mark.pair
  pub engine : HasEngineLength identifier
  pub user : length name ≤ 32
  pub salt : length octets ≡ 8
  pub tag : IsPduTag f.tag
  pub numbers : AreInRange (pdu_after f vs)
  pub bindings : AllFit vs

-- the discovery request: a GetRequest of nothing, for no engine and no user (RFC 3414, section 4)
abbrev pub discovering : ℕ → Sending
discovering id = record {
  header = header_at NoAuthNoPriv id true;
  engine = [];
  pair = no_pair;
  user = [];
  salt = replicate 8 0;
  scoped = scoped_text [] [] (pdu_text (pdu_with (pdu_tag GetRequest) (pos id) (pos 0) (pos 0) []));
}

-- the request for the time: a GetRequest of nothing, for this user at authNoPriv, with zeros for boots and time, which
-- the engine answers with its own (RFC 3414, section 4)
abbrev pub asking_time : ℕ → List ℕ → List ℕ → Sending
asking_time id engine user = record {
  header = header_at AuthNoPriv id true;
  engine = engine;
  pair = no_pair;
  user = user;
  salt = replicate 8 0;
  scoped = scoped_text engine [] (pdu_text (pdu_with (pdu_tag GetRequest) (pos id) (pos 0) (pos 0) []));
}

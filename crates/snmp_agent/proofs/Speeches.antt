-- What is said fits.
use Rattle.std.proofs.Common.{◌≡◌, ◌≤◌, length, Result, Ok, Err}
use Rattle.std.specs.Prelude.{IfOk}
use Rattle.engine_clock.specs.Engines.{IsEngine}
use Rattle.engine_clock.specs.Pairs.{IsPair}
use Rattle.snmp_msg.specs.Pdu.{IsSpelled}
use Rattle.snmp_outgoing.specs.Speaks.{Speech, SpeechFits}

pub speech_fits : {T E : Type 0} (r : Result T E) (s : Speech) → s.id ≤ 2147483647 → IsEngine s.engine → IsPair s.pair → length s.user ≤ 32 → length s.salt ≡ 8 → IfOk r (λ _. IsSpelled s.pdu) → IfOk r (λ _. SpeechFits s)
speech_fits (Err e) s id engine pair user salt spelled = tt
speech_fits (Ok x) s id engine pair user salt spelled = record {
  id = id;
  engine = (engine.at_least, engine.at_most);
  pair = pair;
  user = user;
  salt = salt;
  tag = spelled.tag_allowed;
  numbers = spelled.numbers;
  variables = spelled.variables;
  bindings = spelled.fit;
  list = spelled.list_is;
}

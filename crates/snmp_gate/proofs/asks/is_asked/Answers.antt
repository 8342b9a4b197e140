use Rattle.std.proofs.Common.{refl}
use Rattle.std.proofs.lemmas.List.Elements.{Contains-get_or}
use Rattle.snmp_gate.specs.Asks.{ask_of}
use Rattle.snmp_gate.proofs.asks.is_asked.Goals as goal

pub returns-in-Some : goal.returns-in-Some
returns-in-Some c = (
  λ _. record {
    ask = _;
    there = Contains-get_or c.args.asks.now c.in-Some.field-0 (ask_of 0 0) c.in-Some.ensures.within;
    id_is = c.in-Some.ensures.id_is (ask_of 0 0);
  },
  λ _. refl,
)

use Rattle.std.proofs.Common.{◌≡◌, ◌<◌, ℕ}
use Rattle.snmp_gate.specs.Asks.{Waits, id_after}
use Rattle.snmp_gate.specs.declared.asks.TheConstants.{REQUEST_IDS}
use Rattle.snmp_gate.proofs.asks.free_id.Given as goal

abbrev pub invariant-loop-ask : goal.invariant-loop-ask
invariant-loop-ask l = record {
  free_is : l.free ≡ id_after l.id l._ask-index;
  small : l.free < REQUEST_IDS;
  taken : (k : ℕ) → k < l._ask-index → Waits l.asks (id_after l.id k);
}

use Rattle.std.proofs.Common.{◌≢◌, ◌<◌, ℕ, slice_index_or}
use Rattle.snmp_gate.specs.declared.asks.DeviceAsk.{DeviceAsk}
use Rattle.snmp_gate.proofs.asks.place_of.Given as goal

abbrev pub invariant-loop-place : goal.invariant-loop-place
invariant-loop-place l = (k : ℕ) (ask : DeviceAsk) → k < l.place → (slice_index_or l.asks k ask).id ≢ l.id

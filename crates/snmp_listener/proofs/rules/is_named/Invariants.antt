use Rattle.std.proofs.Common.{◌≢◌, ◌<◌, ℕ, slice_index_or}
use Rattle.std.specs.Global.{Vec}
use Rattle.snmp_listener.proofs.rules.is_named.Given as goal

abbrev pub invariant-loop-name : goal.invariant-loop-name
invariant-loop-name l = (k : ℕ) (name : Vec ℕ) → k < l.name-index → (slice_index_or l.names k name).items ≢ l.octets

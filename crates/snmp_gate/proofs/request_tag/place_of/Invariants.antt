use Rattle.std.proofs.Common.{◌≢◌, ◌<◌, ℕ, slice_index_or}
use Rattle.snmp_gate.specs.RequestTags.{Request}
use Rattle.snmp_gate.proofs.request_tag.place_of.Given as goal

abbrev pub invariant-loop-place : goal.invariant-loop-place
invariant-loop-place l = (k : ℕ) (request : Request) → k < l.place → (slice_index_or l.requests k request).number ≢ l.number

use Rattle.std.proofs.Common.{length}
use Rattle.capture_files.proofs.Walks.{IsBehind}
use Rattle.capture_files.proofs.packet.untag.Given as goal

abbrev pub invariant-loop-kind : goal.invariant-loop-kind
invariant-loop-kind l = IsBehind l.fn.first l.fn.behind l.kind l.octets

abbrev pub decreases-loop-kind : goal.decreases-loop-kind
decreases-loop-kind l = length l.octets

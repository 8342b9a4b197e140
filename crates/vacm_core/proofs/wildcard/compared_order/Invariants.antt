use Rattle.vacm_core.proofs.Wildcards.{AreSameTo}
use Rattle.vacm_core.proofs.wildcard.compared_order.Given as goal

abbrev pub invariant-loop-k : goal.invariant-loop-k
invariant-loop-k l = AreSameTo l.mask l.first l.second l.k

use Rattle.snmp_walk.proofs.Choices.{FewestSoFar}
use Rattle.snmp_walk.proofs.bulk_ask.fewest.Given as goal

abbrev pub invariant-loop-column : goal.invariant-loop-column
invariant-loop-column l = FewestSoFar l.columns l.column-index l.fewest

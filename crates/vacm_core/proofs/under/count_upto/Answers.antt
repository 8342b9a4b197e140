use Rattle.std.proofs.Common.{rules}
use Rattle.std.proofs.lemmas.List.Sorted.{IsPartitionPoint-from_clause}
use Rattle.vacm_core.specs.Wildcard.{is_upto}
use Rattle.vacm_core.proofs.under.count_upto.Goals as goal

pub returns-clause-point : goal.returns-clause-point
returns-clause-point c = IsPartitionPoint-from_clause (is_upto c.args.first.now) _ _ c.partition_point.ensures.partitioned c.requires (λ a r q k. search rules)

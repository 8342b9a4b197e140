use Rattle.std.proofs.Common.{rules}
use Rattle.std.proofs.lemmas.List.Sorted.{IsPartitionPoint-from_clause}
use Rattle.vacm_core.specs.Wildcard.{is_before_alike}
use Rattle.vacm_core.proofs.under.count_before_alike.Goals as goal

pub returns-clause-point : goal.returns-clause-point
returns-clause-point c =
    IsPartitionPoint-from_clause (is_before_alike c.args.first.now c.args.beginning.now) _ _ c.partition_point.ensures.partitioned c.requires (λ a r q k. search rules)

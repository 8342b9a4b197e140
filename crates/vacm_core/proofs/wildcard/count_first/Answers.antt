use Rattle.std.proofs.Common.{rules}
use Rattle.std.proofs.lemmas.List.Sorted.{IsPartitionPoint-from_clause}
use Rattle.vacm_core.specs.Wildcard.{comes_first}
use Rattle.vacm_core.proofs.wildcard.count_first.Goals as goal

pub returns : goal.returns
returns c =
    IsPartitionPoint-from_clause (comes_first c.args.first.now.mask c.args.beginning.now) _ _ c.partition_point.ensures.partitioned c.requires (λ a r q k. search rules)

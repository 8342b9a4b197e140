use Rattle.std.proofs.Common.{rules}
use Rattle.std.proofs.lemmas.List.Sorted.{IsPartitionPoint-from_clause}
use Rattle.vacm_core.specs.View.{is_before}
use Rattle.vacm_core.proofs.under.count_before.Goals as goal

pub returns-clause-point : goal.returns-clause-point
returns-clause-point c =
    IsPartitionPoint-from_clause (is_before c.args.size c.args.beginning.now) _ _ c.partition_point.ensures.partitioned c.requires (λ a r q k. search rules)

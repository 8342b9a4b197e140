use Rattle.std.proofs.Common.{sym, ◌∙◌}
use Rattle.capture_files.proofs.Walks.{next_tag}
use Rattle.capture_files.proofs.packet.untag.Goals as goal

pub loop-kind-preserved : goal.loop-kind-preserved
loop-kind-preserved c =
    next_tag _ _ _ _ _ _ c.loop-kind.invariant (sym c.is_tag.ensures ∙ c.loop-kind-test.true) c.if-octets-ge4.true c.read_16-kind.ensures c.split_at.ensures.back

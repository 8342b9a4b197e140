use Rattle.capture_files.proofs.Parts.{next_link}
use Rattle.capture_files.proofs.tally.push_links.Goals as goal

pub loop-link-preserved : goal.loop-link-preserved
loop-link-preserved c = next_link c.args.counts.now c.loop-link.link _ _ _ c.loop-link-test.true c.loop-link.invariant c.in_ok-push_link.ensures

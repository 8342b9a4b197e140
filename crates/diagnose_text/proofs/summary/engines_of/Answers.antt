use Rattle.std.proofs.lemmas.List.Elements.{All-push, All-same}
use Rattle.diagnose_text.specs.Engines.{IsKnown}
use Rattle.diagnose_text.proofs.summary.engines_of.Goals as goal

pub loop-line-preserved-in-Continue-branch-2 : goal.loop-line-preserved-in-Continue-branch-2
loop-line-preserved-in-Continue-branch-2 c =
    let P = IsKnown c.args.clocks.now in
    All-same P c.push.new.self.items _ c.in_ok-push.ensures.items (All-push P c.loop-line.engines.items c.in-Some-engine_in.facts c.loop-line.invariant c.in-Some-engine_in.ensures)

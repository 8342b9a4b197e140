use Rattle.std.proofs.Common.{[]}
use Rattle.diagnose_text.proofs.Writings.{writes_nothing, writes_then}
use Rattle.diagnose_text.proofs.diagnoser.Diagnoser.print_finished.Goals as goal

pub loop-turn-init : goal.loop-turn-init
loop-turn-init c = writes_nothing c.args.self.now c.args.out.now.items

pub loop-turn-preserved : goal.loop-turn-preserved
loop-turn-preserved c = writes_then [] [] c.args.self.now c.loop-turn.self _ c.args.out.now.items c.loop-turn.out.items _ c.loop-turn.invariant c.in_ok-is_finished.ensures

pub returns-then-not-is_finished : goal.returns-then-not-is_finished
returns-then-not-is_finished c = writes_then [] [] c.args.self.now c.loop-turn.self _ c.args.out.now.items c.loop-turn.out.items _ c.loop-turn.invariant c.in_ok-is_finished.ensures

pub returns-after-loop-turn : goal.returns-after-loop-turn
returns-after-loop-turn c = c.loop-turn.invariant

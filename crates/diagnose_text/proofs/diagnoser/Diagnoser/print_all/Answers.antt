use Rattle.std.proofs.Common.{[]}
use Rattle.diagnose_text.proofs.Writings.{writes_anywhere, writes_nothing, writes_then}
use Rattle.diagnose_text.proofs.diagnoser.Diagnoser.print_all.Goals as goal

pub loop-turn-init : goal.loop-turn-init
loop-turn-init c = writes_nothing c.args.self.now c.args.out.now.items

pub loop-turn-preserved : goal.loop-turn-preserved
loop-turn-preserved c = writes_then [] [] c.args.self.now c.print_finished.new.self _ c.args.out.now.items c.print_finished.new.out.items c.print_finished.new.out.items
    (writes_then [] [] c.args.self.now c.loop-turn.self c.print_finished.new.self c.args.out.now.items c.loop-turn.out.items c.print_finished.new.out.items c.loop-turn.invariant c.in_ok-print_finished.ensures)
    (writes_anywhere [] c.print_finished.new.self _ c.print_finished.new.out.items c.end_first.ensures)

pub returns-then-not-end_first : goal.returns-then-not-end_first
returns-then-not-end_first c = writes_then [] [] c.args.self.now c.print_finished.new.self _ c.args.out.now.items c.print_finished.new.out.items c.print_finished.new.out.items
    (writes_then [] [] c.args.self.now c.loop-turn.self c.print_finished.new.self c.args.out.now.items c.loop-turn.out.items c.print_finished.new.out.items c.loop-turn.invariant c.in_ok-print_finished.ensures)
    (writes_anywhere [] c.print_finished.new.self _ c.print_finished.new.out.items c.end_first.ensures)

pub returns-after-loop-turn : goal.returns-after-loop-turn
returns-after-loop-turn c = c.loop-turn.invariant

use Rattle.usm_core.specs.Answers.{verified_of}
use Rattle.diagnose_judge.proofs.Verdicts.{told_by}
use Rattle.diagnose_judge.proofs.observer.verdict_at.Goals as goal

pub returns-in-Some : goal.returns-in-Some
returns-in-Some c =
    told_by c.args.clocks.now c.args.now (verified_of c.args.checked.now) c.in-Some.mark c.clock_of.result c.pair_of-said.result c.in_window_of.result (cc c.if-not-checked.false)
    (rw c.args.checked.now.engine_is at c.in-Some.ensures) c.clock_of.ensures c.pair_of-said.ensures c.in_window_of.ensures

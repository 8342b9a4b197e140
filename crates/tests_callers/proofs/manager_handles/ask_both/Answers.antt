use Rattle.tests_callers.proofs.HandleTakes.{told_alike}
use Rattle.tests_callers.proofs.manager_handles.ask_both.Goals as goal

pub returns : goal.returns
returns c = λ same. told_alike c.args.one.now c.args.other.now c.args.engine.now c.pair.result c.pair-2.result same c.pair.ensures c.pair-2.ensures

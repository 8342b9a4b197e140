use Rattle.tests_callers.proofs.Told.{told}
use Rattle.tests_callers.proofs.managers.take_one.Goals as goal

pub returns-in_default : goal.returns-in_default
returns-in_default c = λ yes. c.takes_are_joined.ensures.take c.args.manager.now c.take.new.self c.args.now c.args.datagram.now _ c.in_default.ensures.takes

pub returns : goal.returns
returns c = λ yes.
    let t = told c.args.manager.now c.take.new.self c.args.now c.args.datagram.now _ c.if-is_memory.ensures c.in-Err.ensures.takes in
    c.takes_are_joined.ensures.take c.args.manager.now c.take.new.self c.args.now c.args.datagram.now t.0 t.1

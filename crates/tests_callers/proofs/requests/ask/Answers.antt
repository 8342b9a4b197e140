use Rattle.tests_callers.proofs.InTime.{given_in_time, refused_late}
use Rattle.tests_callers.proofs.requests.ask.Goals as goal

pub returns-in_default-take : goal.returns-in_default-take
returns-in_default-take c =
    given_in_time c.args.agent.now c.take.new.self c.args.at c.in-Ok.octets.items c.deref.result.now c.args.asking.now.engine.now _ _ _ _ c.deref.ensures.value c.requires.engine c.in_default-take.ensures.takes
    (c.in-Ok.ensures.accepted c.args.agent.now.users c.args.agent.now.boots c.args.agent.now.started c.args.at c.requires.shared c.requires.runs)

pub returns : goal.returns
returns c =
    refused_late c.args.agent.now c.take.new.self c.args.at c.in-Ok.octets.items c.deref.result.now c.args.asking.now.engine.now _ _ _ _ c.if-is_memory.ensures c.deref.ensures.value c.requires.engine c.in-Err.ensures.takes
    (c.in-Ok.ensures.accepted c.args.agent.now.users c.args.agent.now.boots c.args.agent.now.started c.args.at c.requires.shared c.requires.runs)

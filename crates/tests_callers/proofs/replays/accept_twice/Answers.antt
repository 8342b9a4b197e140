use Rattle.std.specs.Prelude.{Ok}
use Rattle.snmp_incoming.specs.Answers.{given_of}
use Rattle.tests_callers.proofs.Twice.{again, sealed}
use Rattle.tests_callers.proofs.replays.accept_twice.Goals as goal

pub returns : goal.returns
returns c = λ yes.
    let law = c.replay_bound.ensures c.args.agent.now.engine c.args.agent.now.boots c.args.agent.now.started c.args.at c.args.agent.now.boots c.args.agent.now.started c.args.later c.args.agent.now.users c.args.agent.now.users
    c.args.datagram.now _ _ c.in-Ok.ensures.takes.0 (again c.args.agent.now c.take.new.self c.args.later c.args.datagram.now (Ok (given_of c.in-Ok.first)) _ c.in-Ok.ensures.takes.1 c.in-Ok-take.ensures.takes.0) (sealed _ c.in-AuthPriv.is) in
    (law.2, law.1)

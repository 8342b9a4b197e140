use Rattle.std.proofs.Common.{Ok, rules}
use Rattle.std.specs.Prelude.{◌≢◌}
use Rattle.snmp_message.specs.declared.refusal.Refusal.TheVariants.{OutOfMemory}
use Rattle.snmp_handles.specs.declared.fault.CallFault.TheVariants.{Refused}
use Rattle.tests_callers.proofs.HandleTakes.{handle_keeps_pairs, took}
use Rattle.tests_callers.proofs.manager_handles.hand_one.Goals as goal

pub returns-in_default-clause-taken : goal.returns-in_default-clause-taken
returns-in_default-clause-taken c = λ yes. let takes = c.in_default.ensures.takes in
    c.takes_are_joined.ensures.take c.args.manager.now.manager c.take.new.self.manager c.args.now c.args.datagram.now (Ok takes.0) takes.5

pub returns-in_default-clause-unauthentic : goal.returns-in_default-clause-unauthentic
returns-in_default-clause-unauthentic c = λ un.
    handle_keeps_pairs c.takes_are_joined.ensures.take c.same_authentic_same_pairs.ensures c.args.manager.now c.take.new.self c.args.now c.args.datagram.now c.take.result un c.take.ensures.takes

pub returns-clause-taken : goal.returns-clause-taken
returns-clause-taken c = λ yes.
    let other : c.in-Err.fault ≢ Refused OutOfMemory = search rules in
    took c.takes_are_joined.ensures.take c.args.manager.now c.take.new.self c.args.now c.args.datagram.now c.in-Err.fault other c.in-Err.ensures.takes

pub returns-clause-unauthentic : goal.returns-clause-unauthentic
returns-clause-unauthentic c = λ un.
    handle_keeps_pairs c.takes_are_joined.ensures.take c.same_authentic_same_pairs.ensures c.args.manager.now c.take.new.self c.args.now c.args.datagram.now c.take.result un c.take.ensures.takes

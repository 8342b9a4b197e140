use Rattle.std.proofs.Common.{rules}
use Rattle.std.specs.Prelude.{◌≢◌}
use Rattle.snmp_message.specs.declared.refusal.Refusal.TheVariants.{OutOfMemory}
use Rattle.snmp_handles.specs.declared.fault.CallFault.TheVariants.{Refused}
use Rattle.tests_callers.proofs.HandleAnswers.{is_accepted, is_refused}
use Rattle.tests_callers.proofs.agent_handles.answer_by_handle.Goals as goal

pub returns-in_default-take : goal.returns-in_default-take
returns-in_default-take c = is_accepted c.args.agent.now c.respond.new.self c.args.manager.now c.args.now c.args.at c.args.reply.now c.args.out.now c.message.new.out 0 c.message.new.written c.in-Ok.ensures c.in-Ok-message.ensures c.take.new.self c.in_default-take.ensures.takes

pub returns : goal.returns
returns c =
    let other : c.in-Err.fault ≢ Refused OutOfMemory = search rules in
    is_refused c.args.agent.now c.respond.new.self c.args.manager.now c.args.now c.args.at c.args.reply.now c.args.out.now c.message.new.out 0 c.message.new.written c.in-Ok.ensures c.in-Ok-message.ensures c.take.new.self c.in-Err.fault other c.in-Err.ensures.takes

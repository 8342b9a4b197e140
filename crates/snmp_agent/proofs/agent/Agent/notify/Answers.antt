use Rattle.std.proofs.Common.{subst}
use Rattle.std.specs.Prelude.{IfSome}
use Rattle.snmp_outgoing.specs.declared.front.Front.{Front}
use Rattle.snmp_outgoing.specs.Bodies.{variables_in}
use Rattle.usm_core.specs.Answers.{seal_answer}
use Rattle.snmp_agent.specs.Sent.{notifying, Sends}
use Rattle.snmp_agent.proofs.agent.Agent.notify.Goals as goal

pub returns-clause-answer : goal.returns-clause-answer
returns-clause-answer c =
    subst (λ (f : Front). IfSome (seal_answer c.notify_of.result) (Sends c.args.self.now c.args.now (λ own. notifying c.args.self.now.engine own c.args.id c.args.user.now c.args.level f (variables_in c.args.body.now) c.args.salt)))
    c.front.ensures.is c.notify_of.ensures.answer

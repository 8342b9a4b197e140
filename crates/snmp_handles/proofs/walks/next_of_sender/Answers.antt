use Rattle.std.proofs.Common.{subst}
use Rattle.snmp_message.specs.Scoped.{Contexts, ScopedFront}
use Rattle.snmp_incoming.specs.Outcome.{Given}
use Rattle.snmp_agent.specs.Decides.{NextSeen, question_of}
use Rattle.snmp_handles.proofs.walks.next_of_sender.Goals as goal

pub returns : goal.returns
returns c =
    subst (λ (g : Given). (k : Contexts) → ScopedFront g.text k → NextSeen c.args.agent.now.tables (question_of g k) c.args.view c.args.from.now c.next_in_view.result)
    c.taken-taken.ensures c.next_in_view.ensures

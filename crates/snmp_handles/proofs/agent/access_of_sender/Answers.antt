use Rattle.std.proofs.Common.{subst}
use Rattle.snmp_message.specs.Scoped.{Contexts, ScopedFront}
use Rattle.snmp_incoming.specs.Outcome.{Given}
use Rattle.snmp_agent.specs.Decides.{question_of}
use Rattle.vacm_core.specs.Allowed.{Allowed}
use Rattle.snmp_handles.proofs.agent.access_of_sender.Goals as goal

pub returns : goal.returns
returns c =
    subst (λ (g : Given). (k : Contexts) → ScopedFront g.text k → Allowed c.args.agent.now.tables (question_of g k) c.args.view c.args.variable.now c.allows.result)
    c.taken-taken.ensures c.allows.ensures

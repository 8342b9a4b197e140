use Rattle.tests_callers.proofs.AgentHandles.{allowed_to}
use Rattle.tests_callers.proofs.agent_handles.take_and_allow.Goals as goal

pub returns-in-Ok-allows : goal.returns-in-Ok-allows
returns-in-Ok-allows c = allowed_to c.args.agent.now c.take.new.self c.args.now c.args.datagram.now c.args.view c.args.arcs.now c.in-Ok-allows.access c.in-Ok.ensures.takes c.in-Ok-allows.ensures

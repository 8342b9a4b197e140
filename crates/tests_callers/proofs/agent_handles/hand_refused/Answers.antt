use Rattle.std.proofs.Common.{◌∙◌, sym}
use Rattle.tests_callers.proofs.AgentHandles.{changes_counters}
use Rattle.tests_callers.proofs.agent_handles.hand_refused.Goals as goal

pub returns : goal.returns
returns c = λ yes. changes_counters c.args.agent.now c.take.new.self c.args.now c.args.datagram.now c.take.result (sym c.is_err.ensures.value ∙ yes) c.take.ensures.takes

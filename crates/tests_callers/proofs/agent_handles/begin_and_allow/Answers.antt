use Rattle.std.proofs.lemmas.Option.{IfSome_then}
use Rattle.tests_callers.proofs.AgentHandles.{by_rows}
use Rattle.tests_callers.proofs.agent_handles.begin_and_allow.Goals as goal

pub returns : goal.returns
returns c = IfSome_then c.take_and_allow-answer.result c.take_and_allow-answer.ensures (λ access. by_rows c.agents_decide_alike.ensures.defined c.args.begun.now c.in-Ok.agent c.args.now c.args.datagram.now c.args.view c.args.arcs.now access c.in-Ok.ensures)

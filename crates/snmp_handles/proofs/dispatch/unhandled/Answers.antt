use Rattle.std.proofs.Common.{subst}
use Rattle.snmp_incoming.specs.Outcome.{Given}
use Rattle.snmp_handles.specs.Dispatch.{IsHandled}
use Rattle.snmp_handles.proofs.dispatch.unhandled.Goals as goal

pub returns : goal.returns
returns c = subst (λ (g : Given). IsHandled c.args.agent.now g c.unhandled.result) c.taken-taken.ensures c.unhandled.ensures

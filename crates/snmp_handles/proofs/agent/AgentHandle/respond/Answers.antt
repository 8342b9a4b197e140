use Rattle.std.proofs.Common.{w64}
use Rattle.std.specs.Int.{to_be_bytes}
use Rattle.snmp_handles.proofs.Whole.{responds_held}
use Rattle.snmp_handles.proofs.agent.AgentHandle.respond.Goals as goal

pub returns : goal.returns
returns c = responds_held c.no_text_is_longer.ensures c.args.now c.args.status c.args.index c.args.list.now (to_be_bytes w64 c.args.salt) _ c.respond_within.result _ c.respond_within.ensures

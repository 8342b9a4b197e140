-- What a gateway's agent counts (RFC 3412, section 7.2; RFC 3413, section 3.2; RFC 3416, section 4.2.1).
--
-- `CountsReply`: by what becomes of a message. `CountsSent`: by what goes out.
use Rattle.std.specs.Prelude.{◌≡◌, ◌⊎◌, None, Some}
use Rattle.snmp_outgoing.specs.declared.counter.Counter.TheVariants.{SilentDrops}
use Rattle.snmp_agent.specs.Agent.{AgentState}
use Rattle.snmp_agent.specs.Counts.{one_more}
use Rattle.snmp_agent.specs.Dispatch.{agent_counted}
use Rattle.snmp_agent.specs.declared.unhandled.Unhandled.{Unhandled}
use Rattle.snmp_gate.specs.declared.gate.Sent.{Sent}
use Rattle.snmp_gate.specs.declared.gate.Sent.TheVariants as out
use Rattle.snmp_gate.specs.declared.reply.Reply.{Reply}
use Rattle.snmp_gate.specs.declared.reply.Reply.TheVariants as reply

-- one message more that no application answers
abbrev pub CountsUnhandled : AgentState → AgentState → Type 0
CountsUnhandled old new = (why : Unhandled) × (new ≡ agent_counted old why)

-- one request more to which even the Response without bindings is too long
abbrev pub CountsSilentDrop : AgentState → AgentState → Type 0
CountsSilentDrop old new = new ≡ record old { counts = one_more old.counts (Some SilentDrops) }

abbrev pub CountsReply : AgentState → AgentState → Reply → Type 0
CountsReply old new (reply.Responds says datagram) = new ≡ old
CountsReply old new (reply.Reports datagram) = CountsUnhandled old new
CountsReply old new reply.Nothing = (new ≡ old) ⊎ CountsUnhandled old new
CountsReply old new reply.SilentDrop = CountsSilentDrop old new
CountsReply old new (reply.Refused why) = new ≡ old

abbrev pub CountsSent : AgentState → AgentState → Sent → Type 0
CountsSent old new (out.ToClient number to (Some says) datagram ended) = new ≡ old
CountsSent old new (out.ToClient number to None datagram ended) = CountsUnhandled old new
CountsSent old new (out.Unanswered number to (Some why) ended) = new ≡ old
CountsSent old new (out.Unanswered number to None ended) =
    (new ≡ old) ⊎ (CountsUnhandled old new ⊎ CountsSilentDrop old new)
CountsSent old new _ = new ≡ old

-- Whether a Set is asked of a device at all: its Response must have room (RFC 3416, section 4.2.5).
--
-- `longest_response`: the Response to a Set with the front of its own bindings and the longest error-status and
-- error-index. `HasRoomForSet`: it has room for all of them within the limit of its client's answers.
use Rattle.std.specs.Prelude.{◌≡◌, ◌≤◌, ◌-◌, ℕ, pos, Bool, true, false, List, Some, length, min, replicate, take}
use Rattle.engine_clock.specs.Pairs.{pair_max}
use Rattle.snmp_ber.specs.declared.number.TheConstants.{MAX_INTEGER32}
use Rattle.snmp_message.specs.Scoped.{Contexts, ScopedFront}
use Rattle.snmp_msg.specs.Pdu.{PduParts, PduText}
use Rattle.snmp_msg.specs.Variables.{Variable, variables_of}
use Rattle.usm_core.specs.Sealed.{Sending}
use Rattle.snmp_incoming.specs.Outcome.{own_pair}
use Rattle.snmp_outgoing.specs.Fronts.{IsBeyond, IsWithin, room}
use Rattle.snmp_agent.specs.Agent.{AgentState}
use Rattle.snmp_agent.specs.Responses.{responding}
use Rattle.snmp_gate.specs.Limits.{IsLimit}
use Rattle.snmp_gate.specs.Messages.{question_in}
use Rattle.snmp_gate.specs.Question.{Question}
use Rattle.snmp_gate.specs.declared.limits.GateLimits.{GateLimits}
use Rattle.snmp_gate.specs.declared.set_answer.TheConstants.{INCONSISTENT_NAME}
use Rattle.snmp_gate.specs.declared.waiting_message.WaitingMessage.{WaitingMessage}

-- the Response of the agent at this moment, in seconds, to the message with these contexts and this PDU: with these
-- bindings, and as long a status and an index as a Set of these may have
abbrev pub longest_response : AgentState → ℕ → WaitingMessage → Contexts → PduParts → List Variable → List Variable
    → Sending
longest_response agent now m c p own vs = responding agent.engine (own_pair agent.boots agent.started now) m.kept c p
    INCONSISTENT_NAME (pos (min (length own) MAX_INTEGER32)) vs (replicate 8 0)

-- with some front of its bindings it is too long
abbrev pub HasNoRoom : AgentState → ℕ → WaitingMessage → Contexts → PduParts → List Variable → ℕ → Type 0
HasNoRoom agent now m c p own limit = now - agent.started ≤ pair_max → (n : ℕ)
    × IsBeyond agent.users (room limit) (longest_response agent now m c p own (take n own))

abbrev pub HasRoomWithin : AgentState → ℕ → WaitingMessage → Contexts → PduParts → List Variable → ℕ → Bool → Type 0
HasRoomWithin agent now m c p own limit true =
    IsWithin agent.users (room limit) (longest_response agent now m c p own own)
HasRoomWithin agent now m c p own limit false = HasNoRoom agent now m c p own limit

abbrev pub HasRoomForSet : AgentState → ℕ → WaitingMessage → GateLimits → Bool → Type 0
HasRoomForSet agent now m limits fits = (c : Contexts) (p : PduParts) (q : Question) → ScopedFront m.kept.text c
    → PduText c.pdu p → question_in m ≡ Some q → (limit : ℕ)
    × IsLimit limits m.kept.level m.kept.max_size m.size limit
    × HasRoomWithin agent now m c p (variables_of q.list) limit fits

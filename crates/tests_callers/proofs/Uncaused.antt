-- Reports that stand in no history: those for which there is no cause.
use Rattle.std.specs.Prelude.{◌≡◌, ◌≢◌, ℕ, suc, zero, Contains, List, [], ◌∷◌, None}
use Rattle.std.proofs.Common.{arith, inl, inr}
use Rattle.snmp_msg.specs.PduTypes.{IsResponse, pdu_tag}
use Rattle.snmp_msg.specs.declared.pdu_type.PduType.TheVariants.{SetRequest}
use Rattle.vacm_core.specs.Allowed.{HasContext}
use Rattle.vacm_core.specs.Tables.{Tables}
use Rattle.snmp_agent.specs.Dispatch.{IsCommand}
use Rattle.snmp_agent.specs.declared.unhandled.Unhandled.{Unhandled}
use Rattle.snmp_agent.specs.declared.unhandled.Unhandled.TheVariants as cause
use Rattle.snmp_gate.specs.Devices.{IsKnownContext, IsUnknownContext}
use Rattle.snmp_gate.specs.History.{Happening, IsCauseFor, WasGivenUp, accepted, given_up}
use Rattle.snmp_gate.specs.Limits.{MayBeLeft, no_room, silent, unreported, unsealed, unsealed_report}
use Rattle.snmp_gate.specs.Question.{Question}
use Rattle.snmp_gate.specs.Replies.{Answering}
use Rattle.snmp_gate.specs.Unanswered.{HasNoRoom}
use Rattle.snmp_gate.specs.declared.devices.Device.{Device}
use Rattle.snmp_gate.specs.declared.limits.GateLimits.{GateLimits}
use Rattle.snmp_gate.specs.declared.waiting_message.WaitingMessage.{WaitingMessage}
use Rattle.snmp_gate.proofs.Asked.{none_is_some}
use Rattle.snmp_gate.proofs.GivingUp.{pick}

-- no command is a Response or a Report
command_asks : (tag : ℕ) → IsCommand tag → IsResponse tag → ⊥
command_asks tag (inl (inl get)) (inl response) = omega (arith, get, response)
command_asks tag (inl (inl get)) (inr report) = omega (arith, get, report)
command_asks tag (inl (inr (inl next))) (inl response) = omega (arith, next, response)
command_asks tag (inl (inr (inl next))) (inr report) = omega (arith, next, report)
command_asks tag (inl (inr (inr bulk))) (inl response) = omega (arith, bulk, response)
command_asks tag (inl (inr (inr bulk))) (inr report) = omega (arith, bulk, report)
command_asks tag (inr set) (inl response) = omega (arith, set, response)
command_asks tag (inr set) (inr report) = omega (arith, set, report)

known_and_unknown : (devices : List Device) (context : List ℕ) → IsKnownContext devices context → IsUnknownContext devices context → ⊥
known_and_unknown devices context known unknown =
    let one = pick devices known.0 known.1.within in
    unknown known.0 one.0 known.1.within (known.1.named one.0)

-- a command in a context that is known has no cause, if it wasn't given up, or is a Set
pub no_cause : (engine : List ℕ) (tables : Tables) (devices : List Device) (before : List Happening) (n : ℕ) (q : Question) (why : Unhandled) → q.engine ≡ engine → IsCommand q.tag → HasContext tables.contexts q.context
    → IsKnownContext devices q.context → (WasGivenUp before n → q.tag ≢ pdu_tag SetRequest → ⊥) → IsCauseFor engine tables devices before n q why → ⊥
no_cause engine tables devices before n q why own command context device waits (inr up) = waits up.1 up.2
no_cause engine tables devices before n q cause.NoRequest own command context device waits (inl response) = command_asks q.tag command response
no_cause engine tables devices before n q cause.UnknownPduHandlers own command context device waits (inl none) = none (own, command)
no_cause engine tables devices before n q cause.UnknownContexts own command context device waits (inl (inl none)) = none context
no_cause engine tables devices before n q cause.UnknownContexts own command context device waits (inl (inr none)) = known_and_unknown devices q.context device none
no_cause engine tables devices before n q cause.UnavailableContexts own command context device waits (inl never) = never

-- what was accepted only wasn't given up
pub only_accepted : (n k now device : ℕ) (datagram : List ℕ) (message : WaitingMessage) → Contains (accepted n now datagram message ∷ []) (given_up k device) → ⊥
only_accepted n k now device datagram message (zero, within, is) = let wrong : accepted n now datagram message ≡ given_up k device = is in cc
only_accepted n k now device datagram message (suc i, within, is) = omega (arith, within)

-- a command that was accepted only, in a context that is known, isn't left, if it has room
pub left_by_none : (limits : GateLimits) (devices : List Device) (n now : ℕ) (datagram : List ℕ) (q : Question) (m : WaitingMessage) (by : Answering) → q.engine ≡ by.agent.engine → IsCommand q.tag → HasContext by.agent.tables.contexts q.context
    → IsKnownContext devices q.context → ((limit : ℕ) → ¬ HasNoRoom by limit m.kept) → MayBeLeft limits devices (accepted n now datagram m ∷ []) n q m by None → ⊥
left_by_none limits devices n now datagram q m by own command context device room (silent none up) = only_accepted n n now up.0.0 datagram m up.0.1
left_by_none limits devices n now datagram q m by own command context device room (unreported none limit cause is ends left) =
    no_cause by.agent.engine by.agent.tables devices (accepted n now datagram m ∷ []) n q cause own command context device (λ up read. only_accepted n n now up.0 datagram m up.1) ends
left_by_none limits devices n now datagram q m by own command context device room (no_room none limit is left) = room limit left
left_by_none limits devices n now datagram q m by own command context device room (unsealed refusal some left) = none_is_some refusal some
left_by_none limits devices n now datagram q m by own command context device room (unsealed_report refusal cause some ends left) = none_is_some refusal some

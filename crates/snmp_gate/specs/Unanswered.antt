-- Why a message isn't answered (RFC 3412, section 7.1; RFC 3414, section 3.1; RFC 3416, section 4.2).
--
-- `HasNoRoom`: even tooBig without bindings is longer than its answer may be. `IsUnsealed`: no Response can be sealed
-- for its user. `HasNoReport`, `IsUnsealedReport`: the same of a Report, which only a PDU of the Confirmed Class has.
-- `IsLeftBy`: what becomes so of a message, by how its request ends.
use Rattle.std.specs.Prelude.{◌≡◌, ◌≢◌, ◌⊎◌, ◌<◌, ⊤, ℕ, List, None, Option, Result, Ok, Err, length}
use Rattle.snmp_message.specs.Numbers.{in_table}
use Rattle.snmp_message.specs.Scoped.{Contexts, ScopedFront}
use Rattle.snmp_message.specs.declared.refusal.Refusal.{Refusal}
use Rattle.snmp_message.specs.declared.refusal.Refusal.TheVariants.{TooLarge}
use Rattle.snmp_msg.specs.Pdu.{PduParts, PduText}
use Rattle.snmp_incoming.specs.Outcome.{Given}
use Rattle.snmp_outgoing.specs.UpTo.{UpTo}
use Rattle.snmp_agent.specs.Agent.{AgentState}
use Rattle.snmp_agent.specs.Dispatch.{Refuses}
use Rattle.snmp_agent.specs.Responses.{responding}
use Rattle.snmp_agent.specs.Sent.{Sends}
use Rattle.snmp_agent.specs.declared.unhandled.Unhandled.{Unhandled}
use Rattle.snmp_gate.specs.Replies.{Answering, IsReported, Told, too_big}
use Rattle.snmp_gate.specs.declared.reply.Reply.{Reply}
use Rattle.snmp_gate.specs.declared.reply.Reply.TheVariants as reply
use Rattle.snmp_gate.specs.declared.work.RequestEnd.{RequestEnd}
use Rattle.snmp_gate.specs.declared.work.RequestEnd.TheVariants as ending

-- the answer to sending the Response to the message that tells this
abbrev pub IsAnswerOf : Answering → Given → Told → Result (List ℕ) Refusal → Type 0
IsAnswerOf a g told answer = (c : Contexts) (p : PduParts) → ScopedFront g.text c → PduText c.pdu p
    → Sends a.agent a.now (λ own. responding a.agent.engine own g c p told.status told.index told.variables a.salt)
    answer

-- each Response without bindings that says tooBig has more octets
abbrev pub HasNoRoom : Answering → ℕ → Given → Type 0
HasNoRoom a limit g = (c : Contexts) (p : PduParts) → ScopedFront g.text c → PduText c.pdu p
    → UpTo limit (Sends a.agent a.now
    (λ own. responding a.agent.engine own g c p too_big.status too_big.index too_big.variables a.salt)) (Err TooLarge)

-- a Response to it is refused for another reason than its length
abbrev pub IsUnsealed : Answering → Given → Refusal → Type 0
IsUnsealed a g refusal = (refusal ≢ TooLarge) × ((told : Told) × IsAnswerOf a g told (Err refusal))

-- the answer to refusing the message for this cause
abbrev pub IsAnswerFor : Answering → Given → Unhandled → Result (Option (List ℕ)) Refusal → Type 0
IsAnswerFor a g why answer = (c : Contexts) (p : PduParts) → ScopedFront g.text c → PduText c.pdu p
    → (after : AgentState) × Refuses a.agent a.now g p why a.salt answer after

-- no Report answers it, or the Report has more octets
abbrev pub HasNoReport : Answering → ℕ → Given → Unhandled → Type 0
HasNoReport a limit g why = IsAnswerFor a g why (Ok None)
    ⊎ ((report : List ℕ) × IsReported a g why report × (limit < length report))

abbrev pub IsUnsealedReport : Answering → Given → Unhandled → Refusal → Type 0
IsUnsealedReport a g why refusal = IsAnswerFor a g why (Err refusal)

-- ---- what becomes of the message

-- of one that has a Response
abbrev pub IsLeftAnswer : Answering → ℕ → Given → Reply → Type 0
IsLeftAnswer a limit g reply.Nothing = ⊥
IsLeftAnswer a limit g reply.SilentDrop = HasNoRoom a limit g
IsLeftAnswer a limit g (reply.Refused refusal) = IsUnsealed a g refusal
IsLeftAnswer a limit g _ = ⊤

-- of one whose Response was refused so
abbrev pub IsLeftWithout : Answering → ℕ → Given → Refusal → Reply → Type 0
IsLeftWithout a limit g refusal (reply.Refused other) =
    ((other ≡ refusal) × (refusal ≢ TooLarge) × (in_table refusal ≢ None)) ⊎ IsUnsealed a g other
IsLeftWithout a limit g refusal r = IsLeftAnswer a limit g r

-- of one that has a Report
abbrev pub IsLeftReport : Answering → ℕ → Given → Unhandled → Reply → Type 0
IsLeftReport a limit g why reply.Nothing = HasNoReport a limit g why
IsLeftReport a limit g why reply.SilentDrop = ⊥
IsLeftReport a limit g why (reply.Refused refusal) = IsUnsealedReport a g why refusal
IsLeftReport a limit g why _ = ⊤

abbrev pub IsLeftBy : Answering → ℕ → Given → RequestEnd → Reply → Type 0
IsLeftBy a limit g (ending.Unhandled why) r = IsLeftReport a limit g why r
IsLeftBy a limit g ending.Silent r = r ≡ reply.Nothing
IsLeftBy a limit g _ r = IsLeftAnswer a limit g r

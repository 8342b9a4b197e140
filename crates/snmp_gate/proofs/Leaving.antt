-- Messages that aren't answered.
use Rattle.std.specs.Prelude.{◌≡◌, ◌≢◌, ◌⊎◌, ℕ, List, None, Option, Some, true}
use Rattle.std.proofs.Common.{inl, inr, sym, ◌∙◌}
use Rattle.std.proofs.lemmas.Bool.{false≢true}
use Rattle.snmp_message.specs.declared.refusal.Refusal.{Refusal}
use Rattle.snmp_msg.specs.PduTypes.{pdu_tag}
use Rattle.snmp_msg.specs.declared.pdu_type.PduType.TheVariants.{SetRequest}
use Rattle.snmp_agent.specs.Agent.{AgentState}
use Rattle.snmp_agent.specs.declared.unhandled.Unhandled.{Unhandled}
use Rattle.snmp_gate.specs.History.{Happening, IsCauseFor}
use Rattle.snmp_gate.specs.Limits.{IsLimit, MayBeLeft, no_room, silent, unreported, unsealed, unsealed_report}
use Rattle.snmp_gate.specs.Question.{Question}
use Rattle.snmp_gate.specs.Replies.{Answering}
use Rattle.snmp_gate.specs.Sending.{LeavesBy}
use Rattle.snmp_gate.specs.Unanswered.{HasNoReport, HasNoRoom, IsLeftAnswer, IsLeftReport}
use Rattle.snmp_gate.specs.declared.devices.Device.{Device}
use Rattle.snmp_gate.specs.declared.limits.GateLimits.{GateLimits}
use Rattle.snmp_gate.specs.declared.reply.Reply.{Reply}
use Rattle.snmp_gate.specs.declared.reply.Reply.TheVariants as reply
use Rattle.snmp_gate.specs.declared.waiting_message.WaitingMessage.{WaitingMessage}
use Rattle.snmp_gate.specs.declared.work.RequestEnd.TheVariants as ending
use Rattle.snmp_gate.specs.declared.work.Work.{Work}
use Rattle.snmp_gate.specs.declared.work.Work.TheVariants.{Open, Ends}
use Rattle.snmp_gate.proofs.Asked.{none_is_some}
use Rattle.snmp_gate.proofs.Causing.{EndsNow}

-- nothing is sent of what becomes of a message, and for this reason
abbrev pub IsReplyWithout : Reply → Option Refusal → Type 0
IsReplyWithout (reply.Responds says datagram) why = ⊥
IsReplyWithout (reply.Reports datagram) why = ⊥
IsReplyWithout reply.Nothing why = why ≡ None
IsReplyWithout reply.SilentDrop why = why ≡ None
IsReplyWithout (reply.Refused refusal) why = why ≡ Some refusal

module _ (limits : GateLimits) (devices : List Device) (before : List Happening) (n : ℕ) (q : Question) (m : WaitingMessage) (by : Answering) (why : Option Refusal) where
  answer_left : (limit : ℕ) (r : Reply) → IsReplyWithout r why → IsLimit limits m.kept.level m.kept.max_size m.size limit → IsLeftAnswer by limit m.kept r → MayBeLeft limits devices before n q m by why
  answer_left limit (reply.Responds says datagram) none is left = absurd none
  answer_left limit (reply.Reports datagram) none is left = absurd none
  answer_left limit reply.Nothing none is left = absurd left
  answer_left limit reply.SilentDrop none is left = no_room none limit is left
  answer_left limit (reply.Refused refusal) none is left = unsealed refusal none left

  report_left : (limit : ℕ) (cause : Unhandled) (r : Reply) → IsReplyWithout r why → IsLimit limits m.kept.level m.kept.max_size m.size limit → IsCauseFor by.agent.engine by.agent.tables devices before n q cause → IsLeftReport by limit m.kept cause r
      → MayBeLeft limits devices before n q m by why
  report_left limit cause (reply.Responds says datagram) none is ends left = absurd none
  report_left limit cause (reply.Reports datagram) none is ends left = absurd none
  report_left limit cause reply.Nothing none is ends left = unreported none limit cause is ends left
  report_left limit cause reply.SilentDrop none is ends left = absurd left
  report_left limit cause (reply.Refused refusal) none is ends left = unsealed_report refusal cause none ends left

  silent_left : (r : Reply) → IsReplyWithout r why → r ≡ reply.Nothing → why ≡ None
  silent_left (reply.Responds says datagram) none is = absurd none
  silent_left (reply.Reports datagram) none is = absurd none
  silent_left reply.Nothing none is = none
  silent_left reply.SilentDrop none is = none
  silent_left (reply.Refused refusal) none is = let wrong : reply.Refused refusal ≡ reply.Nothing = is in cc

-- the first message of a request that ends by its cause
pub left_allowed : (limits : GateLimits) (devices : List Device) (before : List Happening) (n : ℕ) (q : Question) (m : WaitingMessage) (agent : AgentState) (seconds : ℕ) (salt : List ℕ) (why : Option Refusal) (w : Work) (r : Reply) → IsReplyWithout r why
    → LeavesBy limits agent seconds salt m w r → EndsNow limits agent.engine agent.tables devices before n q w → MayBeLeft limits devices before n q m (record { agent = agent; now = seconds; salt = salt }) why
left_allowed limits devices before n q m agent seconds salt why (Open o) r none left ends = absurd left
left_allowed limits devices before n q m agent seconds salt why (Ends (ending.Unhandled cause)) r none left ends =
    report_left limits devices before n q m (record { agent = agent; now = seconds; salt = salt }) why left.0 cause r none left.1 ends left.2
left_allowed limits devices before n q m agent seconds salt why (Ends ending.Silent) r none left ends = silent (silent_left limits devices before n q m (record { agent = agent; now = seconds; salt = salt }) why r none left.2) ends
left_allowed limits devices before n q m agent seconds salt why (Ends (ending.Columns whole)) r none left ends =
    answer_left limits devices before n q m (record { agent = agent; now = seconds; salt = salt }) why left.0 r none left.1 left.2
left_allowed limits devices before n q m agent seconds salt why (Ends (ending.Front d)) r none left ends =
    answer_left limits devices before n q m (record { agent = agent; now = seconds; salt = salt }) why left.0 r none left.1 left.2
left_allowed limits devices before n q m agent seconds salt why (Ends (ending.Own says)) r none left ends =
    answer_left limits devices before n q m (record { agent = agent; now = seconds; salt = salt }) why left.0 r none left.1 left.2
left_allowed limits devices before n q m agent seconds salt why (Ends (ending.RoundsUsedUp says)) r none left ends =
    answer_left limits devices before n q m (record { agent = agent; now = seconds; salt = salt }) why left.0 r none left.1 left.2
left_allowed limits devices before n q m agent seconds salt why (Ends (ending.Repeated says)) r none left ends =
    answer_left limits devices before n q m (record { agent = agent; now = seconds; salt = salt }) why left.0 r none left.1 left.2

-- where what is given up is reported, nothing but a Set is left in silence
pub reported : (limits : GateLimits) (devices : List Device) (before : List Happening) (n : ℕ) (q : Question) (m : WaitingMessage) (by : Answering) → q.tag ≢ pdu_tag SetRequest → limits.report_unreachable ≡ true → MayBeLeft limits devices before n q m by None
    → (limit : ℕ) × IsLimit limits m.kept.level m.kept.max_size m.size limit × (HasNoRoom by limit m.kept ⊎ ((cause : Unhandled) × IsCauseFor by.agent.engine by.agent.tables devices before n q cause × HasNoReport by limit m.kept cause))
reported limits devices before n q m by no_set on (silent none (up, inl off)) = absurd (false≢true (sym off ∙ on))
reported limits devices before n q m by no_set on (silent none (up, inr set)) = absurd (no_set set)
reported limits devices before n q m by no_set on (unreported none limit cause is ends left) = (limit, is, inr (cause, ends, left))
reported limits devices before n q m by no_set on (no_room none limit is left) = (limit, is, inl left)
reported limits devices before n q m by no_set on (unsealed refusal some left) = absurd (none_is_some refusal some)
reported limits devices before n q m by no_set on (unsealed_report refusal cause some ends left) = absurd (none_is_some refusal some)

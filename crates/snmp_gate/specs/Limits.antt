-- What the history of a gateway keeps to.
--
-- `AtMost`: at most so many requests are of a kind. `IsAskedFor`: a device is asked for a request, and didn't answer.
-- `asks_since`: how often. `KeepsTo`: the bounds of what waits, and of what a device is asked at once. `IsLimit`: how
-- long an answer may be. `MayBeLeft`: why a message has no answer. `IsAllowedBy`: the bounds of how often a device is
-- asked, and of an answer's octets. `AlwaysKeepsTo`: each part of a history keeps to them. `WaitInTime`: no message
-- waits for long. Moments are milliseconds.
use Rattle.std.specs.Prelude.{◌≡◌, ◌≢◌, ◌⊎◌, ◌+◌, ◌*◌, ◌<◌, ◌≤◌, ⊤, ℕ, max, List, [], ◌∷◌, All}
use Rattle.std.specs.Prelude.{cond, false, nat_eq}
use Rattle.std.specs.Prelude.{AllPairs, Contains, None, Option, Some, length}
use Rattle.std.specs.List.{HoldsAt}
use Rattle.snmp_ber.specs.declared.level.Level.{Level}
use Rattle.snmp_ber.specs.declared.level.Level.TheVariants.{NoAuthNoPriv}
use Rattle.snmp_message.specs.declared.message.TheConstants.{LARGEST}
use Rattle.snmp_message.specs.declared.refusal.Refusal.{Refusal}
use Rattle.snmp_msg.specs.PduTypes.{pdu_tag}
use Rattle.snmp_msg.specs.declared.pdu_type.PduType.TheVariants.{SetRequest}
use Rattle.snmp_agent.specs.declared.unhandled.Unhandled.{Unhandled}
use Rattle.snmp_gate.specs.History.{Happening, IsCauseFor, OpenAsk, WasGivenUp, accepted, answered, asked, given_up}
use Rattle.snmp_gate.specs.History.{open_ask, sent, unanswered, waiting_in}
use Rattle.snmp_gate.specs.Messages.{question_in}
use Rattle.snmp_gate.specs.Question.{Question}
use Rattle.snmp_gate.specs.Replies.{Answering}
use Rattle.snmp_gate.specs.Unanswered.{HasNoReport, HasNoRoom, IsUnsealed, IsUnsealedReport}
use Rattle.snmp_gate.specs.declared.devices.Device.{Device}
use Rattle.snmp_gate.specs.declared.limits.GateLimits.{GateLimits}
use Rattle.snmp_gate.specs.declared.reply.Reply.{Reply}
use Rattle.snmp_gate.specs.declared.reply.Reply.TheVariants as reply
use Rattle.snmp_gate.specs.declared.reply.TheConstants.{SHORT_ANSWER}
use Rattle.snmp_gate.specs.declared.waiting_message.WaitingMessage.{WaitingMessage}

-- of the numbers of requests at most so many are of the kind: there are no more in any list of different ones
abbrev pub AtMost : ℕ → (ℕ → Type 0) → Type 0
AtMost most Is = (ns : List ℕ) → AllPairs (λ (a b : ℕ). a ≢ b) ns → All Is ns → length ns ≤ most

-- the device is asked for the request of this number, and didn't answer
abbrev pub IsAskedFor : List Happening → ℕ → ℕ → Type 0
IsAskedFor before device n = (ask : OpenAsk) × (open_ask n before ≡ Some ask) × (ask.device ≡ device)

-- how often a device was asked for the request of this number since it answered
abbrev pub asks_since : ℕ → List Happening → ℕ
asks_since n [] = 0
asks_since n (asked number device id request datagram ∷ before) =
    cond (nat_eq n number) (1 + asks_since n before) (asks_since n before)
asks_since n (answered number device answer datagram ∷ before) = cond (nat_eq n number) 0 (asks_since n before)
asks_since n (accepted number now datagram message ∷ before) = asks_since n before
asks_since n (sent number message by answer ∷ before) = asks_since n before
asks_since n (unanswered number message by why ∷ before) = asks_since n before
asks_since n (given_up number device ∷ before) = asks_since n before

-- nothing shows that the message comes from its sender, and no long answers are on
abbrev pub MustBeShort : GateLimits → Level → Type 0
MustBeShort limits level = (limits.long_answers ≡ false) × (level ≡ NoAuthNoPriv)

-- The most octets of the answer to a message at this level, of this msgMaxSize (RFC 3412, section 6.3) and of so many
-- octets: what its sender takes, and a datagram of UDP has; and where it must be short, SHORT_ANSWER octets, or twice
-- the message's.
pub record IsLimit (limits : GateLimits) (level : Level) (max_size size limit : ℕ) : Type 0 where
  pub taken : limit ≤ max_size
  pub datagram : limit ≤ LARGEST
  pub short : MustBeShort limits level → limit ≤ max SHORT_ANSWER (2 * size)
  pub is : (limit ≡ max_size) ⊎ ((limit ≡ LARGEST)
      ⊎ (MustBeShort limits level × (limit ≡ max SHORT_ANSWER (2 * size))))

-- the answer to the message has no more octets
pub record IsShortFor (limits : GateLimits) (m : WaitingMessage) (octets : List ℕ) : Type 0 where
  pub taken : length octets ≤ m.kept.max_size
  pub datagram : length octets ≤ LARGEST
  pub short : MustBeShort limits m.kept.level → length octets ≤ max SHORT_ANSWER (2 * m.size)

abbrev pub IsShortReplyFor : GateLimits → WaitingMessage → Reply → Type 0
IsShortReplyFor limits m (reply.Responds says datagram) = IsShortFor limits m datagram.items
IsShortReplyFor limits m (reply.Reports datagram) = IsShortFor limits m datagram.items
IsShortReplyFor limits m _ = ⊤

-- what is sent has at most so many octets
abbrev pub IsShortReply : ℕ → Reply → Type 0
IsShortReply limit (reply.Responds says datagram) = length datagram.items ≤ limit
IsShortReply limit (reply.Reports datagram) = length datagram.items ≤ limit
IsShortReply limit _ = ⊤

-- the request was given up, and nothing is said of it: it is a Set, which its device may have done, or nothing is
-- reported of devices that don't answer
abbrev pub IsSilent : GateLimits → List Happening → ℕ → Question → Type 0
IsSilent limits before n q = WasGivenUp before n
    × ((limits.report_unreachable ≡ false) ⊎ (q.tag ≡ pdu_tag SetRequest))

-- why the message isn't answered; with a reason if it can't be for its user
pub data MayBeLeft (limits : GateLimits) (devices : List Device) (before : List Happening) (n : ℕ) (q : Question)
    (m : WaitingMessage) (a : Answering) (why : Option Refusal) : Type 0 where
  silent : why ≡ None → IsSilent limits before n q → MayBeLeft limits devices before n q m a why
  unreported : why ≡ None → (limit : ℕ) (cause : Unhandled) → IsLimit limits m.kept.level m.kept.max_size m.size limit
      → IsCauseFor a.agent.engine a.agent.tables devices before n q cause → HasNoReport a limit m.kept cause
      → MayBeLeft limits devices before n q m a why
  no_room : why ≡ None → (limit : ℕ) → IsLimit limits m.kept.level m.kept.max_size m.size limit
      → HasNoRoom a limit m.kept → MayBeLeft limits devices before n q m a why
  unsealed : (refusal : Refusal) → why ≡ Some refusal → IsUnsealed a m.kept refusal
      → MayBeLeft limits devices before n q m a why
  unsealed_report : (refusal : Refusal) (cause : Unhandled) → why ≡ Some refusal
      → IsCauseFor a.agent.engine a.agent.tables devices before n q cause
      → IsUnsealedReport a m.kept cause refusal → MayBeLeft limits devices before n q m a why

-- a device that doesn't answer is asked for a request as often as it may be, or once; an answer is as short as it must
-- be, and the size that is kept of a message is that of its datagram; and a message has no answer only for a cause
abbrev pub IsAllowedBy : GateLimits → List Device → List Happening → Happening → Type 0
IsAllowedBy limits devices before (asked number device id request datagram) =
    asks_since number before < max 1 limits.retries.tries
IsAllowedBy limits devices before (sent number message by answer) = IsShortFor limits message answer.datagram
IsAllowedBy limits devices before (accepted number now datagram message) = message.size ≡ length datagram
IsAllowedBy limits devices before (unanswered number message by why) = (q : Question)
    → question_in message ≡ Some q → MayBeLeft limits devices before number q message by why
IsAllowedBy limits devices before _ = ⊤

-- messages wait for the answers of at most as many requests as may wait, and of each request as many messages as may
-- join, or one; each device is asked for at most as many requests at once as it may be
pub record KeepsTo (limits : GateLimits) (devices : List Device) (before : List Happening) : Type 0 where
  pub requests : AtMost limits.waiting (λ n. 0 < length (waiting_in n before))
  pub messages : (n : ℕ) → length (waiting_in n before) ≤ max 1 limits.joined
  pub asked : (device : ℕ) → device < length devices
      → HoldsAt (λ (d : Device). AtMost d.at_once (IsAskedFor before device)) devices device

abbrev pub AlwaysKeepsTo : GateLimits → List Device → List Happening → Type 0
AlwaysKeepsTo limits devices [] = ⊤
AlwaysKeepsTo limits devices (now ∷ before) = KeepsTo limits devices (now ∷ before)
    × IsAllowedBy limits devices before now × AlwaysKeepsTo limits devices before

-- each message that waits at this moment came less than `last`, and as long as all tries take, before
abbrev pub WaitInTime : GateLimits → ℕ → List Happening → Type 0
WaitInTime limits now before = (n at : ℕ) (datagram : List ℕ) (m : WaitingMessage)
    → Contains before (accepted n at datagram m) → 0 < length (waiting_in n before)
    → now < at + limits.retries.last + max 1 limits.retries.tries * limits.retries.again

-- What an agent sends besides reports: responses and notifications, each as what is handed in to be sealed,
-- and the answer to sending it.
--
-- `Sends`. The answer of `respond` and `notify`: first that the agent's time has run out, then what `Seals`
-- says of the `response` or the `notification` under its boots and time.
use Rattle.snmp_message.specs.declared.refusal.Refusal.{Refusal}
use Rattle.std.specs.Prelude.{◌<◌, ◌≤◌, ◌-◌, ℕ, false, List, Result}
use Rattle.snmp_ber.specs.declared.level.Level.{Level}
use Rattle.snmp_msg.specs.Variables.{Variable}
use Rattle.engine_clock.specs.Pairs.{BootsAndTime, pair_max}
use Rattle.usm_core.specs.Table.{Needs}
use Rattle.usm_core.specs.Sealed.{Sending, Seals, IsSealable}
use Rattle.engine_clock.specs.Marks.{Marks}
use Rattle.usm_users.specs.User.{User}
use Rattle.usm_core.specs.Verified.{manager}
use Rattle.snmp_incoming.specs.Outcome.{as_manager, own_pair}
use Rattle.snmp_outgoing.specs.declared.front.Front.{Front}
use Rattle.snmp_outgoing.specs.Bodies.{pdu_after}
use Rattle.snmp_outgoing.specs.Accepts.{IsTakenInTime}
use Rattle.snmp_outgoing.specs.Speaks.{Speech, spoken, spoken_contexts, HasSameUser}
use Rattle.snmp_outgoing.specs.Sends.{CanSend, RefusesSender}
use Rattle.snmp_outgoing.specs.Fronts.{FrontText, SealsFront}
use Rattle.snmp_message.specs.declared.refusal.Refusal.TheVariants.{ClockExhausted}
use Rattle.snmp_agent.specs.Agent.{AgentState}

-- a message with this front and these bindings from the engine that isn't answered, as an SNMPv2-Trap is (RFC
-- 3414, section 3.1): the engine is authoritative
abbrev pub notification : List ℕ → BootsAndTime → ℕ → List ℕ → Level → Front → List Variable → List ℕ → Speech
notification engine own id user level f vs salt = record {
  level = level;
  id = id;
  reportable = false;
  engine = engine;
  pair = own;
  user = user;
  salt = salt;
  context_engine = f.context_engine.now;
  context_name = f.context_name.now;
  pdu = pdu_after f vs;
}

abbrev pub notifying : List ℕ → BootsAndTime → ℕ → List ℕ → Level → Front → List Variable → List ℕ → Sending
notifying engine own id user level f vs salt = spoken (notification engine own id user level f vs salt)

-- the answer to sending what an agent makes of its boots and time: first that its clock has run out
abbrev pub Sends : AgentState → ℕ → (BootsAndTime → Sending) → Result (List ℕ) Refusal → Type 0
Sends agent now message = Needs (now - agent.started ≤ pair_max) ClockExhausted
    (λ _. Seals agent.users (message (own_pair agent.boots agent.started now)))

-- None of the refusals before the text applies.
pub record CanBeSent (agent : AgentState) (now : ℕ) (message : BootsAndTime → Sending) : Type 0 where
  pub runs : now - agent.started ≤ pair_max
  pub sealable : IsSealable agent.users (message (own_pair agent.boots agent.started now))

-- the answer to sending the longest front of variables that has room, of a message that the agent makes of
-- its boots and time and of variables: first that its clock has run out
abbrev pub SendsFront : AgentState → ℕ → ℕ → (BootsAndTime → List Variable → Sending) → List Variable
    → Result FrontText Refusal → Type 0
SendsFront agent now limit message vs = Needs (now - agent.started ≤ pair_max) ClockExhausted
    (λ _. SealsFront agent.users limit (message (own_pair agent.boots agent.started now)) vs)

-- Messages of this user at this level can go out now.
abbrev pub CanSendAt : AgentState → ℕ → List ℕ → Level → Type 0
CanSendAt agent now name level = (now - agent.started ≤ pair_max) × CanSend agent.users name level

-- why none of them can: first that the agent's clock has run out
abbrev pub RefusesSenderAt : AgentState → ℕ → List ℕ → Level → Refusal → Type 0
RefusesSenderAt agent now name level ClockExhausted = pair_max < now - agent.started
RefusesSenderAt agent now name level refusal = (now - agent.started ≤ pair_max)
    × RefusesSender agent.users name level refusal

-- What is sent is accepted by each manager that has the sender's user, whatever it holds, exactly where the
-- pair is in the window of what it holds once it has learned the pair; at noAuthNoPriv always. What it gives
-- on is what was said.
abbrev pub IsAcceptedByManagers : List User → Speech → List ℕ → Type 0
IsAcceptedByManagers senders s text =
    (users : List User) (held : Marks) (now : ℕ) → HasSameUser manager senders users s.user s.level
    → IsTakenInTime (as_manager held) users now text (spoken s) (spoken_contexts s) s.pdu

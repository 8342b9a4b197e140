-- What happened to notifications, and what the laws say of it.
--
-- A history is a list of what happened, the latest first. `left_in`: the receivers to which a notification is still to
-- be sent. `IsLawful`: the laws, of what happens after a history. `AreLawful`: each part of a history is lawful after
-- the parts before it. `chosen_for`, `dealt_with`: the receivers of a notification, and those to which it was sent, or
-- wasn't and won't be.
use Rattle.std.specs.Prelude.{◌≡◌, ◌≢◌, ◌<◌, ⊤, ℕ, cond, nat_eq, List, [], ◌∷◌, ◌++◌, drop, All, Contains, Result}
use Rattle.std.specs.Prelude.{Err, Ok}
use Rattle.snmp_message.specs.declared.refusal.Refusal.{Refusal}
use Rattle.snmp_agent.specs.Agent.{AgentState}
use Rattle.snmp_gate.specs.declared.devices.Device.{Device}
use Rattle.snmp_forward.specs.Informs.{IsInformOf}
use Rattle.snmp_forward.specs.Sending.{AreChosen, MayBeSent, SealsTrap}
use Rattle.snmp_forward.specs.declared.inform.Inform.{Inform}
use Rattle.snmp_forward.specs.declared.receivers.NotifyType.TheVariants as notify
use Rattle.snmp_forward.specs.declared.receivers.Receiver.{Receiver}
use Rattle.snmp_forward.specs.declared.sealing.Sealing.{Sealing}

pub data Happening : Type 0 where
  -- a notification comes from a device, and is to be sent to these receivers
  taken : (number device : ℕ) (datagram to : List ℕ) → Happening
  -- the notification of this number is sent to a receiver
  sent : (number receiver : ℕ) (by : Sealing) (datagram : List ℕ) → Happening
  -- it isn't sent to a receiver: it can't be sealed
  unsent : (number receiver : ℕ) (by : Sealing) (why : Refusal) → Happening
  -- it becomes this Inform for a receiver
  as_inform : (number : ℕ) (inform : Inform) → Happening

-- the notification to which it happens
abbrev pub number_of : Happening → ℕ
number_of (taken number device datagram to) = number
number_of (sent number receiver by datagram) = number
number_of (unsent number receiver by why) = number
number_of (as_inform number inform) = number

-- the receivers to which the notification of this number is still to be sent
abbrev pub left_in : ℕ → List Happening → List ℕ
left_in n [] = []
left_in n (taken number device datagram to ∷ before) = cond (nat_eq n number) to (left_in n before)
left_in n (sent number receiver by datagram ∷ before) =
    cond (nat_eq n number) (drop 1 (left_in n before)) (left_in n before)
left_in n (unsent number receiver by why ∷ before) =
    cond (nat_eq n number) (drop 1 (left_in n before)) (left_in n before)
left_in n (as_inform number inform ∷ before) =
    cond (nat_eq n number) (drop 1 (left_in n before)) (left_in n before)

-- ---- the laws

-- a notification has a number of its own, and goes to each receiver that may be sent it, and to no other
pub record IsTaken (agent : AgentState) (devices : List Device) (receivers : List Receiver) (before : List Happening)
    (number device : ℕ) (datagram to : List ℕ) : Type 0 where
  pub own : All (λ (e : Happening). number_of e < number) before
  pub some : to ≢ []
  pub chosen : AreChosen agent.tables devices receivers device datagram to

-- of the receivers to which the notification is still to be sent, this one is the first
abbrev pub IsNext : List Happening → ℕ → ℕ → Type 0
IsNext before number receiver = (others : List ℕ) × (left_in number before ≡ receiver ∷ others)

-- it is the receiver's turn, and it may be sent the notification that came
pub record IsTurn (agent : AgentState) (devices : List Device) (receivers : List Receiver) (before : List Happening)
    (number receiver : ℕ) : Type 0 where
  pub next : IsNext before number receiver
  pub device : ℕ
  pub datagram : List ℕ
  pub to : List ℕ
  pub is_taken : Contains before (taken number device datagram to)
  pub may : MayBeSent agent.tables devices receivers device datagram receiver

-- what comes of sealing it for the receiver's user, at its level: the receiver is notified by Traps
pub record ComesOf (agent : AgentState) (devices : List Device) (receivers : List Receiver)
    (before : List Happening) (number receiver : ℕ) (by : Sealing) (answer : Result (List ℕ) Refusal) : Type 0 where
  pub turn : IsTurn agent devices receivers before number receiver
  pub type_is : turn.may.to.notify_type ≡ notify.Trap
  pub seals : SealsTrap agent by turn.may.to turn.may.from.context.items turn.may.pdu answer

-- it is the receiver's turn, which is notified by Informs, and the Inform is that of the notification
pub record TurnsInto (agent : AgentState) (devices : List Device) (receivers : List Receiver)
    (before : List Happening) (number : ℕ) (inform : Inform) : Type 0 where
  pub turn : IsTurn agent devices receivers before number inform.receiver
  pub type_is : turn.may.to.notify_type ≡ notify.Inform
  pub inform_is : IsInformOf inform.receiver turn.may.to turn.may.from.context.items turn.datagram inform

abbrev pub IsLawful : AgentState → List Device → List Receiver → List Happening → Happening → Type 0
IsLawful agent devices receivers before (taken number device datagram to) =
    IsTaken agent devices receivers before number device datagram to
IsLawful agent devices receivers before (sent number receiver by datagram) =
    ComesOf agent devices receivers before number receiver by (Ok datagram)
IsLawful agent devices receivers before (unsent number receiver by why) =
    ComesOf agent devices receivers before number receiver by (Err why)
IsLawful agent devices receivers before (as_inform number inform) =
    TurnsInto agent devices receivers before number inform

abbrev pub AreLawful : AgentState → List Device → List Receiver → List Happening → Type 0
AreLawful agent devices receivers [] = ⊤
AreLawful agent devices receivers (now ∷ before) = IsLawful agent devices receivers before now
    × AreLawful agent devices receivers before

-- ---- the receivers of one notification

-- those to which it is to be sent
abbrev pub chosen_for : ℕ → List Happening → List ℕ
chosen_for n [] = []
chosen_for n (taken number device datagram to ∷ before) = cond (nat_eq n number) to (chosen_for n before)
chosen_for n (sent number receiver by datagram ∷ before) = chosen_for n before
chosen_for n (unsent number receiver by why ∷ before) = chosen_for n before
chosen_for n (as_inform number inform ∷ before) = chosen_for n before

-- those to which it was sent, as a Trap or as an Inform, or wasn't and won't be
abbrev pub dealt_with : ℕ → List Happening → List ℕ
dealt_with n [] = []
dealt_with n (taken number device datagram to ∷ before) = dealt_with n before
dealt_with n (sent number receiver by datagram ∷ before) =
    cond (nat_eq n number) (dealt_with n before ++ receiver ∷ []) (dealt_with n before)
dealt_with n (unsent number receiver by why ∷ before) =
    cond (nat_eq n number) (dealt_with n before ++ receiver ∷ []) (dealt_with n before)
dealt_with n (as_inform number inform ∷ before) =
    cond (nat_eq n number) (dealt_with n before ++ inform.receiver ∷ []) (dealt_with n before)

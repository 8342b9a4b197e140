-- What a forwarder gets for Informs and sends for them, call by call.
--
-- `InformEvent`: a call and its answer. `IsInformRun`: the events of Informs, the latest first. `IsInformHistoryOf`: a
-- history of these events that is lawful. `times_ended`: how often an Inform ended. `IsOwnResponse`: an accepted
-- message is the Response to the very Inform. `IsMediatedAsk`: the receiver of an Inform may be notified of all of it.
use Rattle.std.specs.Prelude.{◌≡◌, ◌+◌, ℕ, cond, nat_eq, List, [], ◌∷◌, ◌++◌, Contains, None}
use Rattle.std.specs.Prelude.{Option, Some}
use Rattle.snmp_gate.specs.declared.devices.Device.{Device}
use Rattle.snmp_manager.specs.Views.{Held}
use Rattle.snmp_manager.specs.declared.pending.Pending.{Pending}
use Rattle.vacm_core.specs.Tables.{Tables}
use Rattle.snmp_requests.specs.declared.device_request.Heard.TheVariants.{Response}
use Rattle.snmp_requests.specs.declared.device_request.NextStep.{NextStep}
use Rattle.snmp_requests.specs.declared.device_request.NextStep.TheVariants as step
use Rattle.snmp_requests.specs.declared.device_request.SentMessage.TheVariants.{Request}
use Rattle.snmp_forward.specs.InformHistory.{Accepted, AreInformsLawful, InformHappening, InformSetting, IsHeardIn}
use Rattle.snmp_forward.specs.InformHistory.{answers, asked_with, asks, begins, ends, is_end, known_of}
use Rattle.snmp_forward.specs.InformStanding.{AreAsBefore, InformHappens, InformSendHappens, InformsStand, InformsStay}
use Rattle.snmp_forward.specs.InformStanding.{IsFull, ReceiverHappens, setting_of}
use Rattle.snmp_forward.specs.Informs.{IsMediated, SendsInform}
use Rattle.snmp_forward.specs.declared.inform.Inform.{Inform}
use Rattle.snmp_forward.specs.declared.informs.InformSent.{InformSent}
use Rattle.snmp_forward.specs.declared.informs.InformSent.TheVariants.{ToReceiver}
use Rattle.snmp_forward.specs.declared.informs.Informs.{Informs}
use Rattle.snmp_forward.specs.declared.informs.ReceiverTaken.{ReceiverTaken}
use Rattle.snmp_forward.specs.declared.informs.ReceiverTaken.TheVariants.{Acknowledged}
use Rattle.snmp_forward.specs.declared.receivers.Receiver.{Receiver}
use Rattle.snmp_forward.specs.declared.sealing.Sealing.{Sealing}

-- moments are milliseconds
pub data InformEvent : Type 0 where
  -- `add` takes an Inform, which has this number
  comes : (inform : Inform) (number : ℕ) → InformEvent
  -- `take` takes a datagram of the receiver of this number
  receives : (now receiver : ℕ) (datagram : List ℕ) (becomes : ReceiverTaken) → InformEvent
  -- `next` says what goes out
  goes_out : (now : ℕ) (salt : List ℕ) (first_id : ℕ) (what : InformSent) → InformEvent
  -- one of these calls finds no memory
  finds_no_memory : InformEvent

-- what the calls promise of what was before and what it becomes
abbrev pub AddsOne : Informs → Inform → ℕ → Informs → Type 0
AddsOne old inform number new = InformsStay old new
    × ((before : List InformHappening) → InformsStand before old → InformHappens old before (begins number inform) new)

-- it begins to wait, with this number, if there is room for it
abbrev pub AddsIfRoom : Informs → Inform → Option ℕ → Informs → Type 0
AddsIfRoom old inform None new = IsFull old × (new ≡ old)
AddsIfRoom old inform (Some number) new = AddsOne old inform number new

abbrev pub TakesOne : Informs → ℕ → ℕ → List ℕ → ReceiverTaken → Informs → Type 0
TakesOne old now receiver datagram becomes new = InformsStay old new
    × ((before : List InformHappening) → InformsStand before old
    → ReceiverHappens old before now receiver datagram becomes new)

abbrev pub SendsNext : Informs → ℕ → List ℕ → ℕ → InformSent → Informs → Type 0
SendsNext old now salt first_id what new = InformsStay old new
    × ((before : List InformHappening) → InformsStand before old
    → InformSendHappens old before now salt first_id what new)

-- the events lead from one to the other
abbrev pub IsInformRun : Informs → List InformEvent → Informs → Type 0
IsInformRun first [] last = last ≡ first
IsInformRun first (comes inform number ∷ before) last =
    (middle : Informs) × IsInformRun first before middle × AddsOne middle inform number last
IsInformRun first (receives now receiver datagram becomes ∷ before) last =
    (middle : Informs) × IsInformRun first before middle × TakesOne middle now receiver datagram becomes last
IsInformRun first (goes_out now salt first_id what ∷ before) last =
    (middle : Informs) × IsInformRun first before middle × SendsNext middle now salt first_id what last
IsInformRun first (finds_no_memory ∷ before) last =
    (middle : Informs) × IsInformRun first before middle × AreAsBefore middle last

-- ---- what came, and what went out

-- the Informs that began to wait
abbrev pub informs_of : List InformEvent → List Inform
informs_of [] = []
informs_of (comes inform number ∷ before) = inform ∷ informs_of before
informs_of (receives now receiver datagram becomes ∷ before) = informs_of before
informs_of (goes_out now salt first_id what ∷ before) = informs_of before
informs_of (finds_no_memory ∷ before) = informs_of before

-- the datagrams to receivers, by their numbers
abbrev pub sent_by : InformSent → List (ℕ × List ℕ)
sent_by (ToReceiver number receiver message datagram) = (receiver, datagram.items) ∷ []
sent_by _ = []

abbrev pub went_out : List InformEvent → List (ℕ × List ℕ)
went_out [] = []
went_out (comes inform number ∷ before) = went_out before
went_out (receives now receiver datagram becomes ∷ before) = went_out before
went_out (goes_out now salt first_id what ∷ before) = sent_by what ++ went_out before
went_out (finds_no_memory ∷ before) = went_out before

-- the numbers of the Informs that were acknowledged
abbrev pub acknowledged_by : ReceiverTaken → List ℕ
acknowledged_by (Acknowledged number) = number ∷ []
acknowledged_by _ = []

abbrev pub acknowledged : List InformEvent → List ℕ
acknowledged [] = []
acknowledged (comes inform number ∷ before) = acknowledged before
acknowledged (receives now receiver datagram becomes ∷ before) = acknowledged_by becomes ++ acknowledged before
acknowledged (goes_out now salt first_id what ∷ before) = acknowledged before
acknowledged (finds_no_memory ∷ before) = acknowledged before

-- the same, of a history
abbrev pub begun_in : List InformHappening → List Inform
begun_in [] = []
begun_in (begins number inform ∷ before) = inform ∷ begun_in before
begun_in (asks number receiver now message held by pending datagram ∷ before) = begun_in before
begun_in (answers number what heard ∷ before) = begun_in before
begun_in (ends number receiver now why ∷ before) = begun_in before

abbrev pub asked_in : List InformHappening → List (ℕ × List ℕ)
asked_in [] = []
asked_in (begins number inform ∷ before) = asked_in before
asked_in (asks number receiver now message held by pending datagram ∷ before) = (receiver, datagram) ∷ asked_in before
asked_in (answers number what heard ∷ before) = asked_in before
asked_in (ends number receiver now why ∷ before) = asked_in before

abbrev pub answered_by : ℕ → NextStep → List ℕ
answered_by number step.Answered = number ∷ []
answered_by number next = []

abbrev pub answered_in : List InformHappening → List ℕ
answered_in [] = []
answered_in (begins number inform ∷ before) = answered_in before
answered_in (asks number receiver now message held by pending datagram ∷ before) = answered_in before
answered_in (answers number what heard ∷ before) = answered_by number heard.turn ++ answered_in before
answered_in (ends number receiver now why ∷ before) = answered_in before

-- what came, went out and was acknowledged is what happened, and all of it is lawful
pub record IsInformHistoryOf (f : Informs) (events : List InformEvent) (history : List InformHappening) : Type 0 where
  pub lawful : AreInformsLawful (setting_of f) history
  pub begun : informs_of events ≡ begun_in history
  pub sent : went_out events ≡ asked_in history
  pub answered : acknowledged events ≡ answered_in history

-- ---- of one Inform

-- 1 where an Inform ends by it
abbrev pub is_ended : ℕ → InformHappening → ℕ
is_ended n (begins number inform) = 0
is_ended n (asks number receiver now message held by pending datagram) = 0
is_ended n (answers number what heard) = cond (nat_eq n number) (cond (is_end heard.turn) 1 0) 0
is_ended n (ends number receiver now why) = cond (nat_eq n number) 1 0

abbrev pub times_ended : ℕ → List InformHappening → ℕ
times_ended n [] = 0
times_ended n (e ∷ before) = is_ended n e + times_ended n before

-- an accepted message came from the receiver of the Inform, and is the Response to the very Inform that was sent last
pub record IsOwnResponse (before : List InformHappening) (number : ℕ) (what : Accepted) : Type 0 where
  pub inform : Inform
  pub is_begun : Contains before (begins number inform)
  pub from : inform.receiver ≡ what.receiver
  pub pending : Pending
  pub is_asked : (known_of number before).asked ≡ Some (asked_with Request pending)
  pub is_response : IsHeardIn pending what.given Response

-- the Inform that goes to the receiver with this number tells what a device sent, and the receiver may be notified of
-- all of it in the device's context; it is for the receiver's engine, and sealed for its user at its level
pub record IsMediatedAsk (tables : Tables) (devices : List Device) (receivers : List Receiver) (s : InformSetting)
    (before : List InformHappening) (number receiver : ℕ) (held : Held) (by : Sealing) (pending : Pending)
    (datagram : List ℕ) : Type 0 where
  pub inform : Inform
  pub mediated : IsMediated tables devices receivers inform
  pub to : mediated.receiver ≡ receiver
  pub engine : List ℕ
  pub engine_is : (known_of number before).engine ≡ Some engine
  pub goes : SendsInform held s.own engine inform by pending datagram

-- What goes to receivers is what they may be notified of.
use Rattle.std.specs.Prelude.{◌≡◌, ℕ, List, All, Option, None, Some}
use Rattle.std.specs.Global.{Vec}
use Rattle.std.proofs.Common.{inl, inr, refl, subst}
use Rattle.vacm_core.specs.Tables.{Tables}
use Rattle.snmp_gate.specs.declared.devices.Device.{Device}
use Rattle.snmp_manager.specs.Views.{Held}
use Rattle.snmp_manager.specs.declared.pending.Pending.{Pending}
use Rattle.snmp_requests.specs.declared.device_request.SentMessage.{SentMessage}
use Rattle.snmp_requests.specs.declared.device_request.SentMessage.TheVariants.{Discovery, TimeRequest, Request}
use Rattle.snmp_forward.specs.History.{Happening}
use Rattle.snmp_forward.specs.InformHistory.{InformHappening, InformSetting, IsAsk}
use Rattle.snmp_forward.specs.InformRuns.{IsMediatedAsk, begun_in}
use Rattle.snmp_forward.specs.InformStanding.{InformsStand, setting_of}
use Rattle.snmp_forward.specs.Informs.{IsMediated}
use Rattle.snmp_forward.specs.Originating.{Originates}
use Rattle.snmp_forward.specs.Standing.{ForwarderStands}
use Rattle.snmp_forward.specs.WaitingInforms.{SendsMessage}
use Rattle.snmp_forward.specs.declared.inform.Inform.{Inform}
use Rattle.snmp_forward.specs.declared.originator.Originated.{Originated}
use Rattle.snmp_forward.specs.declared.originator.Originated.TheVariants as out
use Rattle.snmp_forward.specs.declared.originator.Originator.{Originator}
use Rattle.snmp_forward.specs.declared.receivers.Receiver.{Receiver}
use Rattle.snmp_forward.specs.declared.sealing.Sealing.{Sealing}
use Rattle.tests_callers.specs.Notified.{AreOfDevices, HasNoVariables, IsOfNotification}

pub trap_notified : (old new : Originator) (now : ℕ) (salt : List ℕ) (ask_id number receiver : ℕ) (datagram : Vec ℕ) (before : List Happening) → ForwarderStands before old.forwarder
    → Originates old now salt ask_id (out.Trap number receiver datagram) new → IsOfNotification old receiver datagram.items
trap_notified old new now salt ask_id number receiver datagram before stands goes =
    let lawful = ((goes.0).1 before stands).lawful in
    record {
      device = lawful.turn.device;
      came = lawful.turn.datagram;
      number = receiver;
      number_is = refl;
      may = lawful.turn.may;
      each = lawful.turn.may.may.variables;
      is = inl (_, lawful.seals);
    }

pub inform_notified : (old : Originator) (s : InformSetting) (before : List InformHappening) (number receiver : ℕ) (held : Held) (by : Sealing) (pending : Pending) (datagram : List ℕ)
    → s.own ≡ old.informs.engine → IsMediatedAsk old.forwarder.agent.tables old.forwarder.devices.list.items old.forwarder.receivers.list.items s before number receiver held by pending datagram → IsOfNotification old receiver datagram
inform_notified old s before number receiver held by pending datagram own ask = record {
  device = ask.mediated.device;
  came = ask.mediated.datagram;
  number = ask.mediated.receiver;
  number_is = ask.to;
  may = ask.mediated.may;
  each = ask.mediated.may.may.variables;
  is = inr (held, ask.engine, ask.inform, by, ask.mediated.is_of, rw (← own) ask.goes.inform_is);
}

discovers : (held : Held) (own : List ℕ) (engine : Option (List ℕ)) (inform : Inform) (by : Sealing) (pending : Pending) (datagram : List ℕ) → SendsMessage held own engine inform Discovery by pending datagram → HasNoVariables datagram
discovers held own None inform by pending datagram goes = (held, by, pending, inl goes)
discovers held own (Some engine) inform by pending datagram goes = (held, by, pending, inl goes)

asks_time : (held : Held) (own : List ℕ) (engine : Option (List ℕ)) (inform : Inform) (by : Sealing) (pending : Pending) (datagram : List ℕ) → SendsMessage held own engine inform TimeRequest by pending datagram → HasNoVariables datagram
asks_time held own None inform by pending datagram goes = (held, by, pending, inl goes)
asks_time held own (Some engine) inform by pending datagram goes = (held, by, pending, inr (engine, inform, goes))

pub discovery_has_none : (old new : Originator) (now : ℕ) (salt : List ℕ) (ask_id number receiver : ℕ) (datagram : Vec ℕ) (before : List InformHappening) → InformsStand before old.informs
    → Originates old now salt ask_id (out.InformSent number receiver Discovery datagram) new → HasNoVariables datagram.items
discovery_has_none old new now salt ask_id number receiver datagram before stands goes =
    let ask = (goes.sends.1 before stands).happens.lawful in
    discovers _ _ _ ask.inform _ _ datagram.items ask.goes

pub time_request_has_none : (old new : Originator) (now : ℕ) (salt : List ℕ) (ask_id number receiver : ℕ) (datagram : Vec ℕ) (before : List InformHappening) → InformsStand before old.informs
    → Originates old now salt ask_id (out.InformSent number receiver TimeRequest datagram) new → HasNoVariables datagram.items
time_request_has_none old new now salt ask_id number receiver datagram before stands goes =
    let ask = (goes.sends.1 before stands).happens.lawful in
    asks_time _ _ _ ask.inform _ _ datagram.items ask.goes

-- ---- of what an originator says

pub trap_told : (old new : Originator) (now : ℕ) (salt : List ℕ) (ask_id : ℕ) (what : Originated) (number receiver : ℕ) (datagram : Vec ℕ) (before : List Happening) → ForwarderStands before old.forwarder
    → what ≡ out.Trap number receiver datagram → Originates old now salt ask_id what new → IsOfNotification old receiver datagram.items
trap_told old new now salt ask_id what number receiver datagram before stands is goes =
    trap_notified old new now salt ask_id number receiver datagram before stands (subst (λ w. Originates old now salt ask_id w new) is goes)

-- what is said of a message for an Inform, which is of this kind
message_is : (old new : Originator) (now : ℕ) (salt : List ℕ) (ask_id : ℕ) (what : Originated) (number receiver : ℕ) (message kind : SentMessage) (datagram : Vec ℕ) → what ≡ out.InformSent number receiver message datagram → message ≡ kind
    → Originates old now salt ask_id what new → Originates old now salt ask_id (out.InformSent number receiver kind datagram) new
message_is old new now salt ask_id what number receiver message kind datagram is kind_is goes =
    subst (λ m. Originates old now salt ask_id (out.InformSent number receiver m datagram) new) kind_is (subst (λ w. Originates old now salt ask_id w new) is goes)

-- the law of Informs: what goes out is of a notification that its receiver may be sent
abbrev pub AreMediated : Type 0
AreMediated = (tables : Tables) (devices : List Device) (receivers : List Receiver) (s : InformSetting) (before : List InformHappening) (number receiver now : ℕ) (held : Held) (by : Sealing) (pending : Pending) (datagram : List ℕ)
    → All (IsMediated tables devices receivers) (begun_in before) → IsAsk s before number receiver now Request held by pending datagram → IsMediatedAsk tables devices receivers s before number receiver held by pending datagram

pub inform_told : (old new : Originator) (now : ℕ) (salt : List ℕ) (ask_id : ℕ) (what : Originated) (number receiver : ℕ) (message : SentMessage) (datagram : Vec ℕ) (before : List InformHappening) → InformsStand before old.informs
    → All (AreOfDevices old) (begun_in before) → AreMediated → what ≡ out.InformSent number receiver message datagram → message ≡ Request → Originates old now salt ask_id what new → IsOfNotification old receiver datagram.items
inform_told old new now salt ask_id what number receiver message datagram before stands all law is request goes =
    let sends = (message_is old new now salt ask_id what number receiver message Request datagram is request goes).sends.1 before stands in
    inform_notified old (setting_of old.informs) before number receiver _ _ _ datagram.items refl (law _ _ _ (setting_of old.informs) before number receiver now _ _ _ datagram.items all sends.happens.lawful)

pub discovery_told : (old new : Originator) (now : ℕ) (salt : List ℕ) (ask_id : ℕ) (what : Originated) (number receiver : ℕ) (message : SentMessage) (datagram : Vec ℕ) (before : List InformHappening) → InformsStand before old.informs
    → what ≡ out.InformSent number receiver message datagram → message ≡ Discovery → Originates old now salt ask_id what new → HasNoVariables datagram.items
discovery_told old new now salt ask_id what number receiver message datagram before stands is kind goes =
    discovery_has_none old new now salt ask_id number receiver datagram before stands (message_is old new now salt ask_id what number receiver message Discovery datagram is kind goes)

pub time_told : (old new : Originator) (now : ℕ) (salt : List ℕ) (ask_id : ℕ) (what : Originated) (number receiver : ℕ) (message : SentMessage) (datagram : Vec ℕ) (before : List InformHappening) → InformsStand before old.informs
    → what ≡ out.InformSent number receiver message datagram → message ≡ TimeRequest → Originates old now salt ask_id what new → HasNoVariables datagram.items
time_told old new now salt ask_id what number receiver message datagram before stands is kind goes =
    time_request_has_none old new now salt ask_id number receiver datagram before stands (message_is old new now salt ask_id what number receiver message TimeRequest datagram is kind goes)

-- What a receiver is sent (RFC 3413, section 3.3; RFC 3416, section 4.2.6).
--
-- `MayBeSent`: a receiver may be sent the notification of a device. `AreChosen`: all the receivers to which it goes.
-- `trap_to`: as what it goes out. `SealsTrap`: what comes of sealing that.
use Rattle.std.specs.Prelude.{◌≡◌, ◌↔◌, ◌<◌, ℕ, pos, false, List, AllPairs, Contains, Result, Some, slice_get}
use Rattle.snmp_message.specs.declared.refusal.Refusal.{Refusal}
use Rattle.engine_clock.specs.Pairs.{BootsAndTime}
use Rattle.snmp_msg.specs.Pdu.{PduParts, pdu_with}
use Rattle.snmp_msg.specs.PduTypes.{pdu_tag}
use Rattle.snmp_msg.specs.Variables.{variables_of}
use Rattle.snmp_msg.specs.declared.pdu_type.PduType.TheVariants.{SNMPv2Trap}
use Rattle.vacm_core.specs.Tables.{Tables}
use Rattle.snmp_outgoing.specs.Speaks.{Speech, spoken}
use Rattle.snmp_agent.specs.Agent.{AgentState}
use Rattle.snmp_agent.specs.Sent.{Sends}
use Rattle.snmp_gate.specs.declared.devices.Device.{Device}
use Rattle.snmp_forward.specs.Notifications.{IsNotification}
use Rattle.snmp_forward.specs.Receivers.{MayBeNotified}
use Rattle.snmp_forward.specs.declared.receivers.Receiver.{Receiver}
use Rattle.snmp_forward.specs.declared.sealing.Sealing.{Sealing}

-- the datagram is a notification with the community of the device of this number, and in that device's context the
-- receiver of this number may be notified of it
pub record MayBeSent (tables : Tables) (devices : List Device) (receivers : List Receiver) (device : ℕ)
    (datagram : List ℕ) (receiver : ℕ) : Type 0 where
  pub from : Device
  pub is_from : slice_get devices device ≡ Some from
  pub to : Receiver
  pub is_to : slice_get receivers receiver ≡ Some to
  pub pdu : PduParts
  pub trap_oid : List ℕ
  pub is : IsNotification datagram from.community.items pdu trap_oid
  pub may : MayBeNotified tables to from.context.items (variables_of pdu.list) trap_oid

-- the receivers to which a notification goes: each that may be sent it, and no other
pub record AreChosen (tables : Tables) (devices : List Device) (receivers : List Receiver) (device : ℕ)
    (datagram : List ℕ) (to : List ℕ) : Type 0 where
  pub rise : AllPairs (λ (a b : ℕ). a < b) to
  pub each : (n : ℕ) → Contains to n ↔ MayBeSent tables devices receivers device datagram n

-- what goes out, from this engine with its own boots and time: an SNMPv2-Trap with the request-id and the very
-- variables of the device's, in the device's context, for the receiver's user at its level
abbrev pub trap_to : List ℕ → BootsAndTime → Sealing → Receiver → List ℕ → PduParts → Speech
trap_to engine own by to context pdu = record {
  level = to.level;
  id = by.id;
  reportable = false;
  engine = engine;
  pair = own;
  user = to.user.items;
  salt = by.salt;
  context_engine = engine;
  context_name = context;
  pdu = pdu_with (pdu_tag SNMPv2Trap) pdu.id (pos 0) (pos 0) (variables_of pdu.list);
}

-- what comes of sealing it: this datagram, or this refusal
abbrev pub SealsTrap : AgentState → Sealing → Receiver → List ℕ → PduParts → Result (List ℕ) Refusal → Type 0
SealsTrap agent by to context pdu answer =
    Sends agent by.seconds (λ own. spoken (trap_to agent.engine own by to context pdu)) answer

-- To whom a notification goes.
use Rattle.std.specs.Prelude.{◌≡◌, ℕ, List, [], ◌∷◌, Some, slice_get}
use Rattle.std.proofs.Common.{sym, ap, subst, ◌∙◌}
use Rattle.std.proofs.lemmas.Option.{same_Some}
use Rattle.snmp_ber.proofs.Identifiers.{one_identifier}
use Rattle.snmp_msg.specs.Pdu.{PduParts}
use Rattle.snmp_msg.specs.Variables.{Variable, variables_of}
use Rattle.vacm_core.specs.Tables.{Tables}
use Rattle.snmp_gate.specs.declared.devices.Device.{Device}
use Rattle.snmp_gate.specs.DeviceMessages.{IsCommunityPdu}
use Rattle.snmp_agent.specs.Agent.{AgentState}
use Rattle.snmp_forward.specs.Notifications.{HasTrapOid, IsNoNotification, IsNotification}
use Rattle.snmp_forward.specs.Written.{IsWritten}
use Rattle.snmp_forward.specs.declared.notification.NotNotification.{NotNotification}
use Rattle.snmp_forward.specs.declared.notification.NotNotification.TheVariants.{Unreadable, NotTrap, NoTrapOid}
use Rattle.snmp_forward.specs.declared.sealing.Sealing.{Sealing}
use Rattle.snmp_forward.specs.declared.trap.Written.{Written}
use Rattle.snmp_forward.specs.Receivers.{ArePlaces, MayBeNotified}
use Rattle.snmp_forward.specs.Sending.{AreChosen, MayBeSent}
use Rattle.snmp_forward.specs.declared.receivers.Receiver.{Receiver}

pub one_trap_oid : (vs : List Variable) (a b : List ℕ) → HasTrapOid vs a → HasTrapOid vs b → a ≡ b
one_trap_oid [] a b has also = absurd has
one_trap_oid (first ∷ []) a b has also = absurd has
one_trap_oid (first ∷ second ∷ others) a b has also = one_identifier a b second.content has.value also.value

-- a datagram is one message at most, and a message has one PDU
abbrev pub IsOneMessage : Type 0
IsOneMessage = (w a b : List ℕ) (p q : PduParts) → IsCommunityPdu w a p → IsCommunityPdu w b q → p ≡ q

pub not_both : IsOneMessage → (w a : List ℕ) (p : PduParts) (x : List ℕ) (why : NotNotification) → IsNotification w a p x → IsNoNotification w why → ⊥
not_both one w a p x Unreadable is none = none a p is.is
not_both one w a p x NotTrap is none = none.3 (ap (λ (q : PduParts). q.tag) (one w none.0 a none.1 p none.2 is.is) ∙ is.trap)
not_both one w a p x NoTrapOid is none = none.2.lacks x (subst (λ (q : PduParts). HasTrapOid (variables_of q.list) x) (one w a none.0 p none.1 is.is none.2.is) is.trap_oid)

-- a datagram is one notification at most
abbrev pub IsOne : Type 0
IsOne = (w a b : List ℕ) (p q : PduParts) (x y : List ℕ) → IsNotification w a p x → IsNotification w b q y → (a ≡ b) × (p ≡ q) × (x ≡ y)

pub chosen_of : IsOne → (tables : Tables) (devices : List Device) (receivers : List Receiver) (device : ℕ) (from : Device) (w : List ℕ) (p : PduParts) (oid : List ℕ) (ns : List ℕ) → slice_get devices device ≡ Some from
    → IsNotification w from.community.items p oid → ArePlaces (λ (r : Receiver). MayBeNotified tables r from.context.items (variables_of p.list) oid) receivers ns → AreChosen tables devices receivers device w ns
chosen_of one tables devices receivers device from w p oid ns at is are = record {
  rise = are.rise;
  each = λ n. (
    (λ there. let found = (are.each n).0 there in record {
      from = from;
      is_from = at;
      to = found.0;
      is_to = found.1;
      pdu = p;
      trap_oid = oid;
      is = is;
      may = found.2;
    }),
    (λ may.
        let same = one w may.from.community.items from.community.items may.pdu p may.trap_oid oid may.is is in
        let device_same = same_Some may.from from (sym may.is_from ∙ at) in
        (are.each n).1 (
          may.to,
          may.is_to,
          subst (λ (x : List ℕ). MayBeNotified tables may.to from.context.items (variables_of p.list) x) same.2
              (subst (λ (q : PduParts). MayBeNotified tables may.to from.context.items (variables_of q.list) may.trap_oid) same.1
              (subst (λ (d : Device). MayBeNotified tables may.to d.context.items (variables_of may.pdu.list) may.trap_oid) device_same may.may)),
        )),
  );
}

-- what becomes of a notification for a receiver, by whatever says that it may be sent
pub written_for : IsOne → (agent : AgentState) (by : Sealing) (devices : List Device) (receivers : List Receiver) (device receiver : ℕ) (from : Device) (to : Receiver) (w context community : List ℕ) (p : PduParts) (oid : List ℕ) (written : Written)
    → slice_get devices device ≡ Some from → slice_get receivers receiver ≡ Some to → context ≡ from.context.items → IsNotification w community p oid → (may : MayBeSent agent.tables devices receivers device w receiver)
    → IsWritten agent by to context p written → IsWritten agent by may.to may.from.context.items may.pdu written
written_for one agent by devices receivers device receiver from to w context community p oid written at goes is_context is may so =
    let same = one w community may.from.community.items p may.pdu oid may.trap_oid is may.is in
    let device_same = same_Some from may.from (sym at ∙ may.is_from) in
    let receiver_same = same_Some to may.to (sym goes ∙ may.is_to) in
    subst (λ (r : Receiver). IsWritten agent by r may.from.context.items may.pdu written) receiver_same
    (subst (λ (d : Device). IsWritten agent by to d.context.items may.pdu written) device_same
    (subst (λ (q : PduParts). IsWritten agent by to from.context.items q written) same.1
    (subst (λ (x : List ℕ). IsWritten agent by to x p written) is_context so)))

-- What is a notification of a device (RFC 1901, section 3; RFC 3416, section 4.2.6; RFC 3418, section 2).
--
-- `HasTrapOid`: the second of the variables is snmpTrapOID.0, which tells the notification. `IsNotification`: the
-- datagram is an SNMPv2-Trap in a message of SNMPv2c. `IsNoNotification`: why it isn't one.
use Rattle.std.specs.Prelude.{◌≡◌, ◌≢◌, ℕ, List, [], ◌∷◌}
use Rattle.snmp_ber.specs.Oid.{IsIdentifier}
use Rattle.snmp_message.specs.declared.field.TheConstants.{OBJECT_IDENTIFIER}
use Rattle.snmp_msg.specs.Pdu.{PduParts}
use Rattle.snmp_msg.specs.PduTypes.{pdu_tag}
use Rattle.snmp_msg.specs.Variables.{Variable, variables_of}
use Rattle.snmp_msg.specs.declared.pdu_type.PduType.TheVariants.{SNMPv2Trap}
use Rattle.snmp_gate.specs.DeviceMessages.{IsCommunityPdu}
use Rattle.snmp_forward.specs.declared.notification.NotNotification.{NotNotification}
use Rattle.snmp_forward.specs.declared.notification.NotNotification.TheVariants.{Unreadable, NotTrap, NoTrapOid}

-- snmpTrapOID.0
abbrev pub snmp_trap_oid : List ℕ
snmp_trap_oid = 1 ∷ 3 ∷ 6 ∷ 1 ∷ 6 ∷ 3 ∷ 1 ∷ 1 ∷ 4 ∷ 1 ∷ 0 ∷ []

-- the variable is snmpTrapOID.0, and its value is this OBJECT IDENTIFIER
pub record IsTrapOid (v : Variable) (oid : List ℕ) : Type 0 where
  pub name : v.name ≡ snmp_trap_oid
  pub tag : v.tag ≡ OBJECT_IDENTIFIER
  pub value : IsIdentifier oid v.content

-- so is the second of the variables
abbrev pub HasTrapOid : List Variable → List ℕ → Type 0
HasTrapOid [] oid = ⊥
HasTrapOid (first ∷ []) oid = ⊥
HasTrapOid (first ∷ second ∷ others) oid = IsTrapOid second oid

-- the datagram is a message of SNMPv2c with this community, its PDU is an SNMPv2-Trap, and this is the value of its
-- snmpTrapOID.0
pub record IsNotification (datagram community : List ℕ) (p : PduParts) (oid : List ℕ) : Type 0 where
  pub is : IsCommunityPdu datagram community p
  pub trap : p.tag ≡ pdu_tag SNMPv2Trap
  pub trap_oid : HasTrapOid (variables_of p.list) oid

-- an SNMPv2-Trap that doesn't tell which notification it is
pub record LacksTrapOid (datagram community : List ℕ) (p : PduParts) : Type 0 where
  pub is : IsCommunityPdu datagram community p
  pub trap : p.tag ≡ pdu_tag SNMPv2Trap
  pub lacks : (oid : List ℕ) → ¬ HasTrapOid (variables_of p.list) oid

-- the first reason why the datagram is no notification
abbrev pub IsNoNotification : List ℕ → NotNotification → Type 0
IsNoNotification w Unreadable = (community : List ℕ) (p : PduParts) → ¬ IsCommunityPdu w community p
IsNoNotification w NotTrap = (community : List ℕ) × (p : PduParts) × IsCommunityPdu w community p
    × (p.tag ≢ pdu_tag SNMPv2Trap)
IsNoNotification w NoTrapOid = (community : List ℕ) × (p : PduParts) × LacksTrapOid w community p

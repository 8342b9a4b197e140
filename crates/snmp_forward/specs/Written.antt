-- What becomes of a notification for a receiver.
--
-- `IsWritten`: what comes of sealing it as a Trap. `told_as`: as what it is reported. `GoesAsInform`, `GoesAsTrap`: as
-- what the notification that waits longest goes to the first of its receivers.
use Rattle.std.specs.Prelude.{◌≡◌, ℕ, List, Err, None, Ok, Option, Some, slice_get}
use Rattle.snmp_msg.specs.Pdu.{PduParts}
use Rattle.snmp_agent.specs.Agent.{AgentState}
use Rattle.snmp_forward.specs.Informs.{IsInformOf}
use Rattle.snmp_forward.specs.Sending.{MayBeSent, SealsTrap}
use Rattle.snmp_forward.specs.declared.forwarder.Forwarded.{Forwarded}
use Rattle.snmp_forward.specs.declared.forwarder.Forwarded.TheVariants.{Nothing, ToReceiver, Unsent}
use Rattle.snmp_forward.specs.declared.forwarder.Forwarder.{Forwarder}
use Rattle.snmp_forward.specs.declared.forwarder.TrapTurn.{TrapTurn}
use Rattle.snmp_forward.specs.declared.inform.Inform.{Inform}
use Rattle.snmp_forward.specs.declared.queue.WaitingNotification.{WaitingNotification}
use Rattle.snmp_forward.specs.declared.receivers.NotifyType.TheVariants as notify
use Rattle.snmp_forward.specs.declared.receivers.Receiver.{Receiver}
use Rattle.snmp_forward.specs.declared.sealing.Sealing.{Sealing}
use Rattle.snmp_forward.specs.declared.trap.Written.{Written}
use Rattle.snmp_forward.specs.declared.trap.Written.TheVariants.{Refused, Sends}

-- what comes of sealing the SNMPv2-Trap
abbrev pub IsWritten : AgentState → Sealing → Receiver → List ℕ → PduParts → Written → Type 0
IsWritten agent by to context pdu (Sends datagram) = SealsTrap agent by to context pdu (Ok datagram.items)
IsWritten agent by to context pdu (Refused why) = SealsTrap agent by to context pdu (Err why)

abbrev pub told_of : ℕ → ℕ → Written → Forwarded
told_of number receiver (Sends datagram) = ToReceiver number receiver datagram
told_of number receiver (Refused why) = Unsent number receiver why

abbrev pub told_as : Option TrapTurn → Forwarded
told_as None = Nothing
told_as (Some turn) = told_of turn.number turn.receiver turn.written

-- the notification may be sent to the receiver to which it is to be sent next
abbrev pub MayGo : Forwarder → WaitingNotification → Type 0
MayGo f w =
    MayBeSent f.agent.tables f.devices.list.items f.receivers.list.items w.device w.datagram.items w.receiver

-- the notification of this number waits longest, and goes as this Inform to the first of its receivers
pub record GoesAsInform (f : Forwarder) (number : ℕ) (inform : Inform) : Type 0 where
  pub first : WaitingNotification
  pub at : slice_get f.waiting.list.items 0 ≡ Some first
  pub number_is : number ≡ first.number
  pub receiver_is : inform.receiver ≡ first.receiver
  pub type_is : (may : MayGo f first) → may.to.notify_type ≡ notify.Inform
  pub inform_is : (may : MayGo f first)
      → IsInformOf first.receiver may.to may.from.context.items first.datagram.items inform

-- nothing waits, or the first goes to the first of its receivers as a Trap
abbrev pub GoesAsTrap : Forwarder → Type 0
GoesAsTrap f = (w : WaitingNotification) → slice_get f.waiting.list.items 0 ≡ Some w → (may : MayGo f w)
    → may.to.notify_type ≡ notify.Trap

abbrev pub IsFirstInform : Forwarder → Option (ℕ × Inform) → Type 0
IsFirstInform f None = GoesAsTrap f
IsFirstInform f (Some first) = GoesAsInform f first.0 first.1

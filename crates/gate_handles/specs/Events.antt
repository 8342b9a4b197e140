-- The numbers of what becomes of what a gateway and a forwarder get, and of what goes out.
--
-- `event_number`, `forward_number`: that of an event. `event_why`, `forward_why`: the reason why nothing goes out.
use Rattle.std.specs.Prelude.{ℕ, Option, Some, None}
use Rattle.snmp_message.specs.declared.refusal.Refusal.{Refusal}
use Rattle.gate_handles.specs.declared.event.GateEvent.{GateEvent}
use Rattle.gate_handles.specs.declared.event.GateEvent.TheVariants.{Nothing, Begins, Joins, NoRoom, SetOfBefore}
use Rattle.gate_handles.specs.declared.event.GateEvent.TheVariants.{Answers, NotWaitedFor, Unreadable, ToClient}
use Rattle.gate_handles.specs.declared.event.GateEvent.TheVariants.{ToDevice, GivenUp, Unanswered}
use Rattle.gate_handles.specs.declared.forward_event.ForwardEvent.{ForwardEvent}
use Rattle.gate_handles.specs.declared.forward_event.ForwardEvent.TheVariants as forward
use Rattle.snmp_forward.specs.declared.notification.NotNotification.TheVariants as no_notification

abbrev pub event_number : GateEvent → ℕ
event_number Nothing = 0
event_number Begins = 20
event_number Joins = 21
event_number NoRoom = 22
event_number SetOfBefore = 23
event_number Answers = 24
event_number NotWaitedFor = 25
event_number Unreadable = 26
event_number ToClient = 27
event_number ToDevice = 28
event_number GivenUp = 29
event_number (Unanswered why) = 30

-- why a client's message isn't answered, if there is a reason
abbrev pub event_why : GateEvent → Option Refusal
event_why (Unanswered why) = why
event_why _ = None

abbrev pub forward_number : ForwardEvent → ℕ
forward_number forward.Nothing = 0
forward_number (forward.NotNotification no_notification.Unreadable) = 20
forward_number (forward.NotNotification no_notification.NotTrap) = 21
forward_number (forward.NotNotification no_notification.NoTrapOid) = 22
forward_number forward.OtherCommunity = 23
forward_number forward.ForNobody = 24
forward_number forward.NoRoom = 25
forward_number forward.Waits = 26
forward_number forward.ToReceiver = 27
forward_number (forward.Unsent why) = 30
forward_number forward.NoAnswer = 50
forward_number forward.Heard = 51
forward_number forward.Acknowledged = 52
forward_number forward.Denied = 53
forward_number forward.InformBegins = 54
forward_number forward.InformToReceiver = 55
forward_number forward.InformNoRoom = 56
forward_number forward.InformGivenUp = 57
forward_number (forward.InformUnsent why) = 60

-- why a notification or an Inform isn't sent
abbrev pub forward_why : ForwardEvent → Option Refusal
forward_why (forward.Unsent why) = Some why
forward_why (forward.InformUnsent why) = Some why
forward_why _ = None

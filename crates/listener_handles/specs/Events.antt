-- What becomes of a datagram that a listener takes, by numbers.
--
-- `event_number`: that of an event. `event_why`: the refusal, if the datagram is refused.
use Rattle.std.specs.Prelude.{ℕ, Option, Some, None}
use Rattle.snmp_message.specs.declared.refusal.Refusal.{Refusal}
use Rattle.snmp_listener.specs.declared.dropped.Dropped.TheVariants as drops
use Rattle.listener_handles.specs.declared.event.ListenerEvent.{ListenerEvent}
use Rattle.listener_handles.specs.declared.event.ListenerEvent.TheVariants.{Trap, Inform, Dropped}

abbrev pub event_number : ListenerEvent → ℕ
event_number Trap = 1
event_number Inform = 2
event_number (Dropped (drops.Refused refusal)) = 3
event_number (Dropped drops.OtherPdu) = 19
event_number (Dropped drops.LowLevel) = 20
event_number (Dropped drops.OtherAddress) = 21
event_number (Dropped drops.OutsideView) = 22
event_number (Dropped drops.Copy) = 23
event_number (Dropped drops.NoRoom) = 24

abbrev pub event_why : ListenerEvent → Option Refusal
event_why (Dropped (drops.Refused refusal)) = Some refusal
event_why _ = None

-- The handle of a forwarder of notifications, that is called one call after another.
--
-- `HandleGoesOn`: what comes at a moment is taken, or something is sent, by one call. `IsHandleRun`: the events of a
-- handle, call by call. `HasForwarded`: what is true after all calls of a handle that was made of a configuration.
use Rattle.std.specs.Prelude.{◌≡◌, ◌≤◌, ◌⊎◌, ℕ, List, [], ◌∷◌, length, Result, Err}
use Rattle.std.specs.Int.{to_be_bytes, w64}
use Rattle.snmp_forward.specs.History as notified
use Rattle.snmp_forward.specs.InformHistory.{InformHappening}
use Rattle.snmp_forward.specs.Originating.{IsOriginatorHistoryOf, OriginatorEvent, OriginatorSteps}
use Rattle.snmp_forward.specs.Originating.{finds_no_memory, goes_out, receives, trap_comes}
use Rattle.snmp_forward.specs.declared.forwarder.TrapTaken.{TrapTaken}
use Rattle.snmp_forward.specs.declared.informs.ReceiverTaken.{ReceiverTaken}
use Rattle.snmp_forward.specs.declared.originator.Originated.{Originated}
use Rattle.snmp_message.specs.declared.refusal.Refusal.TheVariants.{OutOfMemory}
use Rattle.snmp_handles.specs.declared.fault.CallFault.{CallFault}
use Rattle.snmp_handles.specs.declared.fault.CallFault.TheVariants.{Refused}
use Rattle.gate_handles.specs.Forwards.{ForwardHeld, IsForwarderOf, Noted, TellsOriginated, TellsReceiver, TellsTrap}
use Rattle.gate_handles.specs.Forwards.{begun}
use Rattle.gate_handles.specs.declared.forward_event.ForwardEvent.{ForwardEvent}
use Rattle.gate_handles.specs.declared.making.TheConstants.{INFORMS_LIMIT}
use Rattle.snmp_forward.specs.declared.queue.TheConstants.{WAITING_LIMIT}
use Rattle.tests_callers.specs.declared.forwarder_handles.ForwardCome.{ForwardCome}
use Rattle.tests_callers.specs.declared.forwarder_handles.ForwardCome.TheVariants as coming

-- it is the event of what comes at this moment, whatever becomes of it
abbrev pub IsEventFor : ℕ → ForwardCome → OriginatorEvent → Type 0
IsEventFor now (coming.Trap device datagram) event = (event ≡ finds_no_memory)
    ⊎ ((taken : TrapTaken) × (event ≡ trap_comes device datagram.now taken))
IsEventFor now (coming.Receiver receiver datagram) event = (event ≡ finds_no_memory)
    ⊎ ((taken : ReceiverTaken) × (event ≡ receives now receiver datagram.now taken))
IsEventFor now (coming.Next salt ask_id) event = (event ≡ finds_no_memory)
    ⊎ ((what : Originated) × (event ≡ goes_out now (to_be_bytes w64 salt) ask_id what))

-- the call answers what the event is, and notes it, the datagram that is to be sent too
abbrev pub TellsEvent : OriginatorEvent → Result ForwardEvent CallFault → Noted → Noted → Type 0
TellsEvent (trap_comes device datagram taken) told old new = TellsTrap taken told old new
TellsEvent (receives now receiver datagram taken) told old new = TellsReceiver taken told old new
TellsEvent (goes_out now salt ask_id what) told old new = TellsOriginated what told old new
TellsEvent finds_no_memory told old new = (told ≡ Err (Refused OutOfMemory)) × (new ≡ old)

-- the event is a step of the originator that the handle holds, and the call tells it
abbrev pub HandleSteps : ForwardHeld → OriginatorEvent → ForwardHeld → Type 0
HandleSteps old event new = OriginatorSteps old.originator event new.originator
    × ((told : Result ForwardEvent CallFault) × TellsEvent event told (begun old.noted) new.noted)

abbrev pub HandleGoesOn : ForwardHeld → ℕ → ForwardCome → ForwardHeld → Type 0
HandleGoesOn old now what new = (event : OriginatorEvent) × IsEventFor now what event × HandleSteps old event new

-- the events, the latest first, lead from one handle to the other
abbrev pub IsHandleRun : ForwardHeld → List OriginatorEvent → ForwardHeld → Type 0
IsHandleRun first [] last = last ≡ first
IsHandleRun first (event ∷ before) last =
    (middle : ForwardHeld) × IsHandleRun first before middle × HandleSteps middle event last

-- The handle was made of the configuration, and what is left was made of it by so many calls. Its notifications and its
-- Informs have lawful histories, and at most as many of both wait as may.
pub record HasForwarded (config : List ℕ) (boots started count : ℕ) (left : ForwardHeld) : Type 0 where
  pub made : ForwardHeld
  pub is_made : IsForwarderOf config boots started made
  pub events : List OriginatorEvent
  pub each : length events ≡ count
  pub run : IsHandleRun made events left
  pub notifications : List notified.Happening
  pub informs : List InformHappening
  pub is_history : IsOriginatorHistoryOf made.originator events notifications informs
  pub few_wait : length left.originator.forwarder.waiting.list.items ≤ WAITING_LIMIT
  pub few_informs : length left.originator.informs.list.items ≤ INFORMS_LIMIT

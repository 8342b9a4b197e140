-- What the calls on a receiver of notifications answer, tell and leave.
--
-- `listener_call_of`: the call of a number. `ListenerCalled`: what is answered, told and left where so is asked, by
-- cases on the call (`ListenerDoes`); what a call doesn't tell stays as it was. `TakesNotification`: what becomes of a
-- datagram (`tells_event`). `TellsListenerInfo`, `CountsDropped`, `ToldSenderPair`: those that leave the receiver as it
-- was. `SavesClocks`: the saved text is left. `ListenerCopies`: what is copied. `MakesAListener`: the answer of `_new`.
-- `ClearsListener`: all is given back.
use Rattle.std.specs.Prelude.{◌==◌, if◌then◌else◌, ◌≡◌, ℕ, ℤ, pos, List, Option, Some, None, MatchOption, Result}
use Rattle.std.specs.Int.{to_be_bytes, w64}
use Rattle.engine_clock.specs.Pairs.{BootsAndTime}
use Rattle.snmp_handles.specs.Faults.{code, fault_code}
use Rattle.snmp_handles.specs.declared.fault.CallFault.{CallFault}
use Rattle.snmp_handles.specs.declared.fault.CallFault.TheVariants.{BadArgument, NothingTaken}
use Rattle.listener_handles.specs.Events.{event_number, event_why}
use Rattle.listener_handles.specs.Listeners.{CountsListener, EmptiesListener, ListenerHeld, MakesListener}
use Rattle.listener_handles.specs.Listeners.{SavesListener, TakesListener, TellsSender}
use Rattle.listener_handles.specs.declared.event.ListenerEvent.{ListenerEvent}
use Rattle.listener_handles.specs.declared.settings.ListenerSettings.{ListenerSettings}
use Rattle.snmp_c.specs.declared.accepted.Accepted.{Accepted}
use Rattle.snmp_c.specs.declared.listener_asked.ListenerAsked.{ListenerAsked}
use Rattle.snmp_c.specs.declared.listener_asked.ListenerSaid.{ListenerSaid}
use Rattle.snmp_c.specs.declared.listener_asked.ListenerCall.{ListenerCall}
use Rattle.snmp_c.specs.declared.listener_asked.ListenerCall.TheVariants as calls
use Rattle.snmp_c.specs.Accepted.{CopiedBy, IsToldOf}
use Rattle.snmp_c.specs.Calls.{Done, Telling}
use Rattle.snmp_c.specs.GateCalls.{why_number}

-- ---- making one, and giving it back

abbrev pub MakesAListener : ListenerSettings → ℤ → Type 0
MakesAListener settings answer = (told : Result ListenerHeld CallFault) × (answer ≡ code told)
    × MakesListener settings told

abbrev pub ClearsListener : ListenerHeld → ListenerHeld → ℤ → Type 0
ClearsListener old new answer = Done (λ told. EmptiesListener old told new) answer

-- ---- what becomes of a datagram

abbrev pub tells_event : ListenerSaid → ListenerEvent → ListenerSaid
tells_event said event = record said { event = event_number event; why = why_number (event_why event) }

abbrev pub TakesNotification : ListenerAsked → ListenerSaid → ListenerSaid → ListenerHeld → ListenerHeld → ℤ → Type 0
TakesNotification asked said said_new old new answer = Telling tells_event
    (λ told. TakesListener old asked.moment asked.from.now asked.octets.now (to_be_bytes w64 asked.salt) told new)
    said said_new answer

-- ---- the other calls

-- what was reported last, where something is kept
abbrev pub TellsListenerInfo : ListenerSaid → ListenerSaid → ListenerHeld → ListenerHeld → ℤ → Type 0
TellsListenerInfo said said_new old new answer = (new ≡ old)
    × MatchOption old.last ((answer ≡ fault_code NothingTaken) × (said_new ≡ said))
    (λ g. (answer ≡ pos 0)
    × ((told : Accepted) × IsToldOf g told × (said_new ≡ record said { accepted = told })))

abbrev pub CountsDropped : ℕ → ListenerSaid → ListenerSaid → ListenerHeld → ListenerHeld → ℤ → Type 0
CountsDropped place said said_new old new answer = (new ≡ old)
    × Telling (λ (s : ListenerSaid) count. record s { count = count }) (CountsListener old place) said said_new answer

abbrev pub SavesClocks : ListenerHeld → ListenerHeld → ℤ → Type 0
SavesClocks old new answer = Done (λ told. SavesListener old told new) answer

abbrev pub ToldSenderPair : List ℕ → ListenerSaid → ListenerSaid → ListenerHeld → ListenerHeld → ℤ → Type 0
ToldSenderPair engine said said_new old new answer = (new ≡ old)
    × Telling (λ (s : ListenerSaid) (pair : BootsAndTime). record s { boots = pair.boots; time = pair.time })
    (TellsSender old engine) said said_new answer

-- ---- all of them

-- the call of a number
abbrev pub listener_call_of : ℕ → Option ListenerCall
listener_call_of n =
    if n == 0 then Some calls.Take else if n == 1 then Some calls.Info else
    if n == 2 then Some calls.Count else if n == 3 then Some calls.Save else if n == 4 then Some calls.Pair else None

abbrev pub ListenerDoes : ListenerCall → ListenerAsked → ListenerSaid → ListenerSaid → ListenerHeld → ListenerHeld → ℤ
    → Type 0
ListenerDoes calls.Take asked said said_new old new answer = TakesNotification asked said said_new old new answer
ListenerDoes calls.Info asked said said_new old new answer = TellsListenerInfo said said_new old new answer
ListenerDoes calls.Count asked said said_new old new answer = CountsDropped asked.place said said_new old new answer
ListenerDoes calls.Save asked said said_new old new answer = (said_new ≡ said) × SavesClocks old new answer
ListenerDoes calls.Pair asked said said_new old new answer =
    ToldSenderPair asked.engine.now said said_new old new answer

-- What is asked is done, and told; where no call has the number nothing changes.
abbrev pub ListenerCalled : ListenerAsked → ListenerSaid → ListenerSaid → ListenerHeld → ListenerHeld → ℤ → Type 0
ListenerCalled asked said said_new old new answer =
    MatchOption (listener_call_of asked.call) ((answer ≡ fault_code BadArgument) × (said_new ≡ said) × (new ≡ old))
    (λ call. ListenerDoes call asked said said_new old new answer)

-- ---- what is copied

abbrev pub ListenerCopies : ℕ → ℕ → List ℕ → List ℕ → ℕ → ℕ → ListenerHeld → ListenerHeld → ℤ → Type 0
ListenerCopies what part out out_new written written_new old new answer = (new ≡ old)
    × CopiedBy what part old.last old.message out out_new written written_new answer

-- What the calls on a forwarder of notifications answer, tell and leave.
--
-- `forward_call_of`: the call of a number. `ForwardCalled`: what is answered, told and left where so is asked, by cases
-- on the call (`ForwardDoes`); what a call doesn't tell stays as it was. `TakesTrapOf`, `TakesReceiverOf`,
-- `SendsNotification`: what becomes of a datagram, and what goes out (`tells_forwarded`). `TellsForwardDue`,
-- `TellsForwardInfo`: those that leave the forwarder as it was. `ForwardCopies`: the datagram that is to be sent is
-- copied. `MakesTheForwarder`: the answer of `_new`. `ClearsForwarder`: all is given back.
use Rattle.std.specs.Prelude.{◌==◌, if◌then◌else◌, ◌≡◌, ◌⊎◌, ℕ, ℤ, pos, List, Option, Some, None, MatchOption, Result}
use Rattle.std.specs.Int.{to_be_bytes, w64}
use Rattle.snmp_forward.specs.Originating.{IsOriginatorDue}
use Rattle.snmp_handles.specs.Faults.{code, fault_code}
use Rattle.snmp_handles.specs.Parts.{CopiesMessage}
use Rattle.snmp_handles.specs.declared.fault.CallFault.{CallFault}
use Rattle.snmp_handles.specs.declared.fault.CallFault.TheVariants.{BadArgument, NothingTaken}
use Rattle.gate_handles.specs.Events.{forward_number, forward_why}
use Rattle.gate_handles.specs.Forwards.{ForwardHeld, MakesForwarder, TakesTrap, TakesReceiver, SendsOn}
use Rattle.gate_handles.specs.Forwards.{EmptiesForwarder, forward_info_of}
use Rattle.gate_handles.specs.declared.forward_event.ForwardEvent.{ForwardEvent}
use Rattle.snmp_c.specs.declared.forward_asked.ForwardAsked.{ForwardAsked}
use Rattle.snmp_c.specs.declared.forward_asked.ForwardSaid.{ForwardSaid}
use Rattle.snmp_c.specs.declared.forward_asked.ForwardCall.{ForwardCall}
use Rattle.snmp_c.specs.declared.forward_asked.ForwardCall.TheVariants as calls
use Rattle.snmp_c.specs.Calls.{Done, Telling}
use Rattle.snmp_c.specs.GateCalls.{why_number}

-- ---- making one, and giving it back

abbrev pub MakesTheForwarder : List ℕ → ℕ → ℕ → ℤ → Type 0
MakesTheForwarder config boots started answer = (told : Result ForwardHeld CallFault) × (answer ≡ code told)
    × MakesForwarder config boots started told

abbrev pub ClearsForwarder : ForwardHeld → ForwardHeld → ℤ → Type 0
ClearsForwarder old new answer = Done (λ told. EmptiesForwarder old told new) answer

-- ---- what becomes of a datagram, and what goes out

abbrev pub tells_forwarded : ForwardSaid → ForwardEvent → ForwardSaid
tells_forwarded said event = record said { event = forward_number event; why = why_number (forward_why event) }

abbrev pub TakesTrapOf : ForwardAsked → ForwardSaid → ForwardSaid → ForwardHeld → ForwardHeld → ℤ → Type 0
TakesTrapOf asked said said_new old new answer = Telling tells_forwarded
    (λ told. TakesTrap old asked.device asked.datagram.now told new) said said_new answer

abbrev pub TakesReceiverOf : ForwardAsked → ForwardSaid → ForwardSaid → ForwardHeld → ForwardHeld → ℤ → Type 0
TakesReceiverOf asked said said_new old new answer = Telling tells_forwarded
    (λ told. TakesReceiver old asked.moment asked.receiver asked.datagram.now told new) said said_new answer

abbrev pub SendsNotification : ForwardAsked → ForwardSaid → ForwardSaid → ForwardHeld → ForwardHeld → ℤ → Type 0
SendsNotification asked said said_new old new answer = Telling tells_forwarded
    (λ told. SendsOn old asked.moment (to_be_bytes w64 asked.salt) asked.ask_id told new) said said_new answer

-- ---- calls that leave the forwarder as it was

-- the moment from which on there is something to do by time alone is reported, or there is none
abbrev pub TellsForwardDue : ForwardSaid → ForwardSaid → ForwardHeld → ForwardHeld → ℤ → Type 0
TellsForwardDue said said_new old new answer = (new ≡ old)
    × (((answer ≡ pos 0) × IsOriginatorDue old.originator (Some said_new.due)
    × (said_new ≡ record said { due = said_new.due }))
    ⊎ ((answer ≡ fault_code NothingTaken) × (said_new ≡ said) × IsOriginatorDue old.originator None))

abbrev pub TellsForwardInfo : ForwardSaid → ForwardSaid → ForwardHeld → ForwardHeld → ℤ → Type 0
TellsForwardInfo said said_new old new answer =
    (new ≡ old) × (answer ≡ pos 0) × (said_new ≡ record said { info = forward_info_of old })

-- ---- all of them

-- the call of a number
abbrev pub forward_call_of : ℕ → Option ForwardCall
forward_call_of n =
    if n == 0 then Some calls.TakeTrap else if n == 1 then Some calls.TakeReceiver else
    if n == 2 then Some calls.Next else if n == 3 then Some calls.Due else if n == 4 then Some calls.Info else None

abbrev pub ForwardDoes : ForwardCall → ForwardAsked → ForwardSaid → ForwardSaid → ForwardHeld → ForwardHeld → ℤ → Type 0
ForwardDoes calls.TakeTrap asked said said_new old new answer = TakesTrapOf asked said said_new old new answer
ForwardDoes calls.TakeReceiver asked said said_new old new answer = TakesReceiverOf asked said said_new old new answer
ForwardDoes calls.Next asked said said_new old new answer = SendsNotification asked said said_new old new answer
ForwardDoes calls.Due asked said said_new old new answer = TellsForwardDue said said_new old new answer
ForwardDoes calls.Info asked said said_new old new answer = TellsForwardInfo said said_new old new answer

-- What is asked is done, and told; where no call has the number nothing changes.
abbrev pub ForwardCalled : ForwardAsked → ForwardSaid → ForwardSaid → ForwardHeld → ForwardHeld → ℤ → Type 0
ForwardCalled asked said said_new old new answer =
    MatchOption (forward_call_of asked.call) ((answer ≡ fault_code BadArgument) × (said_new ≡ said) × (new ≡ old))
    (λ call. ForwardDoes call asked said said_new old new answer)

-- ---- what is copied

abbrev pub ForwardCopies : List ℕ → List ℕ → ℕ → ℕ → ForwardHeld → ForwardHeld → ℤ → Type 0
ForwardCopies out out_new written written_new old new answer = (new ≡ old)
    × Done (λ told. CopiesMessage old.noted.message out out_new written written_new told) answer

-- What the calls on a gateway answer, tell and leave.
--
-- `gate_call_of`: the call of a number. `GateCalled`: what is answered, told and left where so is asked, by cases on
-- the call (`GateDoes`); what a call doesn't tell stays as it was. `TakesFromClient`, `TakesFromDevice`, `SendsDue`:
-- what becomes of a datagram, and what goes out (`tells_event`). `TellsDue`, `TellsGateInfo`, `TellsMayNotify`,
-- `GateCounter`, `GateCount`, `TellsLines`: those that leave the gateway as it was. `GateCopies`: what is copied, by
-- its numbers (`gate_copied_of`). `GateLine`: a line is. `MakesGateway`: the answer of `_new`; `ReadsConfiguration`:
-- that of `_read`. `ClearsGate`: all is given back. `TellsGateConfiguration`, `TellsUser`: those without a handle.
use Rattle.std.specs.Prelude.{◌==◌, if◌then◌else◌, ◌≡◌, ◌⊎◌, ⊤, ℕ, ℤ, pos, List, Option, Some, None, MatchOption}
use Rattle.std.specs.Prelude.{option_map, Result}
use Rattle.std.specs.Int.{to_be_bytes, w64}
use Rattle.vacm_core.specs.declared.access.Access.{Access}
use Rattle.vacm_core.specs.Numbers.{access_number}
use Rattle.snmp_message.specs.Numbers.{refusal_number}
use Rattle.snmp_message.specs.declared.refusal.Refusal.{Refusal}
use Rattle.snmp_agent.specs.Counts.{count_at}
use Rattle.snmp_handles.specs.Faults.{code, fault_code}
use Rattle.snmp_handles.specs.Numbers.{counter_of}
use Rattle.snmp_handles.specs.Parts.{CopiesMessage, CopiesNothing}
use Rattle.snmp_handles.specs.declared.fault.CallFault.{CallFault}
use Rattle.snmp_handles.specs.declared.fault.CallFault.TheVariants.{BadArgument, NothingTaken}
use Rattle.gate_handles.specs.Events.{event_number, event_why}
use Rattle.gate_handles.specs.Gates.{GateHeld, MakesGate, ReadsGate, TakesClient, TakesDevice, SendsNext, Empties}
use Rattle.gate_handles.specs.Gates.{IsGateDue}
use Rattle.gate_handles.specs.Told.{setting_of, ReadsAsker, ReadsSetting, MayNotify, CountsOf, TellsGate, CopiesUser}
use Rattle.gate_handles.specs.Told.{info_of}
use Rattle.gate_handles.specs.Lines.{CopiesLine}
use Rattle.gate_handles.specs.declared.event.GateEvent.{GateEvent}
use Rattle.snmp_c.specs.declared.gate_asked.GateAsked.{GateAsked}
use Rattle.snmp_c.specs.declared.gate_asked.GateSaid.{GateSaid}
use Rattle.snmp_c.specs.declared.gate_asked.GateCall.{GateCall}
use Rattle.snmp_c.specs.declared.gate_asked.GateCall.TheVariants as calls
use Rattle.snmp_c.specs.declared.gate_copied.GateCopied.{GateCopied}
use Rattle.snmp_c.specs.declared.gate_copied.GateCopied.TheVariants.{Message, Client, Asker, Setting}
use Rattle.snmp_c.specs.Calls.{Done, Telling}

-- ---- making one, and giving it back

abbrev pub MakesGateway : List ℕ → ℕ → ℕ → ℤ → Type 0
MakesGateway config boots started answer = (told : Result GateHeld CallFault) × (answer ≡ code told)
    × MakesGate config boots started told

abbrev pub ReadsConfiguration : List ℕ → ℤ → Type 0
ReadsConfiguration config answer = (told : Result GateHeld CallFault) × (answer ≡ code told) × ReadsGate config told

abbrev pub ClearsGate : GateHeld → GateHeld → ℤ → Type 0
ClearsGate old new answer = Done (λ told. Empties old told new) answer

-- ---- what becomes of a datagram, and what goes out

-- the number of a refusal, or 0
abbrev pub why_number : Option Refusal → ℕ
why_number (Some refusal) = refusal_number refusal
why_number None = 0

abbrev pub tells_event : GateSaid → GateEvent → GateSaid
tells_event said event = record said { event = event_number event; why = why_number (event_why event) }

abbrev pub TakesFromClient : GateAsked → GateSaid → GateSaid → GateHeld → GateHeld → ℤ → Type 0
TakesFromClient asked said said_new old new answer = Telling tells_event
    (λ told. TakesClient old asked.moment asked.client.now asked.datagram.now told new) said said_new answer

abbrev pub TakesFromDevice : GateAsked → GateSaid → GateSaid → GateHeld → GateHeld → ℤ → Type 0
TakesFromDevice asked said said_new old new answer = Telling tells_event
    (λ told. TakesDevice old asked.moment asked.device asked.datagram.now told new) said said_new answer

abbrev pub SendsDue : GateAsked → GateSaid → GateSaid → GateHeld → GateHeld → ℤ → Type 0
SendsDue asked said said_new old new answer = Telling tells_event
    (λ told. SendsNext old asked.moment (to_be_bytes w64 asked.salt) asked.ask_id told new) said said_new answer

-- ---- calls that leave the gateway as it was

-- the moment is reported where there is one
abbrev pub TellsDue : GateSaid → GateSaid → GateHeld → GateHeld → ℤ → Type 0
TellsDue said said_new old new answer = (new ≡ old)
    × (((answer ≡ pos 0) × IsGateDue old.gate (Some said_new.due) × (said_new ≡ record said { due = said_new.due }))
    ⊎ ((answer ≡ fault_code NothingTaken) × (said_new ≡ said) × IsGateDue old.gate None))

abbrev pub TellsGateInfo : GateSaid → GateSaid → GateHeld → GateHeld → ℤ → Type 0
TellsGateInfo said said_new old new answer =
    (new ≡ old) × (answer ≡ pos 0) × (said_new ≡ record said { info = info_of old })

abbrev pub TellsMayNotify : GateAsked → GateSaid → GateSaid → GateHeld → GateHeld → ℤ → Type 0
TellsMayNotify asked said said_new old new answer = (new ≡ old)
    × Telling (λ (s : GateSaid) (access : Access). record s { access = access_number access })
    (MayNotify old asked.receiver asked.device asked.arcs.now) said said_new answer

abbrev pub GateCounter : ℕ → GateSaid → GateSaid → GateHeld → GateHeld → ℤ → Type 0
GateCounter n said said_new old new answer = (new ≡ old)
    × Telling (λ (s : GateSaid) value. record s { value = value }) (CountsOf old n) said said_new answer

abbrev pub GateCount : ℕ → GateSaid → GateSaid → GateHeld → GateHeld → ℤ → Type 0
GateCount n said said_new old new answer = (new ≡ old)
    × MatchOption (counter_of n) ((answer ≡ fault_code BadArgument) × (said_new ≡ said))
    (λ counter. (answer ≡ pos 0) × (said_new ≡ record said { value = count_at old.gate.agent.counts counter }))

-- numbers for a log are reported, of which nothing is promised
abbrev pub TellsLines : GateSaid → GateSaid → GateHeld → GateHeld → ℤ → Type 0
TellsLines said said_new old new answer = (new ≡ old) × (answer ≡ pos 0)
    × ((kinds : ℕ) × (said_new ≡ record said { value = kinds }))

-- ---- all of them

-- the call of a number
abbrev pub gate_call_of : ℕ → Option GateCall
gate_call_of n =
    if n == 0 then Some calls.TakeClient else if n == 1 then Some calls.TakeDevice else
    if n == 2 then Some calls.Next else if n == 3 then Some calls.Due else if n == 4 then Some calls.Info else
    if n == 5 then Some calls.MayNotify else if n == 6 then Some calls.Counter else if n == 7 then Some calls.Count else
    if n == 8 then Some calls.Lines else None

abbrev pub GateDoes : GateCall → GateAsked → GateSaid → GateSaid → GateHeld → GateHeld → ℤ → Type 0
GateDoes calls.TakeClient asked said said_new old new answer = TakesFromClient asked said said_new old new answer
GateDoes calls.TakeDevice asked said said_new old new answer = TakesFromDevice asked said said_new old new answer
GateDoes calls.Next asked said said_new old new answer = SendsDue asked said said_new old new answer
GateDoes calls.Due asked said said_new old new answer = TellsDue said said_new old new answer
GateDoes calls.Info asked said said_new old new answer = TellsGateInfo said said_new old new answer
GateDoes calls.MayNotify asked said said_new old new answer = TellsMayNotify asked said said_new old new answer
GateDoes calls.Counter asked said said_new old new answer = GateCounter asked.counter said said_new old new answer
GateDoes calls.Count asked said said_new old new answer = GateCount asked.counter said said_new old new answer
GateDoes calls.Lines asked said said_new old new answer = TellsLines said said_new old new answer

-- What is asked is done, and told; where no call has the number nothing changes.
abbrev pub GateCalled : GateAsked → GateSaid → GateSaid → GateHeld → GateHeld → ℤ → Type 0
GateCalled asked said said_new old new answer =
    MatchOption (gate_call_of asked.call) ((answer ≡ fault_code BadArgument) × (said_new ≡ said) × (new ≡ old))
    (λ call. GateDoes call asked said said_new old new answer)

-- ---- what is copied

-- 0 the datagram that is to be sent, 1 its client, 2 the client of a request, 3 the setting of this number
abbrev pub gate_copied_of : ℕ → ℕ → Option GateCopied
gate_copied_of what which = if what == 0 then Some Message else if what == 1 then Some Client else
    if what == 2 then Some Asker else if what == 3 then option_map Setting (setting_of which) else None

-- of the request of the number, or at the position
abbrev pub CopiesOfGate : GateCopied → ℕ → GateHeld → List ℕ → List ℕ → ℕ → ℕ → Result ⊤ CallFault → Type 0
CopiesOfGate Message number held = CopiesMessage held.message
CopiesOfGate Client number held = CopiesMessage held.client
CopiesOfGate Asker number held = ReadsAsker held number
CopiesOfGate (Setting setting) number held = ReadsSetting held setting number

abbrev pub GateCopies : ℕ → ℕ → ℕ → List ℕ → List ℕ → ℕ → ℕ → GateHeld → GateHeld → ℤ → Type 0
GateCopies what which number out out_new written written_new old new answer = (new ≡ old)
    × MatchOption (gate_copied_of what which)
    ((answer ≡ fault_code BadArgument) × CopiesNothing out out_new written written_new)
    (λ it. Done (λ told. CopiesOfGate it number old out out_new written written_new told) answer)

-- a text for a log
abbrev pub GateLine : List ℕ → List ℕ → ℕ → ℕ → GateHeld → GateHeld → ℤ → Type 0
GateLine out out_new written written_new old new answer = (new ≡ old)
    × Done (CopiesLine out out_new written written_new) answer

-- ---- without a handle

abbrev pub TellsGateConfiguration : List ℕ → List ℕ → List ℕ → ℕ → ℕ → ℤ → Type 0
TellsGateConfiguration config out out_new written written_new answer = Done
    (TellsGate config out out_new written written_new) answer

abbrev pub TellsUser : List ℕ → List ℕ → List ℕ → ℕ → ℕ → ℤ → Type 0
TellsUser datagram out out_new written written_new answer = Done
    (CopiesUser datagram out out_new written written_new) answer

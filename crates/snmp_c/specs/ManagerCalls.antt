-- What the calls on a manager answer, tell and leave.
--
-- `manager_call_of`: the call of a number. `ManagerCalled`: what is answered, told and left where so is asked, by cases
-- on the call (`ManagerDoes`); what a call doesn't tell stays as it was. `ManagerTook`, `Requested`, `Sealed`,
-- `Discovered`, `GaveUp`, `Absorbed`, `Saved`: calls that tell nothing. `TellsManagerInfo`, `TellsManagerSize`,
-- `Answered`, `TookAnswer`, `ToldReport`, `AskedMany`, `DiscoveredMany`, `FoundAnswer`, `ToldPair`: those that tell
-- something. `ManagerCopies`: what is copied. `MakesAManager`: the answer of `_new`. `Clears`: all is given back.
use Rattle.std.specs.Prelude.{◌==◌, if◌then◌else◌, ◌≡◌, ◌≢◌, ℕ, ℤ, pos, List, Option, Some, None, Result, MatchOption}
use Rattle.std.specs.Prelude.{true, false}
use Rattle.std.specs.Int.{to_be_bytes, w64}
use Rattle.engine_clock.specs.Pairs.{BootsAndTime}
use Rattle.snmp_manager.specs.declared.pending.Answer.{Answer}
use Rattle.snmp_manager.specs.declared.pending.Answer.TheVariants as answers
use Rattle.snmp_manager.specs.declared.replies.Report.{Report}
use Rattle.snmp_manager.specs.Takes.{TakesNoMemory}
use Rattle.snmp_requests.specs.declared.answered.AnsweredRequest.{AnsweredRequest}
use Rattle.snmp_requests.specs.declared.device_request.Heard.{Heard}
use Rattle.snmp_requests.specs.declared.device_request.Heard.TheVariants as heards
use Rattle.snmp_handles.specs.declared.fault.CallFault.{CallFault}
use Rattle.snmp_handles.specs.declared.fault.CallFault.TheVariants.{BadArgument, NothingTaken}
use Rattle.snmp_handles.specs.Faults.{code, fault_code}
use Rattle.snmp_handles.specs.Parts.{TellsMaxSize}
use Rattle.snmp_handles.specs.Reports.{TakesAnswer, TellsReport}
use Rattle.snmp_handles.specs.Managers.{ManagerHeld, Asking, MakesManager, ClearsManager, ManagerTakes, TellsAnswer}
use Rattle.snmp_handles.specs.Managers.{RequestsHeld, DiscoversHeld, AbsorbsHeld, SavesHeld, TellsPair}
use Rattle.snmp_handles.specs.ManyRequests.{AsksHeld, DiscoversMany, FindsAnswer, GivesUp}
use Rattle.snmp_handles.specs.Sealings.{Sealing, SealsHeld}
use Rattle.snmp_c.specs.declared.accepted.Accepted.{Accepted}
use Rattle.snmp_c.specs.declared.manager_asked.ManagerAsked.{ManagerAsked}
use Rattle.snmp_c.specs.declared.manager_asked.ManagerSaid.{ManagerSaid}
use Rattle.snmp_c.specs.declared.manager_asked.ManagerCall.{ManagerCall}
use Rattle.snmp_c.specs.declared.manager_asked.ManagerCall.TheVariants as calls
use Rattle.snmp_c.specs.Accepted.{CopiedBy, IsToldOf}
use Rattle.snmp_c.specs.Calls.{Done, Telling}
use Rattle.snmp_c.specs.Devices.{is_set}

-- ---- making one, and giving it back

abbrev pub MakesAManager : List ℕ → List ℕ → ℕ → ℤ → Type 0
MakesAManager config clocks now answer = (told : Result ManagerHeld CallFault) × (answer ≡ code told)
    × MakesManager config clocks now told

abbrev pub Clears : ManagerHeld → ManagerHeld → ℤ → Type 0
Clears old new answer = Done (λ told. ClearsManager old told new) answer

-- ---- calls that tell nothing

-- 14, OutOfMemory, isn't answered where no memory is asked for.
abbrev pub ManagerTook : ℕ → List ℕ → ManagerHeld → ManagerHeld → ℤ → Type 0
ManagerTook now w old new answer = Done (λ told. ManagerTakes old now w told new) answer
    × (TakesNoMemory old.manager now w → answer ≢ pos 14)

-- the request that is asked
abbrev pub request_asked : ManagerAsked → Asking
request_asked asked = record {
  id = asked.message_id;
  engine = asked.engine.now;
  user = asked.user.now;
  level = asked.level;
  context_engine = asked.context_engine.now;
  context_name = asked.context_name.now;
  tag = asked.tag;
  request_id = asked.request_id;
  second = asked.second;
  third = asked.third;
}

abbrev pub Requested : ManagerAsked → ManagerHeld → ManagerHeld → ℤ → Type 0
Requested asked old new answer = Done
    (λ told. RequestsHeld old asked.moment (request_asked asked) asked.octets.now (to_be_bytes w64 asked.salt) told new)
    answer

-- what is sealed as it is asked
abbrev pub sealing_asked : ManagerAsked → Sealing
sealing_asked asked = record {
  id = asked.message_id;
  max_size = asked.max_size;
  reportable = is_set asked.reportable;
  engine = asked.engine.now;
  boots = asked.boots;
  time = asked.time;
  user = asked.user.now;
  level = asked.level;
}

abbrev pub Sealed : ManagerAsked → ManagerHeld → ManagerHeld → ℤ → Type 0
Sealed asked old new answer = Done
    (λ told. SealsHeld old (sealing_asked asked) (to_be_bytes w64 asked.salt) asked.octets.now told new) answer

abbrev pub Discovered : ℕ → ManagerHeld → ManagerHeld → ℤ → Type 0
Discovered id old new answer = Done (λ told. DiscoversHeld old id told new) answer

abbrev pub GaveUp : ℕ → ManagerHeld → ManagerHeld → ℤ → Type 0
GaveUp token old new answer = Done (λ told. GivesUp old token told new) answer

abbrev pub Absorbed : List ℕ → ℕ → ManagerHeld → ManagerHeld → ℤ → Type 0
Absorbed text now old new answer = Done (λ told. AbsorbsHeld old text now told new) answer

abbrev pub Saved : ManagerHeld → ManagerHeld → ℤ → Type 0
Saved old new answer = Done (λ told. SavesHeld old told new) answer

-- ---- calls that tell something

-- what was accepted is reported, where something is kept
abbrev pub TellsManagerInfo : ManagerSaid → ManagerSaid → ManagerHeld → ManagerHeld → ℤ → Type 0
TellsManagerInfo said said_new old new answer = (new ≡ old)
    × MatchOption old.last ((answer ≡ fault_code NothingTaken) × (said_new ≡ said))
    (λ g. (answer ≡ pos 0)
    × ((told : Accepted) × IsToldOf g told × (said_new ≡ record said { accepted = told })))

abbrev pub TellsManagerSize : ManagerSaid → ManagerSaid → ManagerHeld → ManagerHeld → ℤ → Type 0
TellsManagerSize said said_new old new answer = (new ≡ old)
    × Telling (λ (s : ManagerSaid) size. record s { max_size = size }) (TellsMaxSize old.last) said said_new answer

-- 0 its Response, 1 neither, 2 a Report on it, of a counter or of none
abbrev pub tells_answer : ManagerSaid → Answer → ManagerSaid
tells_answer said answers.Response = record said { kind = 0; counter = 0 }
tells_answer said answers.NotForIt = record said { kind = 1; counter = 0 }
tells_answer said (answers.Report counter) = record said { kind = 2; counter = counter }

-- Nothing changes.
abbrev pub Answered : ManagerSaid → ManagerSaid → ManagerHeld → ManagerHeld → ℤ → Type 0
Answered said said_new old new answer = (new ≡ old) × Telling tells_answer (TellsAnswer old) said said_new answer

abbrev pub TookAnswer : ManagerSaid → ManagerSaid → ManagerHeld → ManagerHeld → ℤ → Type 0
TookAnswer said said_new old new answer =
    Telling tells_answer (λ told. TakesAnswer old told new) said said_new answer

abbrev pub tells_value : ManagerSaid → Option ℕ → ManagerSaid
tells_value said None = record said { value = 0; has_value = false }
tells_value said (Some value) = record said { value = value; has_value = true }

-- a Report on the request, with what it tells, or no Report on it
abbrev pub tells_report : ManagerSaid → Option Report → ManagerSaid
tells_report said None = record said { is_report = false }
tells_report said (Some report) =
    tells_value (record said { is_report = true; counter = report.counter; authentic = report.authenticated })
    report.value

abbrev pub ToldReport : ManagerSaid → ManagerSaid → ManagerHeld → ManagerHeld → ℤ → Type 0
ToldReport said said_new old new answer = (new ≡ old) × Telling tells_report (TellsReport old) said said_new answer

abbrev pub AskedMany : ManagerAsked → ManagerSaid → ManagerSaid → ManagerHeld → ManagerHeld → ℤ → Type 0
AskedMany asked said said_new old new answer =
    Telling (λ (s : ManagerSaid) token. record s { token = token })
    (λ told. AsksHeld old asked.moment (request_asked asked) asked.octets.now (to_be_bytes w64 asked.salt) told new)
    said said_new answer

abbrev pub DiscoveredMany : ℕ → ManagerSaid → ManagerSaid → ManagerHeld → ManagerHeld → ℤ → Type 0
DiscoveredMany first said said_new old new answer =
    Telling (λ (s : ManagerSaid) token. record s { token = token }) (λ told. DiscoversMany old first told new)
    said said_new answer

abbrev pub tells_heard : ManagerSaid → Heard → ManagerSaid
tells_heard said heards.Response = record said { kind = 0; counter = 0; authentic = false }
tells_heard said (heards.Report counter authentic) = record said { kind = 2; counter = counter; authentic = authentic }

-- the token of the request that is answered, and what the message is to it; or the message answers none that waits
abbrev pub tells_answered : ManagerSaid → Option AnsweredRequest → ManagerSaid
tells_answered said None = record said { kind = 1; counter = 0; authentic = false }
tells_answered said (Some told) = tells_heard (record said { token = told.token }) told.heard

abbrev pub FoundAnswer : ManagerSaid → ManagerSaid → ManagerHeld → ManagerHeld → ℤ → Type 0
FoundAnswer said said_new old new answer =
    Telling tells_answered (λ told. FindsAnswer old told new) said said_new answer

abbrev pub ToldPair : List ℕ → ManagerSaid → ManagerSaid → ManagerHeld → ManagerHeld → ℤ → Type 0
ToldPair engine said said_new old new answer = (new ≡ old)
    × Telling (λ (s : ManagerSaid) (pair : BootsAndTime). record s { boots = pair.boots; time = pair.time })
    (TellsPair old engine) said said_new answer

-- ---- all of them

-- the call of a number
abbrev pub manager_call_of : ℕ → Option ManagerCall
manager_call_of n =
    if n == 0 then Some calls.Take else if n == 1 then Some calls.Info else if n == 2 then Some calls.MaxSize else
    if n == 3 then Some calls.Answer else if n == 4 then Some calls.TakeAnswer else
    if n == 5 then Some calls.Report else if n == 6 then Some calls.Request else if n == 7 then Some calls.Seal else
    if n == 8 then Some calls.Discover else
    if n == 9 then Some calls.Ask else if n == 10 then Some calls.AskDiscovery else if n == 11 then Some
    calls.FindAnswer else
    if n == 12 then Some calls.GiveUp else if n == 13 then Some calls.Absorb else if n == 14 then Some calls.Save else
    if n == 15 then Some calls.Pair else None

abbrev pub ManagerDoes : ManagerCall → ManagerAsked → ManagerSaid → ManagerSaid → ManagerHeld → ManagerHeld → ℤ
    → Type 0
ManagerDoes calls.Take asked said said_new old new answer =
    (said_new ≡ said) × ManagerTook asked.moment asked.octets.now old new answer
ManagerDoes calls.Info asked said said_new old new answer = TellsManagerInfo said said_new old new answer
ManagerDoes calls.MaxSize asked said said_new old new answer = TellsManagerSize said said_new old new answer
ManagerDoes calls.Answer asked said said_new old new answer = Answered said said_new old new answer
ManagerDoes calls.TakeAnswer asked said said_new old new answer = TookAnswer said said_new old new answer
ManagerDoes calls.Report asked said said_new old new answer = ToldReport said said_new old new answer
ManagerDoes calls.Request asked said said_new old new answer = (said_new ≡ said) × Requested asked old new answer
ManagerDoes calls.Seal asked said said_new old new answer = (said_new ≡ said) × Sealed asked old new answer
ManagerDoes calls.Discover asked said said_new old new answer =
    (said_new ≡ said) × Discovered asked.message_id old new answer
ManagerDoes calls.Ask asked said said_new old new answer = AskedMany asked said said_new old new answer
ManagerDoes calls.AskDiscovery asked said said_new old new answer =
    DiscoveredMany asked.message_id said said_new old new answer
ManagerDoes calls.FindAnswer asked said said_new old new answer = FoundAnswer said said_new old new answer
ManagerDoes calls.GiveUp asked said said_new old new answer = (said_new ≡ said) × GaveUp asked.token old new answer
ManagerDoes calls.Absorb asked said said_new old new answer =
    (said_new ≡ said) × Absorbed asked.octets.now asked.moment old new answer
ManagerDoes calls.Save asked said said_new old new answer = (said_new ≡ said) × Saved old new answer
ManagerDoes calls.Pair asked said said_new old new answer = ToldPair asked.engine.now said said_new old new answer

-- What is asked is done, and told; where no call has the number nothing changes.
abbrev pub ManagerCalled : ManagerAsked → ManagerSaid → ManagerSaid → ManagerHeld → ManagerHeld → ℤ → Type 0
ManagerCalled asked said said_new old new answer =
    MatchOption (manager_call_of asked.call) ((answer ≡ fault_code BadArgument) × (said_new ≡ said) × (new ≡ old))
    (λ call. ManagerDoes call asked said said_new old new answer)

-- ---- what is copied

abbrev pub ManagerCopies : ℕ → ℕ → List ℕ → List ℕ → ℕ → ℕ → ManagerHeld → ManagerHeld → ℤ → Type 0
ManagerCopies what part out out_new written written_new old new answer = (new ≡ old)
    × CopiedBy what part old.last old.message out out_new written written_new answer

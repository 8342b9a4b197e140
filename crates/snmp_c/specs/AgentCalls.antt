-- What the calls on an agent answer, tell and leave.
--
-- `agent_call_of`: the call of a number. `AgentCalled`: what is answered, told and left where so is asked, by cases on
-- the call (`AgentDoes`); what a call doesn't tell stays as it was. `Takes`, `Reconfigured`, `RespondsTo`,
-- `RespondsToWithin`, `RefusesKept`, `DropsSilently`, `Notifies`: calls that tell nothing. `TellsInfo`, `TellsSize`,
-- `Allows`, `May`, `UnhandledBy`, `RespondsToFront`, `HasRoom`, `Counter`, `CountOf`: those that tell something.
-- `AgentCopies`, `WritesNextName`: what is copied. `Makes`: the answer of `_new`. `ClearsAgent`: all is given back.
use Rattle.std.specs.Prelude.{◌==◌, if◌then◌else◌, ◌≡◌, ◌≢◌, ℕ, ℤ, pos, List, Option, Some, None, Result, MatchOption}
use Rattle.std.specs.Int.{to_be_bytes, w64}
use Rattle.vacm_core.specs.Numbers.{access_number}
use Rattle.snmp_incoming.specs.Outcome.{Given}
use Rattle.snmp_outgoing.specs.declared.counter.Counter.TheVariants.{SilentDrops}
use Rattle.snmp_agent.specs.declared.unhandled.Unhandled.{Unhandled}
use Rattle.snmp_agent.specs.Counts.{count_at, one_more}
use Rattle.snmp_handles.specs.declared.fault.CallFault.{CallFault}
use Rattle.snmp_handles.specs.declared.fault.CallFault.TheVariants.{BadArgument, NothingTaken}
use Rattle.snmp_handles.specs.Faults.{code, fault_code}
use Rattle.snmp_handles.specs.Numbers.{counter_of, unhandled_of, unhandled_number}
use Rattle.snmp_handles.specs.Dispatch.{FitsHeld, RespondsHeldWithin, RespondsHeldFront, TellsUnhandled, ReportsHeld}
use Rattle.snmp_handles.specs.Parts.{TellsMaxSize}
use Rattle.snmp_handles.specs.Agents.{AgentHeld, Clears, MakesAgent, TakesHeld, TakesNoMemory, AllowsHeld, MaySee}
use Rattle.snmp_handles.specs.Agents.{Counts, Notice, NotifiesHeld, Reconfigures, RespondsHeld}
use Rattle.snmp_handles.specs.Walks.{WritesNext}
use Rattle.snmp_c.specs.declared.accepted.Accepted.{Accepted}
use Rattle.snmp_c.specs.declared.agent_asked.AgentAsked.{AgentAsked}
use Rattle.snmp_c.specs.declared.agent_asked.AgentSaid.{AgentSaid}
use Rattle.snmp_c.specs.declared.agent_asked.AgentCall.{AgentCall}
use Rattle.snmp_c.specs.declared.agent_asked.AgentCall.TheVariants as calls
use Rattle.snmp_c.specs.Accepted.{CopiedBy, IsToldOf}
use Rattle.snmp_c.specs.Calls.{Done, Telling}

-- ---- making one, and giving it back

abbrev pub Makes : List ℕ → List ℕ → ℕ → ℕ → ℤ → Type 0
Makes config engine boots started answer = (told : Result AgentHeld CallFault) × (answer ≡ code told)
    × MakesAgent config engine boots started told

abbrev pub ClearsAgent : AgentHeld → AgentHeld → ℤ → Type 0
ClearsAgent old new answer = Done (λ told. Clears old told new) answer

-- ---- calls that tell nothing

abbrev pub Reconfigured : List ℕ → AgentHeld → AgentHeld → ℤ → Type 0
Reconfigured config old new answer = Done (λ told. Reconfigures old config told new) answer

-- 14, OutOfMemory, isn't answered where no memory is asked for.
abbrev pub Takes : ℕ → List ℕ → AgentHeld → AgentHeld → ℤ → Type 0
Takes now w old new answer = Done (λ told. TakesHeld old now w told new) answer
    × (TakesNoMemory old.agent now w → answer ≢ pos 14)

abbrev pub RespondsTo : AgentAsked → AgentHeld → AgentHeld → ℤ → Type 0
RespondsTo asked old new answer = Done
    (λ told. RespondsHeld old asked.moment asked.status asked.index asked.octets.now (to_be_bytes w64 asked.salt)
    told new) answer

abbrev pub RespondsToWithin : AgentAsked → AgentHeld → AgentHeld → ℤ → Type 0
RespondsToWithin asked old new answer = Done
    (λ told. RespondsHeldWithin old asked.moment asked.status asked.index asked.octets.now
    (to_be_bytes w64 asked.salt) asked.limit told new) answer

-- What is kept is counted and its report left to be sent; a number of nothing is answered as such, and changes nothing.
abbrev pub RefusesKept : ℕ → ℕ → ℕ → AgentHeld → AgentHeld → ℤ → Type 0
RefusesKept now why salt old new answer =
    MatchOption (unhandled_of why) ((answer ≡ fault_code BadArgument) × (new ≡ old))
    (λ why. Done (λ told. ReportsHeld old now why (to_be_bytes w64 salt) told new) answer)

abbrev pub DropsSilently : AgentHeld → AgentHeld → ℤ → Type 0
DropsSilently old new answer = (answer ≡ pos 0)
    × (new ≡ record old { agent = record old.agent { counts = one_more old.agent.counts (Some SilentDrops) } })

-- the notification that is asked for
abbrev pub notice_asked : AgentAsked → Notice
notice_asked asked = record {
  id = asked.message_id;
  user = asked.user.now;
  level = asked.level;
  request_id = asked.request_id;
  context_engine = asked.context_engine.now;
  context_name = asked.context_name.now;
}

abbrev pub Notifies : AgentAsked → AgentHeld → AgentHeld → ℤ → Type 0
Notifies asked old new answer = Done
    (λ told. NotifiesHeld old asked.moment (notice_asked asked) asked.octets.now (to_be_bytes w64 asked.salt) told new)
    answer

-- ---- calls that tell something

-- what was accepted is reported, where something is kept
abbrev pub TellsInfo : Option Given → AgentSaid → AgentSaid → ℤ → Type 0
TellsInfo last said said_new answer =
    MatchOption last ((answer ≡ fault_code NothingTaken) × (said_new ≡ said))
    (λ g. (answer ≡ pos 0)
    × ((told : Accepted) × IsToldOf g told × (said_new ≡ record said { accepted = told })))

abbrev pub TellsSize : Option Given → AgentSaid → AgentSaid → ℤ → Type 0
TellsSize last said said_new answer =
    Telling (λ (s : AgentSaid) size. record s { max_size = size }) (TellsMaxSize last) said said_new answer

abbrev pub Allows : ℕ → List ℕ → AgentSaid → AgentSaid → AgentHeld → AgentHeld → ℤ → Type 0
Allows view arcs said said_new old new answer = (new ≡ old)
    × Telling (λ (s : AgentSaid) access. record s { access = access_number access }) (AllowsHeld old view arcs)
    said said_new answer

abbrev pub May : AgentAsked → AgentSaid → AgentSaid → AgentHeld → AgentHeld → ℤ → Type 0
May asked said said_new old new answer = (new ≡ old)
    × Telling (λ (s : AgentSaid) access. record s { access = access_number access })
    (MaySee old asked.user.now asked.level asked.context_name.now asked.view asked.arcs.now) said said_new answer

abbrev pub UnhandledBy : AgentSaid → AgentSaid → AgentHeld → AgentHeld → ℤ → Type 0
UnhandledBy said said_new old new answer = (new ≡ old)
    × Telling (λ (s : AgentSaid) (why : Option Unhandled). record s { unhandled = pos (unhandled_number why) })
    (TellsUnhandled old) said said_new answer

-- As many of the bindings are answered as have room, from the first on, and their number is reported.
abbrev pub RespondsToFront : AgentAsked → AgentSaid → AgentSaid → AgentHeld → AgentHeld → ℤ → Type 0
RespondsToFront asked said said_new old new answer =
    Telling (λ (s : AgentSaid) count. record s { count = count })
    (λ told. RespondsHeldFront old asked.moment asked.status asked.index asked.octets.now
    (to_be_bytes w64 asked.salt) asked.limit told new) said said_new answer

-- As many of the bindings have room in that Response, and nothing is written.
abbrev pub HasRoom : AgentAsked → AgentSaid → AgentSaid → AgentHeld → AgentHeld → ℤ → Type 0
HasRoom asked said said_new old new answer = (new ≡ old)
    × Telling (λ (s : AgentSaid) count. record s { count = count })
    (FitsHeld old asked.moment asked.status asked.index asked.octets.now (to_be_bytes w64 asked.salt) asked.limit)
    said said_new answer

abbrev pub Counter : ℕ → AgentSaid → AgentSaid → AgentHeld → AgentHeld → ℤ → Type 0
Counter n said said_new old new answer = (new ≡ old)
    × Telling (λ (s : AgentSaid) value. record s { value = value }) (Counts old n) said said_new answer

abbrev pub CountOf : ℕ → AgentSaid → AgentSaid → AgentHeld → AgentHeld → ℤ → Type 0
CountOf n said said_new old new answer = (new ≡ old)
    × MatchOption (counter_of n) ((answer ≡ fault_code BadArgument) × (said_new ≡ said))
    (λ counter. (answer ≡ pos 0) × (said_new ≡ record said { value = count_at old.agent.counts counter }))

-- ---- all of them

-- the call of a number
abbrev pub agent_call_of : ℕ → Option AgentCall
agent_call_of n =
    if n == 0 then Some calls.Reconfigure else if n == 1 then Some calls.Take else if n == 2 then Some calls.Info else
    if n == 3 then Some calls.MaxSize else if n == 4 then Some calls.Allows else if n == 5 then Some calls.May else
    if n == 6 then Some calls.Unhandled else if n == 7 then Some calls.Respond else if n == 8 then Some
    calls.RespondWithin else
    if n == 9 then Some calls.RespondFront else if n == 10 then Some calls.Fits else if n == 11 then Some calls.Refuse
    else if n == 12 then Some calls.SilentDrop else if n == 13 then Some calls.Notify else
    if n == 14 then Some calls.Counter else if n == 15 then Some calls.Count else None

abbrev pub AgentDoes : AgentCall → AgentAsked → AgentSaid → AgentSaid → AgentHeld → AgentHeld → ℤ → Type 0
AgentDoes calls.Reconfigure asked said said_new old new answer =
    (said_new ≡ said) × Reconfigured asked.octets.now old new answer
AgentDoes calls.Take asked said said_new old new answer =
    (said_new ≡ said) × Takes asked.moment asked.octets.now old new answer
AgentDoes calls.Info asked said said_new old new answer = (new ≡ old) × TellsInfo old.last said said_new answer
AgentDoes calls.MaxSize asked said said_new old new answer = (new ≡ old) × TellsSize old.last said said_new answer
AgentDoes calls.Allows asked said said_new old new answer =
    Allows asked.view asked.arcs.now said said_new old new answer
AgentDoes calls.May asked said said_new old new answer = May asked said said_new old new answer
AgentDoes calls.Unhandled asked said said_new old new answer = UnhandledBy said said_new old new answer
AgentDoes calls.Respond asked said said_new old new answer = (said_new ≡ said) × RespondsTo asked old new answer
AgentDoes calls.RespondWithin asked said said_new old new answer =
    (said_new ≡ said) × RespondsToWithin asked old new answer
AgentDoes calls.RespondFront asked said said_new old new answer = RespondsToFront asked said said_new old new answer
AgentDoes calls.Fits asked said said_new old new answer = HasRoom asked said said_new old new answer
AgentDoes calls.Refuse asked said said_new old new answer =
    (said_new ≡ said) × RefusesKept asked.moment asked.why asked.salt old new answer
AgentDoes calls.SilentDrop asked said said_new old new answer = (said_new ≡ said) × DropsSilently old new answer
AgentDoes calls.Notify asked said said_new old new answer = (said_new ≡ said) × Notifies asked old new answer
AgentDoes calls.Counter asked said said_new old new answer = Counter asked.counter said said_new old new answer
AgentDoes calls.Count asked said said_new old new answer = CountOf asked.counter said said_new old new answer

-- What is asked is done, and told; where no call has the number nothing changes.
abbrev pub AgentCalled : AgentAsked → AgentSaid → AgentSaid → AgentHeld → AgentHeld → ℤ → Type 0
AgentCalled asked said said_new old new answer =
    MatchOption (agent_call_of asked.call) ((answer ≡ fault_code BadArgument) × (said_new ≡ said) × (new ≡ old))
    (λ call. AgentDoes call asked said said_new old new answer)

-- ---- what is copied

abbrev pub AgentCopies : ℕ → ℕ → List ℕ → List ℕ → ℕ → ℕ → AgentHeld → AgentHeld → ℤ → Type 0
AgentCopies what part out out_new written written_new old new answer = (new ≡ old)
    × CopiedBy what part old.last old.message out out_new written written_new answer

-- the least name, at or after these arcs, that the sender of what is kept may see is in the buffer
abbrev pub WritesNextName : ℕ → List ℕ → List ℕ → List ℕ → ℕ → ℕ → AgentHeld → AgentHeld → ℤ → Type 0
WritesNextName view from out out_new written written_new old new answer = (new ≡ old)
    × Done (λ told. WritesNext old view from out out_new written written_new told) answer

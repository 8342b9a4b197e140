-- What the calls on a message that is kept outside of its agent's handle answer, tell and leave.
--
-- `MakesKept`: the answer of `_new`. `Keeps`, `Restores`: what the agent accepted last is moved out, and back.
-- `KeptAnswered`: the agent answers what is kept just as it answers what it accepted last (`WithKept`): `AnswersKept`,
-- `AnswersKeptWithin`, `AnswersKeptFront`, by the call (`AnswersKeptBy`). `KeptCalled`: what is kept, by the call
-- (`TellsKeptBy`); `TellsKeptPart`: a part of it. `ClearsKept`: its memory is given back.
use Rattle.std.specs.Prelude.{◌≡◌, ◌⊎◌, ℕ, ℤ, pos, List, Option, Some, None, MatchOption}
use Rattle.snmp_message.specs.declared.refusal.Refusal.TheVariants.{OutOfMemory}
use Rattle.snmp_incoming.specs.Outcome.{Given}
use Rattle.snmp_handles.specs.declared.fault.CallFault.TheVariants.{Refused, BadArgument}
use Rattle.snmp_handles.specs.Faults.{fault_code}
use Rattle.snmp_handles.specs.Agents.{AgentHeld}
use Rattle.snmp_handles.specs.Kept.{KeepsLast, RestoresLast, WithKept}
use Rattle.snmp_handles.specs.Parts.{part_of, CopiesNothing, CopiesPart}
use Rattle.snmp_c.specs.declared.agent_asked.AgentAsked.{AgentAsked}
use Rattle.snmp_c.specs.declared.agent_asked.AgentSaid.{AgentSaid}
use Rattle.snmp_c.specs.declared.agent_asked.AgentCall.{AgentCall}
use Rattle.snmp_c.specs.declared.agent_asked.AgentCall.TheVariants as calls
use Rattle.snmp_c.specs.AgentCalls.{agent_call_of, RespondsTo, RespondsToWithin, RespondsToFront, TellsInfo, TellsSize}
use Rattle.snmp_c.specs.Calls.{Done}

abbrev pub MakesKept : ℤ → Type 0
MakesKept answer = (answer ≡ pos 0) ⊎ (answer ≡ fault_code (Refused OutOfMemory))

-- ---- out of the handle, and back

abbrev pub Keeps : AgentHeld → Option Given → AgentHeld → Option Given → ℤ → Type 0
Keeps old kept new kept_new answer = Done (λ told. KeepsLast old kept told new kept_new) answer

abbrev pub Restores : AgentHeld → Option Given → AgentHeld → Option Given → ℤ → Type 0
Restores old kept new kept_new answer = Done (λ told. RestoresLast old kept told new kept_new) answer

-- ---- answering

abbrev pub AnswersKept : AgentAsked → AgentHeld → Option Given → AgentHeld → Option Given → ℤ → Type 0
AnswersKept asked old kept new kept_new answer =
    WithKept (λ before after. RespondsTo asked before after answer) old kept new kept_new

abbrev pub AnswersKeptWithin : AgentAsked → AgentHeld → Option Given → AgentHeld → Option Given → ℤ → Type 0
AnswersKeptWithin asked old kept new kept_new answer =
    WithKept (λ before after. RespondsToWithin asked before after answer) old kept new kept_new

abbrev pub AnswersKeptFront : AgentAsked → AgentSaid → AgentSaid → AgentHeld → Option Given → AgentHeld → Option Given
    → ℤ → Type 0
AnswersKeptFront asked said said_new old kept new kept_new answer =
    WithKept (λ before after. RespondsToFront asked said said_new before after answer) old kept new kept_new

-- by the agent's calls that write a Response
abbrev pub AnswersKeptBy : Option AgentCall → AgentAsked → AgentSaid → AgentSaid → AgentHeld → Option Given → AgentHeld
    → Option Given → ℤ → Type 0
AnswersKeptBy (Some calls.Respond) asked said said_new old kept new kept_new answer =
    (said_new ≡ said) × AnswersKept asked old kept new kept_new answer
AnswersKeptBy (Some calls.RespondWithin) asked said said_new old kept new kept_new answer =
    (said_new ≡ said) × AnswersKeptWithin asked old kept new kept_new answer
AnswersKeptBy (Some calls.RespondFront) asked said said_new old kept new kept_new answer =
    AnswersKeptFront asked said said_new old kept new kept_new answer
AnswersKeptBy _ asked said said_new old kept new kept_new answer =
    (answer ≡ fault_code BadArgument) × (said_new ≡ said) × (new ≡ old) × (kept_new ≡ kept)

abbrev pub KeptAnswered : AgentAsked → AgentSaid → AgentSaid → AgentHeld → Option Given → AgentHeld → Option Given → ℤ
    → Type 0
KeptAnswered asked said said_new old kept new kept_new answer =
    AnswersKeptBy (agent_call_of asked.call) asked said said_new old kept new kept_new answer

-- ---- what is kept

-- the part of this number of what is kept is in the buffer
abbrev pub TellsKeptPart : ℕ → List ℕ → List ℕ → ℕ → ℕ → Option Given → Option Given → ℤ → Type 0
TellsKeptPart n out out_new written written_new old new answer = (new ≡ old)
    × MatchOption (part_of n) ((answer ≡ fault_code BadArgument) × CopiesNothing out out_new written written_new)
    (λ part. Done (λ told. CopiesPart old part out out_new written written_new told) answer)

-- by the agent's calls that tell of what was accepted
abbrev pub TellsKeptBy : Option AgentCall → Option Given → AgentSaid → AgentSaid → ℤ → Type 0
TellsKeptBy (Some calls.Info) kept said said_new answer = TellsInfo kept said said_new answer
TellsKeptBy (Some calls.MaxSize) kept said said_new answer = TellsSize kept said said_new answer
TellsKeptBy _ kept said said_new answer = (answer ≡ fault_code BadArgument) × (said_new ≡ said)

abbrev pub KeptCalled : ℕ → AgentSaid → AgentSaid → Option Given → Option Given → ℤ → Type 0
KeptCalled number said said_new old new answer =
    (new ≡ old) × TellsKeptBy (agent_call_of number) old said said_new answer

-- ---- giving back

abbrev pub ClearsKept : Option Given → Option Given → ℤ → Type 0
ClearsKept old new answer = (answer ≡ pos 0) × (new ≡ None)

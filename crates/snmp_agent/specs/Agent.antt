-- An agent, and what its taking of a datagram answers and leaves.
--
-- `AgentTakes`. What a take answers and leaves: the table's answer, one more in the counter of a refusal
-- that has one, modulo 2^32, and nothing else changed; if memory runs out no answer, and all as before.
-- `IsOpened`: the message comes as far as its opening and is sealed, the one case in which a take needs
-- memory besides a report.
use Rattle.usm_core.specs.Table.{refusal_answer}
use Rattle.snmp_message.specs.declared.refusal.Refusal.{Refusal}
use Rattle.std.specs.Prelude.{◌≡◌, ℕ, List, Option, Some, None, Result, Ok, Err, true}
use Rattle.usm_users.specs.User.{User}
use Rattle.usm_core.specs.Verified.{Verified, Verifies}
use Rattle.vacm_core.specs.Tables.{Tables}
use Rattle.snmp_incoming.specs.declared.taken.Taken.{Taken}
use Rattle.snmp_incoming.specs.Outcome.{Given, Taker, as_agent, side_at, ClockRuns, IsFresh, Outcome}
use Rattle.snmp_incoming.specs.Answers.{given_of}
use Rattle.snmp_agent.specs.declared.refused.Refused.{Refused}
use Rattle.snmp_agent.specs.declared.engine.Engine.{Engine}
use Rattle.snmp_agent.specs.RefusalCounters.{counters_after}
use Rattle.snmp_agent.specs.Counts.{counts_after}

-- its engine ID, its boots, the moment of its start, its users, its tables, its six usmStats, and its eight
-- other counters
pub record AgentState : Type 0 where
  pub engine : List ℕ
  pub boots : ℕ
  pub started : ℕ
  pub users : List User
  pub tables : Tables
  pub counters : List ℕ
  pub counts : List ℕ

abbrev pub taker_of : AgentState → Taker
taker_of a = as_agent a.engine a.boots a.started

abbrev pub taker_at : Engine → Taker
taker_at e = as_agent e.id e.boots e.started

-- the answer to a datagram; None if memory ran out, which is no answer of the table
abbrev pub taken_answer : Result Taken Refused → Option (Result Given Refusal)
taken_answer (Ok t) = Some (Ok (given_of t))
taken_answer (Err r) = refusal_answer r.why.refusal

-- The answer is the table's, and nothing but the counter of the refusal changes. If memory runs out there is
-- no answer, and all is as before.
abbrev pub AgentTakes : AgentState → ℕ → List ℕ → Option (Result Given Refusal) → AgentState → Type 0
AgentTakes old now w None new = new ≡ old
AgentTakes old now w (Some answer) new =
    Outcome (taker_of old) old.users now w answer
    × (new ≡ record old { counters = counters_after old.counters answer; counts = counts_after old.counts answer })

-- A message comes as far as its opening, and is sealed, so that memory is needed for what it is opened to.
pub record IsOpened (taker : Taker) (users : List User) (now : ℕ) (w : List ℕ) : Type 0 where
  pub runs : ClockRuns taker now
  pub message : Verified
  pub verifies : Verifies (side_at taker) users w (Ok message)
  pub fresh : message.parts.header.auth ≡ true → IsFresh taker now message
  pub sealed : message.parts.header.privacy ≡ true

-- What a caller writes of agents' handles.
use Rattle.std.proofs.Common.{◌≡◌, ◌∙◌, ℕ, List, Option, Some, None, sym, ap, subst, true}
use Rattle.std.specs.Prelude.{⊤, Result, Ok, Err, is_err}
use Rattle.snmp_message.specs.Scoped.{Contexts, ScopedFront}
use Rattle.snmp_message.specs.declared.refusal.Refusal.{Refusal}
use Rattle.usm_core.specs.Table.{refusal_answer}
use Rattle.usm_users.specs.User.{User}
use Rattle.vacm_core.specs.Allowed.{Allowed, Requester}
use Rattle.vacm_core.specs.Tables.{Tables}
use Rattle.vacm_core.specs.declared.access.Access.{Access}
use Rattle.vacm_core.specs.declared.access.ViewType.{ViewType}
use Rattle.snmp_incoming.specs.Outcome.{Given, as_agent}
use Rattle.snmp_agent.specs.Agent.{AgentState, AgentTakes, taker_of}
use Rattle.snmp_agent.specs.Decides.{HoldsRows, question_of}
use Rattle.snmpsec_config.specs.Refusals.{Loads}
use Rattle.snmp_handles.specs.Agents.{AgentHeld, AllowsHeld, MakesAgent, TakesHeld, begins}
use Rattle.snmp_handles.specs.declared.fault.CallFault.{CallFault}
use Rattle.snmp_handles.specs.declared.fault.CallFault.TheVariants.{Refused, BadArgument, NothingTaken, NotAsked, BadBindings, ShortBuffer}
use Rattle.snmp_handles.specs.declared.fault.CallFault.TheVariants.{BadConfiguration, BadClocks, TooManyRequests}
use Rattle.tests_callers.specs.AgentHandles.{ChangesCounters, IsAllowedByRows, IsAllowedTo}
use Rattle.tests_callers.specs.declared.agent_handles.Beginning.{Beginning}

-- ---- access

-- what is kept is what was accepted, and the tables are as before
pub allowed_to : (old new : AgentHeld) (now : ℕ) (w : List ℕ) (view : ℕ) (arcs : List ℕ) (access : Access) → TakesHeld {V = ⊤} old now w (Ok tt) new → AllowsHeld new view arcs (Ok access)
    → IsAllowedTo (taker_of old.agent) old.agent.users old.agent.tables now w view arcs access
allowed_to old new now w view arcs access takes allows =
    let both : Some takes.0 ≡ Some allows.0 = sym takes.1 ∙ allows.2 in
    let given_is : allows.0 ≡ takes.0 = cc both in
    let tables_are : new.agent.tables ≡ old.agent.tables = ap (λ (a : AgentState). a.tables) takes.3.1 in
    let A : Tables → Given → Type 0 = λ tables g. (c : Contexts) → ScopedFront g.text c → Allowed tables (question_of g c) allows.1 arcs access in
    record {
      given = takes.0;
      accepted = takes.3.0;
      asked = allows.1;
      asked_is = allows.3;
      allowed = subst (λ (tables : Tables). A tables takes.0) tables_are (subst (A new.agent.tables) given_is allows.5);
    }

module _ (defined : (rows : Tables) (agent : AgentState) → HoldsRows rows agent → (requester : Requester) (view : ViewType) (variable : List ℕ) (answer : Access)
    → Allowed agent.tables requester view variable answer → Allowed rows requester view variable answer) where
  pub by_rows : (begun : Beginning) (made : AgentHeld) (now : ℕ) (w : List ℕ) (view : ℕ) (arcs : List ℕ) (access : Access) → MakesAgent begun.config.now begun.engine.now begun.boots begun.started (Ok made)
      → IsAllowedTo (taker_of made.agent) made.agent.users made.agent.tables now w view arcs access → IsAllowedByRows begun now w view arcs access
  by_rows begun made now w view arcs access makes allowed =
      let loads : Loads begun.config.now makes.1.0 makes.1.1 = makes.1.2 in
      let start : AgentHeld = begins begun.engine.now begun.boots begun.started makes.1.0 makes.1.1 in
      let by_start = subst (λ (h : AgentHeld). IsAllowedTo (taker_of h.agent) h.agent.users h.agent.tables now w view arcs access) makes.1.3 allowed in
      let by_users = subst (λ (users : List User). IsAllowedTo (as_agent begun.engine.now begun.boots begun.started) users makes.1.1 now w view arcs access) loads.same_users by_start in (
        loads.users,
        loads.rows,
        loads.sound,
        record {
          given = by_users.given;
          accepted = by_users.accepted;
          asked = by_users.asked;
          asked_is = by_users.asked_is;
          allowed = λ c front. defined loads.rows start.agent loads.same_rows (question_of by_users.given c) by_users.asked arcs access (by_users.allowed c front);
        },
      )

-- ---- refusals

agent_changes : (old new : AgentState) (now : ℕ) (w : List ℕ) (o : Option (Result Given Refusal)) → AgentTakes old now w o new
    → (counters : List ℕ) × (counts : List ℕ) × (new ≡ record old { counters = counters; counts = counts })
agent_changes old new now w None same = (old.counters, old.counts, same)
agent_changes old new now w (Some answer) takes = (_, _, takes.1)

pub changes_counters : (old new : AgentHeld) (now : ℕ) (w : List ℕ) (told : Result ⊤ CallFault) → is_err told ≡ true → TakesHeld old now w told new → ChangesCounters old new
changes_counters old new now w (Ok done) refused takes = cc refused
changes_counters old new now w (Err (Refused r)) refused takes =
    let changed = agent_changes old.agent new.agent now w (refusal_answer r) takes.1 in
    record { counters = changed.0; counts = changed.1; agent = changed.2; nothing_kept = takes.0 }
changes_counters old new now w (Err BadArgument) refused takes = absurd takes
changes_counters old new now w (Err NothingTaken) refused takes = absurd takes
changes_counters old new now w (Err NotAsked) refused takes = absurd takes
changes_counters old new now w (Err BadBindings) refused takes = absurd takes
changes_counters old new now w (Err ShortBuffer) refused takes = absurd takes
changes_counters old new now w (Err BadConfiguration) refused takes = absurd takes
changes_counters old new now w (Err BadClocks) refused takes = absurd takes
changes_counters old new now w (Err TooManyRequests) refused takes = absurd takes

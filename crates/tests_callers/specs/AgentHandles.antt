-- What a caller concludes of an agent's handle.
--
-- `IsAllowedByRows`: an answer on access by the rows of a configuration, for who sent an accepted datagram;
-- `IsAllowedTo`: by any tables.
-- `ChangesCounters`: what a refused datagram leaves. `IsAcceptedInTime`: a Response is accepted by a manager exactly
-- where its pair is in the window of what the manager then holds.
use Rattle.std.specs.Prelude.{◌≡◌, ℕ, Bool, pos, List, map, Some, None, Ok, MatchBool}
use Rattle.std.specs.Int.{to_be_bytes, w64}
use Rattle.engine_clock.specs.Marks.{Marks}
use Rattle.snmp_message.specs.Scoped.{Contexts, ScopedFront}
use Rattle.snmp_msg.specs.Pdu.{PduParts, PduText}
use Rattle.snmp_msg.specs.Variables.{Variable, AreBindings}
use Rattle.usm_users.specs.Rows.{user_of}
use Rattle.usm_users.specs.User.{User}
use Rattle.usm_users.specs.declared.load.UserRow.{UserRow}
use Rattle.vacm_core.specs.Allowed.{Allowed}
use Rattle.vacm_core.specs.Tables.{Tables}
use Rattle.vacm_core.specs.declared.access.Access.{Access}
use Rattle.vacm_core.specs.declared.access.ViewType.{ViewType}
use Rattle.snmp_incoming.specs.Outcome.{Given, Outcome, Taker, as_agent, as_manager, own_pair}
use Rattle.snmp_outgoing.specs.Accepts.{IsInTime}
use Rattle.snmp_outgoing.specs.Speaks.{spoken}
use Rattle.snmp_agent.specs.Agent.{AgentState}
use Rattle.snmp_agent.specs.Decides.{question_of}
use Rattle.snmp_agent.specs.Responses.{response}
use Rattle.snmpsec_config.specs.Refusals.{SaysSound}
use Rattle.snmp_handles.specs.Agents.{AgentHeld}
use Rattle.snmp_handles.specs.Numbers.{view_of}
use Rattle.tests_callers.specs.declared.agent_handles.Beginning.{Beginning}
use Rattle.tests_callers.specs.declared.agent_handles.HandleReply.{HandleReply}

-- Who takes datagrams so accepts this one, and isAccessAllowed gives this answer on these tables for its sender, by the
-- view of this number (RFC 3415, section 3).
pub record IsAllowedTo (taker : Taker) (users : List User) (tables : Tables) (now : ℕ) (datagram : List ℕ) (view : ℕ)
    (arcs : List ℕ) (access : Access) : Type 0 where
  pub given : Given
  pub accepted : Outcome taker users now datagram (Ok given)
  pub asked : ViewType
  pub asked_is : view_of view ≡ Some asked
  pub allowed : (c : Contexts) → ScopedFront given.text c → Allowed tables (question_of given c) asked arcs access

-- the same of an agent of this engine that begins so, with the users and the rows that the configuration says
abbrev pub IsAllowedByRows : Beginning → ℕ → List ℕ → ℕ → List ℕ → Access → Type 0
IsAllowedByRows begun now datagram view arcs access = (users : List UserRow) × (rows : Tables)
    × SaysSound begun.config.now users rows
    × IsAllowedTo (as_agent begun.engine.now begun.boots begun.started) (map user_of users) rows now datagram view arcs
    access

-- Nothing is kept, and nothing of the agent is changed but counters.
pub record ChangesCounters (old new : AgentHeld) : Type 0 where
  pub counters : List ℕ
  pub counts : List ℕ
  pub agent : new.agent ≡ record old.agent { counters = counters; counts = counts }
  pub nothing_kept : new.last ≡ None

-- the Response of the agent to what was given, as it is sent
abbrev pub IsAcceptedInTime : AgentState → ℕ → Given → HandleReply → Marks → ℕ → Bool → Type 0
IsAcceptedInTime agent now g reply held at accepted = (vs : List Variable) × AreBindings vs reply.list.now
    × ((c : Contexts) (p : PduParts) → ScopedFront g.text c → PduText c.pdu p
    → MatchBool accepted (IsInTime (as_manager held) at (spoken (response agent.engine
    (own_pair agent.boots agent.started now) g c p (pos reply.status) (pos reply.index) vs
    (to_be_bytes w64 reply.salt))))
    (IsInTime (as_manager held) at (spoken (response agent.engine
    (own_pair agent.boots agent.started now) g c p (pos reply.status) (pos reply.index) vs
    (to_be_bytes w64 reply.salt))) → ⊥))

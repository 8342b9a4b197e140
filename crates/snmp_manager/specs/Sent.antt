-- What a manager sends, as agents take it.
use Rattle.std.specs.Prelude.{◌≤◌, ◌-◌, ℕ, List}
use Rattle.engine_clock.specs.Pairs.{pair_max}
use Rattle.usm_users.specs.User.{User}
use Rattle.usm_core.specs.Verified.{agent}
use Rattle.snmp_incoming.specs.Outcome.{as_agent}
use Rattle.snmp_outgoing.specs.Accepts.{IsTakenInTime}
use Rattle.snmp_outgoing.specs.Speaks.{Speech, spoken, spoken_contexts, HasSameUser}

-- What is sent is accepted by each agent of the engine that has the sender's user, if and only if the pair is
-- in the agent's window; at noAuthNoPriv always. What it gives on is what was said.
abbrev pub IsAcceptedByAgents : List User → Speech → List ℕ → Type 0
IsAcceptedByAgents senders s text =
    (users : List User) (boots started now : ℕ) → HasSameUser (agent s.engine) senders users s.user s.level
    → now - started ≤ pair_max
    → IsTakenInTime (as_agent s.engine boots started) users now text (spoken s) (spoken_contexts s) s.pdu

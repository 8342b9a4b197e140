-- What a manager sends is accepted by agents.
use Rattle.std.proofs.Common.{ℕ, List, Ok, refl}
use Rattle.usm_users.specs.User.{User}
use Rattle.usm_core.specs.Verified.{AllowsEngine}
use Rattle.usm_core.specs.Sealed.{Seals}
use Rattle.snmp_incoming.specs.Outcome.{Taker, as_agent, side_at, ClockRuns}
use Rattle.snmp_outgoing.specs.Accepts.{IsTakenInTime}
use Rattle.snmp_outgoing.specs.Speaks.{Speech, spoken, spoken_contexts, SpeechFits, HasSameUser}
use Rattle.snmp_manager.specs.Sent.{IsAcceptedByAgents}

-- by the law that what is spoken is accepted
pub by_agents : ((taker : Taker) (senders users : List User) (now : ℕ) (s : Speech) (text : List ℕ) → SpeechFits s → AllowsEngine (side_at taker) s.engine
    → HasSameUser (side_at taker) senders users s.user s.level → ClockRuns taker now → Seals senders (spoken s) (Ok text) → IsTakenInTime taker users now text (spoken s) (spoken_contexts s) s.pdu)
    → (senders : List User) (s : Speech) (text : List ℕ) → SpeechFits s → Seals senders (spoken s) (Ok text) → IsAcceptedByAgents senders s text
by_agents law senders s text fits seals = λ users boots started now same runs. law (as_agent s.engine boots started) senders users now s text fits refl same runs seals

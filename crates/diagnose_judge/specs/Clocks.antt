-- The clock of the engine that a message is sent to, as one who reads the traffic knows it.
use Rattle.std.specs.Prelude.{◌≡◌, ◌≢◌, ◌⊎◌, ℕ, List, true, Option, Some, None}
use Rattle.snmp_message.specs.Level.{level_of}
use Rattle.engine_clock.specs.Pairs.{BootsAndTime}
use Rattle.engine_clock.specs.Marks.{SeenPair, Marks, mark_at}
use Rattle.engine_clock.specs.Windows.{InAgentWindow, notion_at}
use Rattle.usm_core.specs.Verified.{Verified}
use Rattle.snmp_incoming.specs.Outcome.{pair_in}
use Rattle.snmp_message.specs.declared.refusal.Refusal.{Refusal}
use Rattle.snmp_message.specs.declared.refusal.Refusal.TheVariants.{NotInWindow}
use Rattle.usm_users.specs.User.{User}
use Rattle.usm_users.specs.Users.{HasUserAt}
use Rattle.usm_core.specs.Refusals.{RefusesUser}
use Rattle.diagnose_judge.specs.declared.judged.Verdict.{Verdict}
use Rattle.diagnose_judge.specs.declared.judged.Verdict.TheVariants.{Accepted, Unweighed, Refused}

-- The boots that are held of the engine, and its time counted on to the moment `now`. Of an engine of which
-- nothing is held, the pair that the message itself says.
abbrev pub clock_at : Option SeenPair → ℕ → BootsAndTime → BootsAndTime
clock_at None now pair = pair
clock_at (Some mark) now pair = record { boots = mark.pair.boots; time = notion_at now mark }

-- the clock of the message's own engine
abbrev pub clock_for : Marks → ℕ → Verified → BootsAndTime
clock_for held now v = clock_at (mark_at held v.fields.engine) now (pair_in v)

-- the message is in the time window of its engine (RFC 3414, section 3.2, step 7 a), by that clock
abbrev pub IsInWindow : Marks → ℕ → Verified → Type 0
IsInWindow held now v = InAgentWindow (clock_for held now v) (pair_in v)

-- ---- between the functions

-- What a message of a known user that passed its digest is answered, in words of the clock. One without authentication
-- has no window.
abbrev pub IsToldAt : Marks → ℕ → Verified → Verdict → Type 0
IsToldAt held now v Accepted =
    v.parts.header.auth ≡ true → IsInWindow held now v × (mark_at held v.fields.engine ≢ None)
IsToldAt held now v Unweighed = IsInWindow held now v × (mark_at held v.fields.engine ≡ None)
IsToldAt held now v (Refused refusal) = (refusal ≡ NotInWindow) × (v.parts.header.auth ≡ true)
    × (IsInWindow held now v → ⊥)

-- What any message that passed its digest is answered. Agents refuse a name without a user.
abbrev pub IsTold : List User → Marks → ℕ → Verified → Verdict → Type 0
IsTold users held now v verdict =
    (HasUserAt users v.fields.user (level_of v.parts.header) × IsToldAt held now v verdict)
    ⊎ ((refusal : Refusal) × RefusesUser users v.fields.user (level_of v.parts.header) refusal
    × (verdict ≡ Refused refusal))

-- What a manager learns.
--
-- `LearnsFrom`. After a datagram that is authentic as one engine with one pair, that engine's mark is the
-- join of the one before with the pair at this moment, and every other engine keeps its own; after any
-- other nothing has changed.
use Rattle.std.specs.Prelude.{◌≡◌, ◌⊎◌, ℕ, List, MatchBool}
use Rattle.engine_clock.specs.Pairs.{BootsAndTime}
use Rattle.engine_clock.specs.Marks.{Marks, seen_at, JoinsMark, JoinsPair}
use Rattle.usm_users.specs.User.{User}
use Rattle.usm_core.specs.Authentic.{Authentic}
use Rattle.usm_core.specs.Verified.{Verified}
use Rattle.snmp_incoming.specs.Outcome.{pair_in}

-- A pair came in at the moment `now`: the engine's mark has joined with it, so its pair has too, and other
-- engines keep theirs.
pub record Learns (engine : List ℕ) (pair : BootsAndTime) (now : ℕ) (old new : Marks) : Type 0 where
  pub mark : JoinsMark engine (seen_at pair now) old new
  pub pair_joined : JoinsPair engine pair old new

-- The datagram is authentic as one of this engine with this pair, and as no other.
pub record AuthenticOnly (users : List User) (w engine : List ℕ) (pair : BootsAndTime) : Type 0 where
  pub is : Authentic users w engine pair
  pub only : (e : List ℕ) (p : BootsAndTime) → Authentic users w e p → (e ≡ engine) × (p ≡ pair)

-- What a manager holds after a datagram: an authentic one's pair has come in, and else nothing has changed.
abbrev pub LearnsFrom : List User → ℕ → List ℕ → Marks → Marks → Type 0
LearnsFrom users now w old new =
    ((engine : List ℕ) × (pair : BootsAndTime) × AuthenticOnly users w engine pair × Learns engine pair now old new)
    ⊎ (((engine : List ℕ) (pair : BootsAndTime) → Authentic users w engine pair → ⊥) × (new ≡ old))

-- what a manager holds after a message that passed the digest: with auth its pair has come in
abbrev pub LearnsChecked : Verified → ℕ → Marks → Marks → Type 0
LearnsChecked v now old new = MatchBool v.parts.header.auth (Learns v.fields.engine (pair_in v) now old new) (new ≡ old)

-- What contracts see of a manager.
--
-- `BeginAlike` and `HoldSamePairs`. The same users, and the same pair of each engine.
use Rattle.std.specs.Prelude.{◌≡◌, ℕ, List}
use Rattle.engine_clock.specs.Marks.{Marks, pair_at}
use Rattle.usm_users.specs.User.{User}

-- its users, and the marks that it holds
pub record Held : Type 0 where
  pub users : List User
  pub clocks : Marks

abbrev pub held_by : List User → Marks → Held
held_by users clocks = record { users = users; clocks = clocks }

-- the same pair of each engine
abbrev pub HoldSamePairs : Held → Held → Type 0
HoldSamePairs a b = (engine : List ℕ) → pair_at a.clocks engine ≡ pair_at b.clocks engine

-- the same users, and the same pair of each engine
abbrev pub BeginAlike : Held → Held → Type 0
BeginAlike a b = (a.users ≡ b.users) × HoldSamePairs a b

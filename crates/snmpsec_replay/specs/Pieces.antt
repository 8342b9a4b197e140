-- Logs that are replayed one after another, and pieces that are replayed apart.
--
-- `InTurn`, `ReplayEach`, `ReplaySaves`. Logs that are replayed one after another, each by what the one
-- before left; logs that are replayed apart from one beginning, each with its saved text.
use Rattle.std.specs.Prelude.{◌≡◌, ⊤, ℕ, List, [], ◌∷◌}
use Rattle.engine_clock.specs.Saved.{AreMarks, listing}
use Rattle.snmp_manager.specs.Views.{Held}
use Rattle.snmpsec_replay.specs.declared.printing.Printing.{Printing}
use Rattle.snmpsec_replay.specs.Replay.{Replays}

-- the logs are replayed one after another, each by what the log before it left
abbrev pub InTurn : Held → List (List ℕ) → Held → Type 0
InTurn begin [] after = after ≡ begin
InTurn begin (log ∷ logs) after = (p : Printing) × (mid : Held) × (answers : List ℕ) × Replays p begin log answers mid
    × InTurn mid logs after

-- the log is replayed whole, whatever is printed of its lines, and this is the saved text
pub record ReplaySaves (begin : Held) (log saved : List ℕ) : Type 0 where
  pub printing : Printing
  pub answers : List ℕ
  pub after : Held
  pub replays : Replays printing begin log answers after
  pub fits : AreMarks after.clocks
  pub is : saved ≡ listing after.clocks

-- each of the logs is replayed by itself, from the same beginning, and has its saved text
abbrev pub ReplayEach : Held → List (List ℕ) → List (List ℕ) → Type 0
ReplayEach begin [] [] = ⊤
ReplayEach begin [] (text ∷ texts) = ⊥
ReplayEach begin (log ∷ logs) [] = ⊥
ReplayEach begin (log ∷ logs) (text ∷ texts) = ReplaySaves begin log text × ReplayEach begin logs texts

-- When a request is asked again, and when it is given up.
--
-- `due_at`: from when on something is due. `MayAskAgain`: the device may be asked the same once more. `IsDue`: what is
-- due at a moment. `IsTimed`: the steps lead from one timer to the other. `AreAsks`: the device doesn't answer in them.
-- Moments are milliseconds.
use Rattle.std.specs.Prelude.{◌≡◌, ℕ, ◌+◌, ◌-◌, ◌^◌, ◌<◌, ◌≤◌, min, List, [], ◌∷◌}
use Rattle.snmp_gate.specs.declared.retries.Retries.{Retries}
use Rattle.snmp_gate.specs.declared.timer.Due.{Due}
use Rattle.snmp_gate.specs.declared.timer.Due.TheVariants.{Nothing, AskAgain, GiveUp}
use Rattle.snmp_gate.specs.declared.timer.Timer.{Timer}
use Rattle.snmp_gate.specs.declared.timer.Turn.{Turn}
use Rattle.snmp_gate.specs.declared.timer.Turn.TheVariants.{ToAsk, Asked}

-- how often the device was asked the same
abbrev pub times_asked : Turn → ℕ
times_asked ToAsk = 0
times_asked (Asked at times) = times

-- one more; the count ends at 4294967295
abbrev pub once_more : ℕ → ℕ
once_more times = min (times + 1) (2 ^ 32 - 1)

-- the moment up to which the turn waits
abbrev pub turn_ends : Retries → ℕ → Turn → ℕ
turn_ends r began ToAsk = began + r.last
turn_ends r began (Asked at times) = at + r.again

-- the moment from which on something is due
abbrev pub due_at : Retries → Timer → ℕ
due_at r t = turn_ends r t.began t.turn

-- the device was asked less often than it may be, and the request came less than `last` ago
pub record MayAskAgain (r : Retries) (t : Timer) (now : ℕ) : Type 0 where
  pub tries : times_asked t.turn < r.tries
  pub early : now < t.began + r.last

-- what is due now
abbrev pub IsDue : Retries → Timer → ℕ → Due → Type 0
IsDue r t now Nothing = now < due_at r t
IsDue r t now AskAgain = (due_at r t ≤ now) × MayAskAgain r t now
IsDue r t now GiveUp = (due_at r t ≤ now) × ¬ MayAskAgain r t now

-- what happens to a request: its device is asked at this moment, or answers
pub data TimerStep : Type 0 where
  asks : (now : ℕ) → TimerStep
  answers : TimerStep

-- the device may be asked now: it is its turn to be asked, or it is to be asked again
abbrev pub IsAskTurn : Retries → Timer → ℕ → Turn → Type 0
IsAskTurn r t now ToAsk = IsDue r t now Nothing
IsAskTurn r t now (Asked at times) = IsDue r t now AskAgain

-- the request's device is asked now
pub record IsAsked (r : Retries) (old : Timer) (now : ℕ) (new : Timer) : Type 0 where
  pub later : old.began ≤ now
  pub may : IsAskTurn r old now old.turn
  pub began : new.began ≡ old.began
  pub turn : new.turn ≡ Asked now (once_more (times_asked old.turn))

-- the device answers, and there is more to ask
pub record IsAnswered (old new : Timer) : Type 0 where
  pub began : new.began ≡ old.began
  pub turn : new.turn ≡ ToAsk

-- the steps lead from one timer to the other
abbrev pub IsTimed : Retries → Timer → List TimerStep → Timer → Type 0
IsTimed r first [] last = last ≡ first
IsTimed r first (asks now ∷ steps) last = (second : Timer) × IsAsked r first now second × IsTimed r second steps last
IsTimed r first (answers ∷ steps) last = (second : Timer) × IsAnswered first second × IsTimed r second steps last

-- in all the steps the device is asked, and doesn't answer
abbrev pub AreAsks : List TimerStep → Type 0
AreAsks [] = Unit {0}
AreAsks (asks now ∷ steps) = AreAsks steps
AreAsks (answers ∷ steps) = ⊥

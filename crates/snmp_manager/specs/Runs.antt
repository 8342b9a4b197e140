-- A run of a manager over datagrams, each with its moment.
--
-- `Runs`. The outcomes of datagrams taken one after another, each told as its answer. `HasTaken old
-- datagrams new`: they were taken one after another, each at its moment, whatever they were answered: by a
-- run, or by calls that take one.
use Rattle.snmp_message.specs.declared.refusal.Refusal.{Refusal}
use Rattle.std.specs.Prelude.{◌≡◌, ℕ, List, [], ◌∷◌, take, map, Some, Result, Ok, Err}
use Rattle.std.specs.Global.{Vec}
use Rattle.snmp_message.specs.Numbers.{in_table}
use Rattle.snmp_incoming.specs.Outcome.{Given}
use Rattle.snmp_manager.specs.declared.outcome.Outcome.{Outcome}
use Rattle.snmp_manager.specs.declared.outcome.Outcome.TheVariants.{Accepted, Refused}
use Rattle.snmp_manager.specs.declared.outcome.Stopped.{Stopped}
use Rattle.snmp_manager.specs.Views.{Held}
use Rattle.snmp_manager.specs.Takes.{Takes}

-- what an outcome tells of an answer
abbrev pub Tells : Outcome → Result Given Refusal → Type 0
Tells (Accepted level tag) (Ok given) = (level ≡ given.level) × (tag ≡ given.tag)
Tells (Refused e) (Err refusal) = in_table e.refusal ≡ Some refusal
Tells (Accepted level tag) (Err refusal) = ⊥
Tells (Refused e) (Ok given) = ⊥

-- a take of one datagram, told by an outcome
abbrev pub TakesOne : Held → ℕ → List ℕ → Outcome → Held → Type 0
TakesOne old now w outcome new =
    (answer : Result Given Refusal) × Tells outcome answer × Takes old now w (Some answer) new

-- the outcomes of datagrams taken one after another
abbrev pub Runs : Held → List (ℕ × Vec ℕ) → List Outcome → Held → Type 0
Runs old [] [] new = new ≡ old
Runs old (t ∷ ts) (outcome ∷ outcomes) new = (mid : Held) × TakesOne old t.0 t.1.items outcome mid
    × Runs mid ts outcomes new
Runs old [] (outcome ∷ outcomes) new = ⊥
Runs old (t ∷ ts) [] new = ⊥

-- Datagrams were taken one after another, each at its moment, whatever they were answered.
abbrev pub HasTaken : Held → List (ℕ × List ℕ) → Held → Type 0
HasTaken old [] new = new ≡ old
HasTaken old (t ∷ ts) new = (mid : Held) × ((answer : Result Given Refusal) × Takes old t.0 t.1 (Some answer) mid)
    × HasTaken mid ts new

-- moments and datagrams, as contracts see them
abbrev pub moments_of : List (ℕ × Vec ℕ) → List (ℕ × List ℕ)
moments_of datagrams = map (λ t. (t.0, t.1.items)) datagrams

-- the datagrams that were taken: all, or those before the stop
abbrev pub taken_of : {A V : Type 0} → Result V Stopped → List A → List A
taken_of (Ok outcomes) datagrams = datagrams
taken_of (Err stopped) datagrams = take stopped.taken datagrams

-- To which columns the bindings of an answer to a GetBulkRequest belong (RFC 3416, section 4.2.3).
--
-- `turns`: the columns that were asked, as their variables stand in an answer: all of them once, and in each further
-- repetition the repeaters. `ReadsTurns`: the variables are read in these turns.
use Rattle.std.specs.Prelude.{◌≡◌, ◌+◌, ◌-◌, ◌<◌, ℕ, zero, suc, List, [], ◌∷◌, ◌++◌, All, drop, length, set}
use Rattle.std.specs.List.{HoldsAt}
use Rattle.snmp_msg.specs.Variables.{Variable}
use Rattle.snmp_walk.specs.Column.{IsAsked}
use Rattle.snmp_walk.specs.BulkSteps.{ColumnReads, IsTurn}
use Rattle.snmp_walk.specs.declared.column.Progress.{Progress}
use Rattle.snmp_walk.specs.declared.column.Progress.TheVariants.{Asked}
use Rattle.snmp_walk.specs.declared.bulk_column.BulkColumn.{BulkColumn}
use Rattle.snmp_walk.specs.declared.turns.Turns.{Turns}

-- the column's number, if it was asked
abbrev pub turn_in : ℕ → Progress → List ℕ
turn_in number (Asked ask) = number ∷ []
turn_in number _ = []

-- the numbers of the columns that were asked, the first of which has this number
abbrev pub turns_from : ℕ → List BulkColumn → List ℕ
turns_from number [] = []
turns_from number (c ∷ cs) = turn_in number c.progress ++ turns_from (number + 1) cs

-- the same numbers so often
abbrev pub repeated : ℕ → List ℕ → List ℕ
repeated zero numbers = []
repeated (suc n) numbers = numbers ++ repeated n numbers

-- of columns of which so many are non-repeaters, and so many repetitions
abbrev pub turns : ℕ → ℕ → List BulkColumn → List ℕ
turns non_repeaters repetitions cs =
    turns_from 0 cs ++ repeated (repetitions - 1) (turns_from non_repeaters (drop non_repeaters cs))

-- the turns that are still to come
abbrev pub turns_left : Turns → List ℕ
turns_left t = drop t.at t.once.items ++ (drop t.at_again t.again.items ++ repeated t.left t.again.items)

-- each of the variables is the next one of the column whose turn it is
abbrev pub ReadsTurns : (List ℕ → Type 0) → List BulkColumn → List ℕ → List Variable → List BulkColumn → Type 0
ReadsTurns Seen cs [] [] news = news ≡ cs
ReadsTurns Seen cs [] (v ∷ vs) news = ⊥
ReadsTurns Seen cs (turn ∷ ts) [] news = ⊥
ReadsTurns Seen cs (turn ∷ ts) (v ∷ vs) news = (turn < length cs) × (new : BulkColumn)
    × HoldsAt (λ (c : BulkColumn). ColumnReads Seen c v new) cs turn × ReadsTurns Seen (set cs turn new) ts vs news

-- an answer is read for the column of this number
abbrev pub IsTurnAt : List BulkColumn → ℕ → Type 0
IsTurnAt cs number = (number < length cs) × HoldsAt IsTurn cs number

abbrev pub AreTurns : List BulkColumn → List ℕ → Type 0
AreTurns cs ts = All (IsTurnAt cs) ts

-- the device was asked for the columns of these numbers
abbrev pub AreAsked : List BulkColumn → List ℕ → Type 0
AreAsked cs ts = All (λ number. (number < length cs) × HoldsAt (λ (c : BulkColumn). IsAsked c.progress) cs number) ts

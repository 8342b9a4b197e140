-- How a device is asked for the columns of a GetBulkRequest (RFC 3416, section 4.2.3).
--
-- `IsFewest`: the fewest variables that a repeater has which wants more. `IsDue`: a column for which the device is to
-- be asked now: a non-repeater, or a repeater that has the fewest, so that none gets ahead by more than an answer.
-- `Chooses`: of these the first ones are asked, as many as the device may be asked at once, and the others wait.
-- `IsAskOf`: by which request.
use Rattle.std.specs.Prelude.{◌≡◌, ◌⊎◌, ◌+◌, ◌-◌, ◌<◌, ◌≤◌, ℕ, List, [], ◌∷◌, length, drop, min, take}
use Rattle.std.specs.Prelude.{slice_index_or, Bool, true}
use Rattle.std.specs.List.{HoldsAt, flat_map}
use Rattle.snmp_walk.specs.Column.{IsAsked}
use Rattle.snmp_walk.specs.BulkSteps.{ColumnWaits}
use Rattle.snmp_walk.specs.Turns.{turn_in}
use Rattle.snmp_walk.specs.declared.bulk_column.BulkColumn.{BulkColumn}
use Rattle.snmp_walk.specs.declared.bulk_ask.BulkAsk.{BulkAsk}
use Rattle.snmp_walk.specs.declared.bulk_ask.BulkAsk.TheVariants.{GetNext, GetBulk}

-- how many of the columns were asked
abbrev pub asked_of : List BulkColumn → ℕ
asked_of cs = length (flat_map (λ (c : BulkColumn). turn_in 0 c.progress) cs)

-- of the columns that were asked the fewest variables that one has
pub record IsFewest (cs : List BulkColumn) (fewest : ℕ) : Type 0 where
  pub number : ℕ
  pub within : number < length cs
  pub asked : HoldsAt (λ (c : BulkColumn). IsAsked c.progress) cs number
  pub has : HoldsAt (λ (c : BulkColumn). length c.got.items ≡ fewest) cs number
  pub least : (k : ℕ) (d : BulkColumn) → k < length cs → IsAsked (slice_index_or cs k d).progress
      → fewest ≤ length (slice_index_or cs k d).got.items

-- none of them was
abbrev pub NoneAsked : List BulkColumn → Type 0
NoneAsked cs = (k : ℕ) (d : BulkColumn) → k < length cs → ¬ IsAsked (slice_index_or cs k d).progress

-- one of them was, at least
pub record SomeAsked (cs : List BulkColumn) : Type 0 where
  pub number : ℕ
  pub within : number < length cs
  pub asked : HoldsAt (λ (c : BulkColumn). IsAsked c.progress) cs number

-- the device is to be asked for the column of this number, of so many non-repeaters
abbrev pub IsDue : ℕ → ℕ → ℕ → BulkColumn → Type 0
IsDue non_repeaters fewest number c =
    IsAsked c.progress × ((number < non_repeaters) ⊎ (length c.got.items ≡ fewest))

-- a column that is due stays as it is, and takes room; any other one waits
abbrev pub StaysOrWaits : Bool → ℕ → BulkColumn → BulkColumn → ℕ → Type 0
StaysOrWaits due room old new left = ((due ≡ true) × (0 < room) × (new ≡ old) × (left ≡ room - 1))
    ⊎ ((¬ ((due ≡ true) × (0 < room))) × ColumnWaits old new × (left ≡ room))

-- of the columns from this number on so many that are due stay asked, the first ones, and the others wait
abbrev pub Chooses : ℕ → ℕ → ℕ → ℕ → List BulkColumn → List BulkColumn → Type 0
Chooses non_repeaters fewest number room [] news = news ≡ []
Chooses non_repeaters fewest number room (c ∷ cs) [] = ⊥
Chooses non_repeaters fewest number room (c ∷ cs) (new ∷ news) =
    (IsDue non_repeaters fewest number c × (0 < room) × (new ≡ c)
    × Chooses non_repeaters fewest (number + 1) (room - 1) cs news)
    ⊎ ((¬ (IsDue non_repeaters fewest number c × (0 < room))) × ColumnWaits c new
    × Chooses non_repeaters fewest (number + 1) room cs news)

-- how many repetitions the device is asked for at most: as many as it takes, and are wanted
abbrev pub repetitions_due : ℕ → ℕ → ℕ → ℕ
repetitions_due repetitions wanted fewest = min repetitions (wanted - fewest)

-- the columns that are asked are asked by a GetNextRequest where no repeater is, or one repetition is due; else by a
-- GetBulkRequest
abbrev pub IsAskOf : ℕ → ℕ → List BulkColumn → BulkAsk → Type 0
IsAskOf non_repeaters due cs GetNext = (asked_of (drop non_repeaters cs) ≡ 0) ⊎ (due ≤ 1)
IsAskOf non_repeaters due cs (GetBulk singles repetitions) = (0 < asked_of (drop non_repeaters cs)) × (1 < due)
    × (singles ≡ asked_of (take non_repeaters cs)) × (repetitions ≡ due)

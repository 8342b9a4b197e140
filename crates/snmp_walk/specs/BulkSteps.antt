-- What becomes of a column of a GetBulkRequest (RFC 3416, section 4.2.3).
--
-- `BulkGoesOn`: before the device is asked. `ColumnWaits`: where the device isn't asked for it after all. `IsMarked`,
-- `IsBegun`, `ColumnReads`, `IsSettled`: before and while an answer is read, which gives it one variable after another,
-- and after that. `IsForgotten`: an answer is given back. `SaysSame`: nothing changed.
use Rattle.std.specs.Prelude.{◌≡◌, ◌⊎◌, ◌<◌, ◌≤◌, ◌++◌, ℕ, List, [], ◌∷◌, Option, Some, None, length, take}
use Rattle.snmp_msg.specs.Variables.{Variable}
use Rattle.snmp_responder.specs.Bulk.{IsEnded}
use Rattle.snmp_walk.specs.Bindings.{FitsPlace, Misfits}
use Rattle.snmp_walk.specs.Steps.{GoesOn}
use Rattle.snmp_walk.specs.BulkColumn.{bulk_request, given_in}
use Rattle.snmp_walk.specs.declared.operation.ReadOperation.TheVariants.{GetNext}
use Rattle.snmp_walk.specs.declared.misfit.Misfit.{Misfit}
use Rattle.snmp_walk.specs.declared.misfit.Misfit.TheVariants.{AfterEnd}
use Rattle.snmp_walk.specs.declared.given.GivenVariable.{GivenVariable}
use Rattle.snmp_walk.specs.declared.column.Progress.{Progress}
use Rattle.snmp_walk.specs.declared.column.Progress.TheVariants.{Wanting, Asked, Ended}
use Rattle.snmp_walk.specs.declared.bulk_column.BulkColumn.{BulkColumn}

-- the column says the same: what it is for, what the device gave, and how far it has come
pub record SaysSame (old new : BulkColumn) : Type 0 where
  pub same : bulk_request new ≡ bulk_request old
  pub given : new.got.items ≡ old.got.items
  pub progress : new.progress ≡ old.progress

-- a column that has as many as are wanted stays as it is; any other goes on as in a GetNextRequest
pub record BulkGoesOn (Seen : List ℕ → Type 0) (old new : BulkColumn) : Type 0 where
  pub same : bulk_request new ≡ bulk_request old
  pub given : new.got.items ≡ old.got.items
  pub goes_on : length old.got.items < old.most → GoesOn Seen GetNext old.progress new.progress
  pub has_all : old.most ≤ length old.got.items → new.progress ≡ old.progress

-- a walk that was asked is to be asked again, from where it stands
abbrev pub Waits : Progress → Progress → Type 0
Waits (Asked ask) new = new ≡ Wanting ask.from
Waits old new = new ≡ old

pub record ColumnWaits (old new : BulkColumn) : Type 0 where
  pub same : bulk_request new ≡ bulk_request old
  pub given : new.got.items ≡ old.got.items
  pub waits : Waits old.progress new.progress

-- the variable fits where the walk is in the answer: what is asked there, or endOfMibView behind endOfMibView
abbrev pub FitsIn : Progress → Variable → Type 0
FitsIn (Asked ask) v = FitsPlace GetNext ask.name v
FitsIn _ v = IsEnded v

-- why it doesn't
abbrev pub MisfitsIn : Progress → Variable → Misfit → Type 0
MisfitsIn (Asked ask) v misfit = Misfits GetNext ask.name v misfit
MisfitsIn _ v misfit = (misfit ≡ AfterEnd) × ¬ IsEnded v

-- the next repetition asks for what comes after this name
abbrev pub asked_after : List ℕ → Progress
asked_after name = Asked (record { from = name; name = name })

-- a value was given: the walk has it if its name is seen, and goes on from its name
abbrev pub TakesValue : (List ℕ → Type 0) → List Variable → Variable → List Variable → Progress → Type 0
TakesValue Seen given v more new = (new ≡ asked_after v.name)
    × ((Seen v.name × (more ≡ given ++ v ∷ [])) ⊎ ((¬ Seen v.name) × (more ≡ given)))

-- a walk that gave some variables, after a further one: at endOfMibView it is at its end
abbrev pub BulkTakes : (List ℕ → Type 0) → List Variable → Variable → List Variable → Progress → Type 0
BulkTakes Seen given v more new = (IsEnded v × (more ≡ given) × (new ≡ Ended))
    ⊎ ((¬ IsEnded v) × TakesValue Seen given v more new)

-- where the walk is when an answer begins, if it was asked
abbrev pub turn_of : Progress → Option Progress
turn_of (Asked ask) = Some (Asked ask)
turn_of _ = None

-- nothing of an answer was read for the column
pub record IsUnread (c : BulkColumn) : Type 0 where
  pub had : c.had ≡ length c.got.items
  pub no_turn : c.reading ≡ None

-- it is noted how many variables there are
pub record IsMarked (old new : BulkColumn) : Type 0 where
  pub says_same : SaysSame old new
  pub unread : IsUnread new

-- an answer begins
pub record IsBegun (old new : BulkColumn) : Type 0 where
  pub says_same : SaysSame old new
  pub had : new.had ≡ length old.got.items
  pub turn : new.reading ≡ turn_of old.progress

-- it is read for the column
abbrev pub IsTurn : BulkColumn → Type 0
IsTurn c = (turn : Progress) × (c.reading ≡ Some turn)

-- while the answer is read there can be more variables, and it is kept how many there were
pub record Grows (old new : BulkColumn) : Type 0 where
  pub same : bulk_request new ≡ bulk_request old
  pub progress : new.progress ≡ old.progress
  pub had : new.had ≡ old.had
  pub turn : IsTurn old → IsTurn new
  pub more : List GivenVariable
  pub given : new.got.items ≡ old.got.items ++ more

-- a value was read for the column
abbrev pub ReadsValue : (List ℕ → Type 0) → BulkColumn → Variable → BulkColumn → Type 0
ReadsValue Seen old v new =
    (after : Progress) × (new.reading ≡ Some after) × TakesValue Seen (given_in old) v (given_in new) after

-- the answer has this variable for the column
pub record ColumnReads (Seen : List ℕ → Type 0) (old : BulkColumn) (v : Variable) (new : BulkColumn) : Type 0 where
  pub grows : Grows old new
  pub before : Progress
  pub before_is : old.reading ≡ Some before
  pub fits : FitsIn before v
  pub after : Progress
  pub after_is : new.reading ≡ Some after
  pub takes : BulkTakes Seen (given_in old) v (given_in new) after

-- the answer has this variable for the column, which doesn't fit
pub record ColumnRefuses (c : BulkColumn) (v : Variable) (misfit : Misfit) : Type 0 where
  pub before : Progress
  pub before_is : c.reading ≡ Some before
  pub misfits : MisfitsIn before v misfit

-- the answer was read: a column for which the device was asked goes on from where it is
abbrev pub Settles : Option Progress → Progress → Progress → Type 0
Settles (Some turn) old new = Waits turn new
Settles None old new = new ≡ old

pub record IsSettled (old new : BulkColumn) : Type 0 where
  pub same : bulk_request new ≡ bulk_request old
  pub given : new.got.items ≡ old.got.items
  pub settles : Settles old.reading old.progress new.progress

-- the answer is given back
pub record IsForgotten (old new : BulkColumn) : Type 0 where
  pub same : bulk_request new ≡ bulk_request old
  pub given : new.got.items ≡ take old.had old.got.items
  pub progress : new.progress ≡ old.progress

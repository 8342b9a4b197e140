-- What the bindings of an answer are to the columns of a GetBulkRequest (RFC 3416, section 4.2.3).
--
-- `IsRead`: each of them is the next one of the column whose turn it is, and the columns go on from there. The device
-- may leave bindings out at the end, but not where it was asked by a GetNextRequest. `IsBulkFault`: why they don't fit.
use Rattle.std.specs.Prelude.{◌≡◌, ◌-◌, ◌^◌, ◌<◌, min, ℕ, List, [], ◌∷◌, ◌++◌, length, Bool, true}
use Rattle.std.specs.List.{HoldsAt, AllZip}
use Rattle.snmp_msg.specs.Variables.{Variable}
use Rattle.snmp_walk.specs.BulkSteps.{ColumnRefuses, IsBegun, IsSettled, SaysSame}
use Rattle.snmp_walk.specs.Turns.{ReadsTurns}
use Rattle.snmp_walk.specs.declared.misfit.Misfit.{Misfit}
use Rattle.snmp_walk.specs.declared.bulk_column.BulkColumn.{BulkColumn}
use Rattle.snmp_walk.specs.declared.answer.AnswerFault.{AnswerFault}
use Rattle.snmp_walk.specs.declared.answer.AnswerFault.TheVariants.{TooFew, TooMany, AtBinding}

-- the columns say the same
abbrev pub AllSaySame : List BulkColumn → List BulkColumn → Type 0
AllSaySame olds news = AllZip SaysSame olds news

-- the variables were read in the first of these turns, and these turns are left
pub record ReadSoFar (Seen : List ℕ → Type 0) (begun : List BulkColumn) (ts : List ℕ) (vs : List Variable)
    (left : List ℕ) (news : List BulkColumn) : Type 0 where
  pub done : List ℕ
  pub joined : ts ≡ done ++ left
  pub reads : ReadsTurns Seen begun done vs news

-- the variables are read in these turns, and, where they must all be there, in each
pub record IsRead (Seen : List ℕ → Type 0) (whole : Bool) (olds : List BulkColumn) (ts : List ℕ) (vs : List Variable)
    (news : List BulkColumn) : Type 0 where
  pub begun : List BulkColumn
  pub begins : AllZip IsBegun olds begun
  pub left : List ℕ
  pub all : whole ≡ true → left ≡ []
  pub ended : List BulkColumn
  pub reads : ReadSoFar Seen begun ts vs left ended
  pub settles : AllZip IsSettled ended news

-- of the variables that are read of these columns the first that doesn't fit has this place, counted from 0: a number
-- of 64 bits
pub record IsRefusedOf (Seen : List ℕ → Type 0) (begun : List BulkColumn) (ts : List ℕ) (vs : List Variable)
    (place : ℕ) (misfit : Misfit) : Type 0 where
  -- it is one of the column of this number
  pub number : ℕ
  pub before : List Variable
  pub variable : Variable
  pub after : List Variable
  pub are : vs ≡ before ++ variable ∷ after
  pub place_is : place ≡ min (length before) (2 ^ 64 - 1)
  pub left : List ℕ
  pub ended : List BulkColumn
  pub reads : ReadSoFar Seen begun ts before (number ∷ left) ended
  pub refuses : HoldsAt (λ (c : BulkColumn). ColumnRefuses c variable misfit) ended number

-- why the variables don't answer what these columns asked, and must all be there or not
abbrev pub IsReadFault : (List ℕ → Type 0) → Bool → List BulkColumn → List ℕ → List Variable → AnswerFault → Type 0
IsReadFault Seen whole begun ts vs TooFew = (whole ≡ true) × (length vs < length ts)
IsReadFault Seen whole begun ts vs TooMany = length ts < length vs
IsReadFault Seen whole begun ts vs (AtBinding place misfit) = IsRefusedOf Seen begun ts vs place misfit

abbrev pub IsBulkFault : (List ℕ → Type 0) → Bool → List BulkColumn → List ℕ → List Variable → AnswerFault → Type 0
IsBulkFault Seen whole olds ts vs fault =
    (begun : List BulkColumn) × AllZip IsBegun olds begun × IsReadFault Seen whole begun ts vs fault

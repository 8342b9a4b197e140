-- Errors of the device (RFC 3416, section 3).
--
-- `IsAskedAt`: the column to which an error-index belongs. `IsFailureStatus`: what an error-status becomes.
-- `IsFailure`: both of an answer. `EndsWalk`: the walk of this column is at its end by it.
use Rattle.std.specs.Prelude.{◌≡◌, ◌≢◌, ◌+◌, ◌<◌, ℕ, ℤ, pos, Option, Some, None, List, length, take, MatchOption}
use Rattle.std.specs.List.{HoldsAt}
use Rattle.snmp_msg.specs.declared.pdu.Pdu.{Pdu}
use Rattle.snmp_walk.specs.Column.{IsAsked}
use Rattle.snmp_walk.specs.Dialogue.{asks_of}
use Rattle.snmp_walk.specs.declared.operation.ReadOperation.TheVariants.{GetNext}
use Rattle.snmp_walk.specs.declared.column.Column.{Column}
use Rattle.snmp_walk.specs.declared.failure.TheConstants.{TOO_BIG, NO_SUCH_NAME}
use Rattle.snmp_walk.specs.declared.failure.Failure.{Failure}
use Rattle.snmp_walk.specs.declared.failure.FailureStatus.{FailureStatus}
use Rattle.snmp_walk.specs.declared.failure.FailureStatus.TheVariants.{TooBig, NoSuchName, GenErr}

-- the column was asked, and among those that were asked it is the one of this error-index, which counts from 1
pub record IsAskedAt (columns : List Column) (index : ℤ) (number : ℕ) : Type 0 where
  pub within : number < length columns
  pub asked : HoldsAt (λ (c : Column). IsAsked c.progress) columns number
  pub place : index ≡ pos (length (asks_of (take number columns)) + 1)

-- tooBig and noSuchName are reported as they are, noSuchName only of an asked binding; any other error is genErr
abbrev pub IsFailureStatus : ℤ → Option ℕ → FailureStatus → Type 0
IsFailureStatus status column TooBig = status ≡ TOO_BIG
IsFailureStatus status column NoSuchName = (status ≡ NO_SUCH_NAME) × (column ≢ None)
IsFailureStatus status column GenErr = (status ≢ TOO_BIG) × ¬ ((status ≡ NO_SUCH_NAME) × (column ≢ None))

pub record IsFailure (columns : List Column) (answer : Pdu) (failure : Failure) : Type 0 where
  pub column : MatchOption failure.column ((number : ℕ) → ¬ IsAskedAt columns answer.third number)
      (IsAskedAt columns answer.third)
  pub status : IsFailureStatus answer.second failure.column failure.status

-- noSuchName of a walk: there is no next variable, as a device of version-1 says it
pub record EndsWalk (columns : List Column) (failure : Failure) (number : ℕ) : Type 0 where
  pub no_such_name : failure.status ≡ NoSuchName
  pub column : failure.column ≡ Some number
  pub walk : HoldsAt (λ (c : Column). c.operation ≡ GetNext) columns number

-- Why a file can't be read, by what the system says.
--
-- `IsCauseOf kind cause`: the cause says what the kind of the system's error does. `Remembers old new`: of a read that
-- failed the cause is remembered, and nothing of one that didn't.
use Rattle.std.specs.Prelude.{◌≡◌, ◌≢◌, ℕ, Option, IfSome, None, Result, MatchResult, is_some, true}
use Rattle.std.specs.IoError.{error_kind}
use Rattle.std.specs.declared.io.Error.{Error}
use Rattle.std.specs.declared.io.ErrorKind.{ErrorKind}
use Rattle.std.specs.declared.io.ErrorKind.TheVariants as kinds
use Rattle.snmpsec_io.specs.declared.fault.ReadFault.{ReadFault}
use Rattle.snmpsec_io.specs.declared.fault.ReadFault.TheVariants as causes

-- the system has no word of its own for it, as far as it is reported to who named a file
pub record IsAnother (kind : ErrorKind) : Type 0 where
  pub found : kind ≢ kinds.NotFound
  pub permitted : kind ≢ kinds.PermissionDenied
  pub file : kind ≢ kinds.IsADirectory
  pub memory : kind ≢ kinds.OutOfMemory

-- what a cause says of the system's error; that a file is too large is found by reading it
abbrev pub IsCauseOf : ErrorKind → ReadFault → Type 0
IsCauseOf kind causes.NotFound = kind ≡ kinds.NotFound
IsCauseOf kind causes.PermissionDenied = kind ≡ kinds.PermissionDenied
IsCauseOf kind causes.IsADirectory = kind ≡ kinds.IsADirectory
IsCauseOf kind causes.TooLarge = ⊥
IsCauseOf kind causes.Failed = IsAnother kind
IsCauseOf kind causes.OutOfMemory = kind ≡ kinds.OutOfMemory

-- what is remembered of the error of a read
abbrev pub IsCause : Error → Option ReadFault → Type 0
IsCause fault cause = (is_some cause ≡ true) × IfSome cause (λ c. IsCauseOf (error_kind fault) c)

-- what is remembered of a read
abbrev pub Remembers : Result ℕ Error → Option ReadFault → Type 0
Remembers result cause = MatchResult result (λ count. cause ≡ None) (λ fault. IsCause fault cause)

-- What the Response to a Set says, by what the device answered (RFC 3416, sections 3 and 4.2.5).
--
-- `IsToldStatus`: the error-status. `IsToldIndex`: the error-index.
use Rattle.std.specs.Prelude.{◌≡◌, ◌≢◌, ◌⊎◌, ℕ, ℤ, pos, ◌<◌, ◌≤◌, ◌≤ℤ◌}
use Rattle.snmp_gate.specs.declared.set_answer.TheConstants.{NO_ERROR, TOO_BIG, GEN_ERR, INCONSISTENT_NAME}

-- one of the error-statuses of RFC 3416
pub record IsErrorStatus (status : ℤ) : Type 0 where
  pub least : NO_ERROR ≤ℤ status
  pub most : status ≤ℤ INCONSISTENT_NAME

-- the error-status is reported as it is; any other number is genErr
abbrev pub IsToldStatus : ℤ → ℤ → Type 0
IsToldStatus status told = (IsErrorStatus status × (told ≡ status)) ⊎ ((¬ IsErrorStatus status) × (told ≡ GEN_ERR))

-- the error-index is that of a binding, of so many; it counts from 1
pub record IsNumberOfBinding (index : ℤ) (bindings : ℕ) : Type 0 where
  pub number : ℕ
  pub index_is : index ≡ pos number
  pub least : 0 < number
  pub most : number ≤ bindings

-- the error is one of a binding, and the error-index is its number
pub record IsOfBinding (status index : ℤ) (bindings : ℕ) : Type 0 where
  pub error : status ≢ NO_ERROR
  pub not_size : status ≢ TOO_BIG
  pub number : IsNumberOfBinding index bindings

-- the error-index is reported as it is if it is that of a binding, and else it is 0
abbrev pub IsToldIndex : ℤ → ℤ → ℕ → ℤ → Type 0
IsToldIndex status index bindings told = (IsOfBinding status index bindings × (told ≡ index))
    ⊎ ((¬ IsOfBinding status index bindings) × (told ≡ pos 0))

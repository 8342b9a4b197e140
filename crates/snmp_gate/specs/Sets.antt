-- Sets that are remembered, so that no datagram of a Set is asked of its device twice.
--
-- `lasting`: the Sets that are remembered at a moment. `KeepsSets`: what is remembered, but for what came too long ago.
-- `IsNoted`: what a Set is that comes, and what is remembered then. `IsTold`: what its Response says is remembered.
-- `IsKept`: a Set is remembered. A Set is known by the digest of its datagram. Moments are milliseconds.
use Rattle.std.specs.Prelude.{◌≡◌, ◌≢◌, ◌⊎◌, ℕ, ◌+◌, ◌<◌, ◌≤◌, nat_le, Bool, List, [], ◌∷◌, ◌++◌, length, Contains}
use Rattle.std.specs.Prelude.{Some, None, filter, slice_index_or, slice_set}
use Rattle.std.specs.List.{HoldsAt}
use Rattle.snmp_gate.specs.declared.set_answer.ResponseStatus.{ResponseStatus}
use Rattle.snmp_gate.specs.declared.sets.RememberedSet.{RememberedSet}
use Rattle.snmp_gate.specs.declared.sets.SetNote.{SetNote}
use Rattle.snmp_gate.specs.declared.sets.SetNote.TheVariants.{New, Repeated, NoRoom}
use Rattle.snmp_gate.specs.declared.sets.TheConstants.{REMEMBERED, SETS_LIMIT}

-- it came at most 301 seconds before this moment
abbrev pub lasts : ℕ → RememberedSet → Bool
lasts now set = nat_le now (set.came + REMEMBERED)

abbrev pub lasting : ℕ → List RememberedSet → List RememberedSet
lasting now sets = filter (lasts now) sets

-- those that came over 301 seconds ago are forgotten, or aren't yet, and nothing else changes
abbrev pub KeepsSets : ℕ → List RememberedSet → List RememberedSet → Type 0
KeepsSets now old new = (new ≡ old) ⊎ (new ≡ lasting now old)

-- one of the Sets, whose datagram has this digest
pub record HasDigest (digest : List ℕ) (sets : List RememberedSet) (set : RememberedSet) : Type 0 where
  pub there : Contains sets set
  pub digest_is : set.digest ≡ digest

-- none of the Sets
abbrev pub IsUnknown : List ℕ → List RememberedSet → Type 0
IsUnknown digest sets = (set : RememberedSet) → ¬ HasDigest digest sets set

-- the place of the first Set whose datagram has this digest
pub record IsPlace (digest : List ℕ) (sets : List RememberedSet) (place : ℕ) : Type 0 where
  pub within : place < length sets
  pub digest_is : HoldsAt (λ (set : RememberedSet). set.digest ≡ digest) sets place
  pub first : (k : ℕ) (set : RememberedSet) → k < place → (slice_index_or sets k set).digest ≢ digest

-- a Set as it is when it comes
abbrev pub new_set : ℕ → List ℕ → RememberedSet
new_set now digest = record { digest = digest; came = now; outcome = None }

-- what a Set is that comes, by what is remembered
abbrev pub IsNote : List ℕ → List RememberedSet → SetNote → Type 0
IsNote digest sets New = IsUnknown digest sets × (length sets < SETS_LIMIT)
IsNote digest sets (Repeated outcome) = (set : RememberedSet) × HasDigest digest sets set × (set.outcome ≡ outcome)
IsNote digest sets NoRoom = IsUnknown digest sets × (SETS_LIMIT ≤ length sets)

-- what a Set is that comes now, by what was remembered, and what is remembered then
abbrev pub IsNoted : ℕ → List ℕ → List RememberedSet → List RememberedSet → SetNote → Type 0
IsNoted now digest old new New = IsUnknown digest (lasting now old)
    × (length (lasting now old) < SETS_LIMIT)
    × (new ≡ lasting now old ++ new_set now digest ∷ [])
IsNoted now digest old new (Repeated outcome) = ((set : RememberedSet) × HasDigest digest (lasting now old) set
    × (set.outcome ≡ outcome))
    × (new ≡ lasting now old)
IsNoted now digest old new NoRoom = IsUnknown digest (lasting now old)
    × (SETS_LIMIT ≤ length (lasting now old))
    × (new ≡ lasting now old)

-- the Set with what its Response says
abbrev pub with_outcome : ResponseStatus → RememberedSet → RememberedSet
with_outcome outcome set = record set { outcome = Some outcome }

-- the Set at a place has what its Response says now
pub record TellsAt (outcome : ResponseStatus) (old new : List RememberedSet) (place : ℕ) : Type 0 where
  pub set : RememberedSet
  pub set_is : set ≡ slice_index_or old place set
  pub new_is : new ≡ slice_set old place (with_outcome outcome set)

-- what the Response to the Set says is remembered, if the Set is
abbrev pub IsTold : List ℕ → ResponseStatus → List RememberedSet → List RememberedSet → Type 0
IsTold digest outcome old new = (IsUnknown digest old × (new ≡ old))
    ⊎ ((place : ℕ) × IsPlace digest old place × TellsAt outcome old new place)

-- a Set of this digest is remembered that didn't come before this moment
pub record IsKept (digest : List ℕ) (from : ℕ) (sets : List RememberedSet) : Type 0 where
  pub set : RememberedSet
  pub there : Contains sets set
  pub digest_is : set.digest ≡ digest
  pub came : from ≤ set.came

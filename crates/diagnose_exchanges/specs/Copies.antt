-- Datagrams that were seen before.
--
-- `Notes`: what is kept of a digest that wasn't kept. `LetsGo`: which digest goes where there are more than the limit.
use Rattle.std.specs.Prelude.{◌≡◌, ◌⊎◌, ℕ, ◌<◌, ◌≤◌, List, [], ◌∷◌, ◌++◌, length, Some, None, Bool}
use Rattle.std.specs.HashMap.{HashMap, IsUnchanged, Updates}

-- of how many datagrams the digests are kept
abbrev pub copies_limit : ℕ
copies_limit = 1048576

module _ {K V S : Type 0} where
  -- Digests in the order in which they came, with what is kept of each. Where they are more than the limit, the first
  -- of them, which is the oldest, isn't kept any more.
  abbrev pub LetsGo : (K → K → Bool) → List K → List K → HashMap K V S → HashMap K V S → Type 0
  LetsGo eq order later kept new =
      ((length order ≤ copies_limit) × (later ≡ order) × IsUnchanged kept new)
      ⊎ ((copies_limit < length order)
      × ((oldest : K) × (order ≡ oldest ∷ later) × Updates eq kept new oldest None))

  -- the digest comes behind the others with its value, and the oldest goes where they are too many then
  abbrev pub Notes : (K → K → Bool) → List K → List K → HashMap K V S → HashMap K V S → K → V → Type 0
  Notes eq order later kept new digest value = (mid : HashMap K V S) × Updates eq kept mid digest (Some value)
      × LetsGo eq (order ++ digest ∷ []) later mid new

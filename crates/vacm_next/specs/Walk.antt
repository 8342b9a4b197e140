-- From where a walk asks (RFC 3416, sections 4.2.2 and 4.2.3).
--
-- A walk asks a device for the variable after a name, and gets the first one that is there. So that it doesn't
-- get one that is hidden, it asks from a place just before the next name that is seen. `WalksFrom`: the place is
-- at or after the name that the walk has, and before the next name that is seen. Only names that an OBJECT
-- IDENTIFIER can spell are asked for, since variables have no others.
use Rattle.std.specs.Prelude.{◌≡◌, ◌⊎◌, ℕ, ◌-◌, ◌==◌, if◌then◌else◌, nat_lt, List, [], ◌∷◌, ◌++◌, length, take}
use Rattle.std.specs.Prelude.{slice_index}
use Rattle.snmp_ber.specs.Oid.{AreArcs, IsObjectId}
use Rattle.snmp_ber.specs.declared.number.TheConstants.{MAX_INTEGER32}
use Rattle.vacm_next.specs.Next.{IsBefore, IsUpto}

-- of all lists that are so, the least
pub record IsLeastOf (P : List ℕ → Type 0) (name : List ℕ) : Type 0 where
  pub there : P name
  pub least : (other : List ℕ) → P other → IsUpto name other

abbrev pub NoneOf : (List ℕ → Type 0) → Type 0
NoneOf P = (name : List ℕ) → ¬ P name

-- a name after this one
abbrev pub ComesAfter : List ℕ → List ℕ → Type 0
ComesAfter after name = AreArcs name × IsBefore after name

-- a name at or after this one that can be spelled and is seen
abbrev pub IsSeenFrom : (List ℕ → Type 0) → List ℕ → List ℕ → Type 0
IsSeenFrom Seen from name = AreArcs name × IsObjectId name × IsUpto from name × Seen name

-- a name after this one that can be spelled and is seen
abbrev pub IsSeenAfter : (List ℕ → Type 0) → List ℕ → List ℕ → Type 0
IsSeenAfter Seen after name = AreArcs name × IsObjectId name × IsBefore after name × Seen name

-- the arcs without the last one, and the last one
abbrev pub front_arcs : List ℕ → List ℕ
front_arcs name = take (length name - 1) name

abbrev pub last_arc : List ℕ → ℕ
last_arc name = slice_index name (length name - 1)

-- a place just before a name: the name without a last arc 0, or else with its last arc less one, and behind that the
-- greatest arc of a device with arcs of 31 bits, if there is room for it
abbrev pub place_before : List ℕ → List ℕ
place_before name =
    if last_arc name == 0 then front_arcs name
    else front_arcs name ++ (last_arc name - 1) ∷ (if nat_lt (length name) 128 then MAX_INTEGER32 ∷ [] else [])

-- the place before the next name, if it can be spelled and comes after the name that the walk has; or else that name
abbrev pub IsPlace : List ℕ → List ℕ → List ℕ → Type 0
IsPlace after next place =
    (IsObjectId (place_before next) × IsBefore after (place_before next) × (place ≡ place_before next))
    ⊎ (¬ (IsObjectId (place_before next) × IsBefore after (place_before next)) × (place ≡ after))

-- the next name that is seen, and the place before it
pub record WalksFrom (Seen : List ℕ → Type 0) (after place : List ℕ) : Type 0 where
  pub next : List ℕ
  pub is_next : IsLeastOf (IsSeenAfter Seen after) next
  pub is_place : IsPlace after next place

-- between the name that the walk has and the place no name is passed over that can be spelled and is seen
pub record PassesNothing (Seen : List ℕ → Type 0) (after place : List ℕ) : Type 0 where
  pub upto : IsUpto after place
  pub none : (name : List ℕ) → IsSeenAfter Seen after name → ¬ IsUpto name place

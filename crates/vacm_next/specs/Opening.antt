-- What of a view begins with some arcs (RFC 3415, section 4, vacmViewTreeFamilyTable).
--
-- `Opens rows beginning`: some name of 1 to 128 arcs below 2^32 begins so and is in the view. `Covers`: from some
-- depth on, the row compares only arcs that the other row compares too, and they are equal. So of names that begin
-- alike, the row has each that the other row has, if both agree with their beginning.
use Rattle.std.specs.Prelude.{◌≡◌, ◌⊎◌, ⊤, ℕ, ◌+◌, ◌<◌, ◌≤◌, true, List, [], ◌∷◌, ◌++◌, length, slice_index, Contains}
use Rattle.std.specs.Prelude.{Option, MatchOption}
use Rattle.std.specs.declared.cmp.Ordering.TheVariants.{Less}
use Rattle.snmp_ber.specs.Oid.{AreArcs}
use Rattle.vacm_core.specs.Allowed.{family_order, mask_bit}
use Rattle.vacm_core.specs.View.{Includes, Agrees}
use Rattle.vacm_core.specs.declared.rows.FamilyRow.{FamilyRow}

-- some name begins so and is in the view
pub record Opens (rows : List FamilyRow) (beginning : List ℕ) : Type 0 where
  pub rest : List ℕ
  pub are_arcs : AreArcs (beginning ++ rest)
  pub included : Includes rows (beginning ++ rest)

-- some name begins so, goes on with the arc, and is in the view
abbrev pub OpensAt : List FamilyRow → List ℕ → ℕ → Type 0
OpensAt rows beginning arc = Opens rows (beginning ++ arc ∷ [])

-- from this depth on, each arc that the row compares the other row of its length compares too, and they are equal
pub record Covers (depth : ℕ) (row other : FamilyRow) : Type 0 where
  pub same_length : length row.subtree ≡ length other.subtree
  pub arcs : (k : ℕ) → depth ≤ k → k < length row.subtree → mask_bit row.mask k ≡ 1
      → (mask_bit other.mask k ≡ 1) × (slice_index row.subtree k ≡ slice_index other.subtree k)

-- the other row is better, and of the names that begin so it has each that the row has
pub record Exceeds (beginning : List ℕ) (row other : FamilyRow) : Type 0 where
  pub agrees : Agrees beginning other
  pub covers : Covers (length beginning) other row
  pub better : family_order row other ≡ Less

-- on all names that begin so and that the row has, a better row decides
abbrev pub IsExceeded : List FamilyRow → List ℕ → FamilyRow → Type 0
IsExceeded rows beginning row = (other : FamilyRow) × Contains rows other × Exceeds beginning row other

-- the row includes longer names that begin so, and on some of them no better row decides
pub record IncludesLonger (rows : List FamilyRow) (beginning : List ℕ) (row : FamilyRow) : Type 0 where
  pub includes : row.include ≡ true
  pub longer : length beginning < length row.subtree
  pub agrees : Agrees beginning row
  pub unexceeded : ¬ IsExceeded rows beginning row

-- the row agrees with the beginning, is longer, and compares its next arc: it is this one
pub record ComparesNext (beginning : List ℕ) (row : FamilyRow) (arc : ℕ) : Type 0 where
  pub longer : length beginning < length row.subtree
  pub agrees : Agrees beginning row
  pub compares : mask_bit row.mask (length beginning) ≡ 1
  pub arc_is : slice_index row.subtree (length beginning) ≡ arc

-- the row compares this arc after the beginning, or one from `low` on that is just before it
abbrev pub IsAtRow : List ℕ → FamilyRow → ℕ → ℕ → Type 0
IsAtRow beginning row low arc =
    ComparesNext beginning row arc
    ⊎ ((before : ℕ) × (low ≤ before) × (arc ≡ before + 1) × ComparesNext beginning row before)

-- no row that agrees with the beginning compares its next arc with this one
abbrev pub IsFree : List FamilyRow → List ℕ → ℕ → Type 0
IsFree rows beginning arc = (row : FamilyRow) → Contains rows row → ¬ ComparesNext beginning row arc

-- less than the least so far, if there is one
abbrev pub IsLowerThan : ℕ → Option ℕ → Type 0
IsLowerThan arc least = MatchOption least ⊤ (λ other. arc < other)

-- of the arcs from the first on, the second is the least that a name in the view may go on with
pub record IsLeastArc (rows : List FamilyRow) (beginning : List ℕ) (low arc : ℕ) : Type 0 where
  pub from_on : low ≤ arc
  pub opens : OpensAt rows beginning arc
  pub least : (other : ℕ) → low ≤ other → other < arc → ¬ OpensAt rows beginning other

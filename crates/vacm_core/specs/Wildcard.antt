-- Family rows with a wildcard, and how they stand (RFC 3415 section 4, vacmViewTreeFamilyMask).
--
-- `wildcard_order`: by the length of the subtree, then by the mask, then by the arcs that the mask compares,
-- then by all arcs. So rows of one length and one mask stand together, `AreAlike`, and those of them that have
-- a variable are those whose compared arcs are the variable's. `IsDecider`: a row that decides on the variable
-- among these rows, or none where none has it.
use Rattle.std.specs.Prelude.{◌≡◌, ℕ, ◌==◌, if◌then◌else◌, Bool, nat_lt, List, length, take, map, slice_index, Option}
use Rattle.std.specs.Prelude.{MatchOption, Contains}
use Rattle.std.specs.List.{range_with_len}
use Rattle.std.specs.Borrow.{Bor}
use Rattle.std.specs.Ordering.{nat_cmp, ordering_then, ordering_index}
use Rattle.std.specs.Cmp.Lexicographic.{slice_cmp}
use Rattle.std.specs.declared.cmp.Ordering.{Ordering}
use Rattle.vacm_core.specs.declared.rows.FamilyRow.{FamilyRow}
use Rattle.vacm_core.specs.Allowed.{IsBestOf, NoneFits, family_order, mask_bit}
use Rattle.vacm_core.specs.View.{HasArcs}

-- the arcs that the mask compares, and 0 for each other arc
abbrev pub compared_arcs : List ℕ → List ℕ → List ℕ
compared_arcs mask arcs =
    map (λ k. if mask_bit mask k == 1 then slice_index arcs k else 0) (range_with_len 0 (length arcs))

-- by the length of the subtree, then by the mask
abbrev pub shape_order : FamilyRow → FamilyRow → Ordering
shape_order a b =
    ordering_then (nat_cmp (length a.subtree) (length b.subtree)) (slice_cmp nat_cmp a.mask b.mask)

-- then by the arcs that the mask compares, and then by all arcs
abbrev pub wildcard_order : FamilyRow → FamilyRow → Ordering
wildcard_order a b =
    ordering_then (shape_order a b)
    (ordering_then (slice_cmp nat_cmp (compared_arcs a.mask a.subtree) (compared_arcs b.mask b.subtree))
    (slice_cmp nat_cmp a.subtree b.subtree))

-- the row is of the first one's length and mask, or of those that come after
abbrev pub is_upto : FamilyRow → FamilyRow → Bool
is_upto first row = nat_lt (ordering_index (shape_order first row)) 2

-- of the arcs that the mask compares, those of the beginning of a variable are less than the row's
abbrev pub comes_first : List ℕ → List ℕ → FamilyRow → Bool
comes_first mask beginning row =
    nat_lt (ordering_index (slice_cmp nat_cmp (compared_arcs mask beginning) (compared_arcs mask row.subtree))) 1

-- a subtree as long as the first row's, and the first row's mask
pub record IsLike (first row : FamilyRow) : Type 0 where
  pub same_length : length row.subtree ≡ length first.subtree
  pub same_mask : row.mask ≡ first.mask

-- all of one length and one mask
abbrev pub AreAlike : List FamilyRow → Type 0
AreAlike rows = (first row : FamilyRow) → Contains rows first → Contains rows row → IsLike first row

-- the row that decides on the variable among these, or none where none has it
abbrev pub IsDecider : List ℕ → List FamilyRow → Option (Bor FamilyRow) → Type 0
IsDecider variable rows found = MatchOption found (NoneFits rows (HasArcs variable))
    (λ row. IsBestOf rows (HasArcs variable) family_order row.now)

-- the row is of a greater length or mask than the first one, or of its length and mask and its first arcs, as many as
-- the beginning has and as the mask compares them, are greater than the beginning
abbrev pub is_before_alike : FamilyRow → List ℕ → FamilyRow → Bool
is_before_alike first beginning row =
    nat_lt (ordering_index (ordering_then (shape_order first row)
    (slice_cmp nat_cmp (compared_arcs first.mask beginning)
    (compared_arcs first.mask (take (length beginning) row.subtree))))) 1

-- Where the first row of each user's name stands.
use Rattle.std.specs.Prelude.{◌≡◌, ℕ, List, slice_get, find, Option}
use Rattle.std.specs.Option.{option_and_then}
use Rattle.std.specs.Borrow.{Bor}
use Rattle.std.specs.Ordering.{nat_cmp}
use Rattle.std.specs.Cmp.Lexicographic.{slice_cmp}
use Rattle.std.specs.declared.cmp.Ordering.{Ordering}
use Rattle.std.specs.BTreeMap as tree
use Rattle.std.specs.BTreeMap.{BTreeMap}
use Rattle.usm_users.specs.declared.load.UserRow.{UserRow}
use Rattle.usm_users.specs.Rows.{has_name}

abbrev pub name_cmp : Bor (List ℕ) → Bor (List ℕ) → Ordering
name_cmp a b = slice_cmp nat_cmp a.now b.now

abbrev pub place_of : BTreeMap (Bor (List ℕ)) ℕ → Bor (List ℕ) → Option ℕ
place_of places name = tree.get name_cmp places name

-- The row at the place of a name is the first of this name, and a name without a row has no place.
abbrev pub AreFirstPlaces : List UserRow → BTreeMap (Bor (List ℕ)) ℕ → Type 0
AreFirstPlaces users places = (name : Bor (List ℕ))
    → option_and_then (slice_get users) (place_of places name) ≡ find (has_name name.now) users

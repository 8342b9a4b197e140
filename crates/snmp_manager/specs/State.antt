-- What contracts see of a world.
--
-- `WorldState`. Managers with what they hold, and files in the order in which they were saved; each file is
-- a listing of marks (`AreFiles`).
use Rattle.std.specs.Prelude.{◌≡◌, ℕ, List, slice_get, Some}
use Rattle.engine_clock.specs.Marks.{Marks}
use Rattle.engine_clock.specs.Saved.{AreMarks, listing}
use Rattle.snmp_manager.specs.Views.{Held}

-- its managers, and its files in the order of their numbers
pub record WorldState : Type 0 where
  pub managers : List Held
  pub files : List (List ℕ)

-- the text lists marks
pub record IsListing (text : List ℕ) : Type 0 where
  pub marks : Marks
  pub fits : AreMarks marks
  pub is : text ≡ listing marks

-- each file lists marks
abbrev pub AreFiles : List (List ℕ) → Type 0
AreFiles files = (f : ℕ) (text : List ℕ) → slice_get files f ≡ Some text → IsListing text

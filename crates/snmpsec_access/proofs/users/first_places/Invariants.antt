use Rattle.std.proofs.Common.{◌≡◌, ℕ, ◌≤◌, List, length, drop, slice_get}
use Rattle.std.specs.Prelude.{find}
use Rattle.std.specs.Option.{option_and_then}
use Rattle.std.specs.Borrow.{Bor}
use Rattle.usm_users.specs.Rows.{has_name}
use Rattle.snmpsec_access.specs.UserPlaces.{place_of}
use Rattle.snmpsec_access.proofs.users.first_places.Given as goal

abbrev pub invariant-rows : goal.invariant-rows
invariant-rows l = record {
  first : (name : Bor (List ℕ)) → option_and_then (slice_get l.users) (place_of l.places name) ≡ find (has_name name.now) (drop l.at l.users);
  most : l.at ≤ length l.users;
}

abbrev pub decreases-rows : goal.decreases-rows
decreases-rows l = l.at

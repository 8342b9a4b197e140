use Rattle.std.proofs.Common.{◌≡◌, ◌<◌, ℕ, None, map, take}
use Rattle.usm_users.specs.Rows.{fault_at, user_of}
use Rattle.usm_users.specs.Index.{IsIndex}
use Rattle.usm_users.proofs.load.places_of.Given as goal

abbrev pub invariant-loop-position : goal.invariant-loop-position
invariant-loop-position l = record {
  none_before : (i : ℕ) → i < l.position → fault_at l.rows i ≡ None;
  index : IsIndex (map user_of (take l.position l.rows)) l.places.entries;
}

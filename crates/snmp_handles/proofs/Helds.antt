-- A manager by its fields.
use Rattle.std.proofs.Common.{◌≡◌, List, refl}
use Rattle.engine_clock.specs.Marks.{Marks}
use Rattle.usm_users.specs.User.{User}
use Rattle.snmp_manager.specs.Views.{Held}

pub held_is : (h : Held) (users : List User) (clocks : Marks) → h.users ≡ users → h.clocks ≡ clocks → h ≡ record { users = users; clocks = clocks }
held_is h users clocks same_users same_clocks = rw (← same_users, ← same_clocks) refl

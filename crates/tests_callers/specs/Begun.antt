-- A world as it begins: a manager for each of the clocks, and no file; and what its managers know after events.
use Rattle.std.specs.Prelude.{ℕ, List, [], map}
use Rattle.engine_clock.specs.Marks.{SeenPair, Marks}
use Rattle.usm_users.specs.User.{User}
use Rattle.snmp_manager.specs.Views.{held_by}
use Rattle.snmp_manager.specs.State.{WorldState}
use Rattle.snmp_manager.specs.Knowledge.{at_first, knows_after_all}
use Rattle.snmp_manager.specs.declared.event.Event.{Event}

abbrev pub begun : List User → List Marks → WorldState
begun users clocks = record { managers = map (held_by users) clocks; files = [] }

-- the marks of engines that the manager of this number knows after these events
abbrev pub known_to : List User → List Marks → List Event → ℕ → (List ℕ → SeenPair → Type 0)
known_to users clocks events i = (knows_after_all users events (at_first (begun users clocks))).managers i

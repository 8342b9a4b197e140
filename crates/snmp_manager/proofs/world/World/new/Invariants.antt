use Rattle.std.proofs.Common.{◌≡◌, take, map}
use Rattle.snmp_manager.specs.Views.{held_by}
use Rattle.snmp_manager.proofs.world.World.new.Given as goal

abbrev pub invariant-loop-held : goal.invariant-loop-held
invariant-loop-held l = l.managers.items ≡ map (held_by l.users.users) (take l.held-index l.clocks)

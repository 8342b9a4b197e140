use Rattle.std.proofs.Common.{refl}
use Rattle.snmp_manager.specs.Knowledge.{at_first}
use Rattle.snmp_manager.proofs.Worlds.{greatest_at_first}
use Rattle.snmp_manager.proofs.Runs.{all_greatest, all_users, all_joined}
use Rattle.snmp_manager.proofs.world_laws.steps_leave_the_greatest.Goals as goal

pub returns-clause-greatest : goal.returns-clause-greatest
returns-clause-greatest c = λ users events begin world have all. all_greatest users (at_first begin) begin world events have (greatest_at_first begin) all

pub returns-clause-users : goal.returns-clause-users
returns-clause-users c = λ users events begin world have all. all_users users begin world events have all

pub returns-clause-one : goal.returns-clause-one
returns-clause-one c = λ begin world event step. (world, step, refl)

pub returns-clause-joined : goal.returns-clause-joined
returns-clause-joined c = all_joined

use Rattle.std.proofs.Common.{List, take}
use Rattle.usm_users.specs.User.{User}
use Rattle.snmp_manager.specs.Knowledge.{HasGreatest, HaveUsers, StepsAll, at_first, knows_after_all}
use Rattle.snmp_manager.proofs.world.World.run.Given as goal

-- after the events so far each manager and file has the greatest of what is known there, and those events happened
abbrev pub invariant-loop-done : goal.invariant-loop-done
invariant-loop-done l = record {
  users : (users : List User) → HaveUsers users l.fn.self → HaveUsers users l.self;
  greatest : (users : List User) → HaveUsers users l.fn.self → HasGreatest (knows_after_all users (take l.done l.events) (at_first l.fn.self)) l.self;
  steps : StepsAll l.fn.self (take l.done l.events) l.self;
}

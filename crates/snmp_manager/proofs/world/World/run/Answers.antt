use Rattle.std.proofs.Common.{refl, take}
use Rattle.snmp_manager.specs.Knowledge.{knows_after_all, at_first}
use Rattle.std.proofs.lemmas.List.{take_all}
use Rattle.std.proofs.lemmas.Option.{slice_get_read}
use Rattle.snmp_manager.proofs.Worlds.{greatest_at_first, greatest_more, users_after, greatest_pairs}
use Rattle.snmp_manager.proofs.Runs.{steps_next, refuses_event}
use Rattle.snmp_manager.proofs.world.World.run.Goals as goal

pub loop-done-init : goal.loop-done-init
loop-done-init c = record {
  users = λ users have. have;
  greatest = λ users have. greatest_at_first c.args.self.now;
  steps = refl;
}

pub loop-done-preserved : goal.loop-done-preserved
loop-done-preserved c = record {
  users = λ users have. users_after users c.loop-done.self c.step.new.self c.index-events-done.result c.in_default.ensures.ok (c.loop-done.invariant.users users have);
  greatest = λ users have.
      greatest_more users c.args.self.now c.loop-done.self c.step.new.self c.args.events.now c.loop-done.done c.index-events-done.result
      c.loop-done-test.true c.index-events-done.is (c.loop-done.invariant.users users have) (c.loop-done.invariant.greatest users have) c.in_default.ensures.ok;
  steps =
      steps_next c.args.self.now c.loop-done.self c.step.new.self c.args.events.now c.loop-done.done c.index-events-done.result
      c.loop-done-test.true c.index-events-done.is c.loop-done.invariant.steps c.in_default.ensures.ok;
}

pub returns-clause-greatest : goal.returns-clause-greatest
returns-clause-greatest c = λ users have. let end = c.loop-done-test.false in rw take_all at (c.loop-done.invariant.greatest users have)

pub returns-clause-pairs : goal.returns-clause-pairs
returns-clause-pairs c = λ users have. let end = c.loop-done-test.false in greatest_pairs (rw take_all at (c.loop-done.invariant.greatest users have))

pub returns-in-Err-clause-pairs : goal.returns-in-Err-clause-pairs
returns-in-Err-clause-pairs c = λ users have. greatest_pairs {k = knows_after_all users (take c.loop-done.done c.args.events.now) (at_first c.args.self.now)} {world = c.step.new.self} (rw c.in-Err.ensures.err (c.loop-done.invariant.greatest users have))

pub returns-clause-steps : goal.returns-clause-steps
returns-clause-steps c = let end = c.loop-done-test.false in rw take_all at c.loop-done.invariant.steps

pub returns-in-Err-clause-steps : goal.returns-in-Err-clause-steps
returns-in-Err-clause-steps c = rw c.in-Err.ensures.err c.loop-done.invariant.steps

pub returns-in-Err-clause-stopped : goal.returns-in-Err-clause-stopped
returns-in-Err-clause-stopped c = record {
  event = c.index-events-done.result;
  next = slice_get_read c.args.events.now _ c.loop-done.done c.index-events-done.result refl c.loop-done-test.true c.index-events-done.is;
  why = rw c.in-Err.ensures.err (refuses_event c.in-Err.why c.index-events-done.result c.loop-done.self c.in-Err.ensures.no_such.0 c.in-Err.ensures.no_such.1 c.in-Err.ensures.no_memory);
}

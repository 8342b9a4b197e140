use Rattle.std.specs.Prelude.{vec_capacity}
use Rattle.std.proofs.Common.{sym, take, ◌<◌, vec_len, ◌≡◌, ◌∙◌, ◌++◌, ◌∷◌, [], arith, inr, true, false, length, refl}
use Rattle.std.proofs.lemmas.Grind.{common_steps}
use Rattle.std.proofs.lemmas.List.{take_all}
use Rattle.std.proofs.lemmas.Option.{slice_get_read}
use Rattle.snmp_manager.proofs.Learned.{latest_more, outcomes_more, is_not_err, runs_taken}
use Rattle.snmp_manager.proofs.manager.Manager.run.Goals as goal

pub unreachable-requires : goal.unreachable-requires
unreachable-requires c =
    let room : vec_len c.loop-i.outcomes < vec_capacity c.loop-i.outcomes = omega (arith, c.loop-i-test.true, c.loop-i.invariant.len, c.loop-i.invariant.room) in
    is_not_err c.push.result (c.push.ensures.succeeds room) (sym c.is_err.ensures.value ∙ c.if-is_err.true)

pub loop-i-preserved : goal.loop-i-preserved
loop-i-preserved c =
    let pushed : c.push.new.self.items ≡ c.loop-i.outcomes.items ++ c.in-Ok-take_one.outcome ∷ [] = grind (arith, common_steps) in
    record {
      users = c.in-Ok-take_one.ensures.outcome.2.0 ∙ c.loop-i.invariant.users;
      latest = λ engine.
          latest_more c.args.self.now c.loop-i.self c.take_one.new.self c.args.datagrams.now c.loop-i.i c.index-datagrams-i.result c.in-Ok-take_one.outcome c.deref.result.now
          c.loop-i-test.true c.index-datagrams-i.is c.deref.ensures.value c.in-Ok-take_one.ensures.outcome c.loop-i.invariant.users engine (c.loop-i.invariant.latest engine);
      outcomes =
          rw pushed
          (outcomes_more c.args.self.now c.loop-i.self c.take_one.new.self c.args.datagrams.now c.loop-i.i c.index-datagrams-i.result c.in-Ok-take_one.outcome c.deref.result.now
          c.loop-i-test.true c.index-datagrams-i.is c.deref.ensures.value c.in-Ok-take_one.ensures.outcome c.loop-i.outcomes.items c.loop-i.invariant.outcomes);
      len = grind (arith, common_steps);
      room = omega (arith, c.push.ensures.capacity, c.loop-i.invariant.room);
    }

pub returns-clause-latest : goal.returns-clause-latest
returns-clause-latest c = λ engine. let end = c.loop-i-test.false in rw take_all at (c.loop-i.invariant.latest engine)

pub returns-clause-ran : goal.returns-clause-ran
returns-clause-ran c =
    let end = c.loop-i-test.false in
    let runs = rw take_all at c.loop-i.invariant.outcomes in
    runs_taken c.args.self.now c.loop-i.self c.args.datagrams.now c.loop-i.outcomes.items runs

pub returns-in_default-take_one-clause-ran : goal.returns-in_default-take_one-clause-ran
returns-in_default-take_one-clause-ran c =
    rw c.in_default-take_one.ensures.err
    (runs_taken c.args.self.now c.loop-i.self (take c.loop-i.i c.args.datagrams.now) c.loop-i.outcomes.items c.loop-i.invariant.outcomes)

-- the next datagram wants memory
pub returns-in_default-take_one-clause-wants : goal.returns-in_default-take_one-clause-wants
returns-in_default-take_one-clause-wants c =
    inr (
      c.index-datagrams-i.result,
      slice_get_read c.args.datagrams.now (length c.args.datagrams.now) c.loop-i.i c.index-datagrams-i.result refl c.loop-i-test.true c.index-datagrams-i.is,
      rw (c.in_default-take_one.ensures.err, ← c.deref.ensures.value)
          (λ plain held. let wrong : false ≡ true = c.in_default-take_one.ensures.no_memory plain held in cc wrong),
    )

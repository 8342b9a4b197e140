use Rattle.std.proofs.Common.{refl}
use Rattle.std.proofs.lemmas.Result.{on_ok_weaker}
use Rattle.snmp_manager.proofs.Worlds.{files_after}
use Rattle.snmp_manager.proofs.world.World.step.Goals as goal

pub returns-in-Take-clause-ok : goal.returns-in-Take-clause-ok
returns-in-Take-clause-ok c =
    let ok = rw c.deref.ensures.value at c.take.ensures.ok in
    rw (← c.self.view_is, c.in-Take.is) (on_ok_weaker c.take.result (λ change. (change, refl)) ok)

pub returns-in-Save-clause-ok : goal.returns-in-Save-clause-ok
returns-in-Save-clause-ok c =
    let ok = rw c.deref-in-Save.ensures.value at c.save.ensures.ok in
    rw (← c.self.view_is, c.in-Save.is) (on_ok_weaker c.save.result (λ saved. (refl, saved)) ok)

pub returns-in_ok-clocks-in-Absorb-clause-ok : goal.returns-in_ok-clocks-in-Absorb-clause-ok
returns-in_ok-clocks-in-Absorb-clause-ok c =
    let file = rw c.deref-in-Absorb.ensures.value at c.in_ok-clocks-in-Absorb.ensures.ok in
    rw (← c.self.view_is, c.in-Absorb.is) (on_ok_weaker c.absorb.result (λ change. ((c.in_ok-clocks-in-Absorb.clocks, file, change), refl)) c.absorb.ensures.ok)

pub returns-in_ok-clocks-in-Restart-clause-ok : goal.returns-in_ok-clocks-in-Restart-clause-ok
returns-in_ok-clocks-in-Restart-clause-ok c =
    let file = rw c.deref-in-Restart.ensures.value at c.in_ok-clocks-in-Restart.ensures.ok in
    rw (← c.self.view_is, c.in-Restart.is) (
      (
        c.in_ok-clocks-in-Restart.clocks,
        file,
        record {
          before = c.restart.ensures.before;
          after = c.restart.ensures.after;
          was = c.restart.ensures.was;
          changes = c.restart.ensures.changes;
          users = c.restart.ensures.users;
          is = c.restart.ensures.is;
        },
      ),
      refl,
    )

pub invariant_of-self-in-Save : goal.invariant_of-self-in-Save
invariant_of-self-in-Save c = files_after _ _ _ _ c.save.result c.save.ensures.ok c.save.ensures.err c.self.invariant

pub read-requires : goal.read-requires
read-requires c = rw c.deref-in-Absorb.ensures.value c.self.invariant

pub read-requires-in-Restart : goal.read-requires-in-Restart
read-requires-in-Restart c = rw c.deref-in-Restart.ensures.value c.self.invariant

pub returns-in-Take-clause-no_memory : goal.returns-in-Take-clause-no_memory
returns-in-Take-clause-no_memory c =
    let taken = rw c.deref.ensures.value at c.take.ensures.no_memory in
    rw (← c.self.view_is, c.in-Take.is) (λ t. taken t.0 t.1 t.2 t.3)

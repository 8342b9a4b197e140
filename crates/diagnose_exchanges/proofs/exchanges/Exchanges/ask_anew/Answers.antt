use Rattle.std.proofs.Common.{refl}
use Rattle.diagnose_exchanges.specs.declared.exchange.Ending.TheVariants.{NoAnswer, Waits}
use Rattle.diagnose_exchanges.specs.Exchanges.{begins}
use Rattle.diagnose_exchanges.proofs.Takings.{begun_takes, ended_or_same, then_none}
use Rattle.diagnose_exchanges.proofs.exchanges.Exchanges.ask_anew.Goals as goal

pub returns-then-ne-clause-takes : goal.returns-then-ne-clause-takes
returns-then-ne-clause-takes g c =
    let old = c.args.self.now in
    let asked = c.ask.new.self in
    then_none (begins c.args.number c.args.first c.args.counts (Waits c.args.asked)) old.gone old.list.items asked.list.items c.end.new.self.list.items (begun_takes c.args.number old.gone old.list.items asked.list.items c.args.first c.args.counts (Waits c.args.asked) refl c.in_ok-ask.ensures.ok)
    (ended_or_same old.gone asked.gone asked.list.items c.end.new.self.list.items c.in-Some.place NoAnswer c.end.result c.in_ok-ask.ensures.gone (refl, refl) c.end.ensures.ended (λ h. (c.end.ensures.stays h).0))

pub returns-else-ne-clause-takes : goal.returns-else-ne-clause-takes
returns-else-ne-clause-takes g c = begun_takes c.args.number _ _ _ c.args.first c.args.counts (Waits c.args.asked) refl c.in_ok-ask.ensures.ok

pub returns-in_default-clause-takes : goal.returns-in_default-clause-takes
returns-in_default-clause-takes g c = begun_takes c.args.number _ _ _ c.args.first c.args.counts (Waits c.args.asked) refl c.in_ok-ask.ensures.ok

use Rattle.std.proofs.Common.{false, refl}
use Rattle.diagnose_exchanges.specs.declared.exchange.Ending.TheVariants.{Alone}
use Rattle.diagnose_exchanges.proofs.Takings.{begun_takes}
use Rattle.diagnose_exchanges.proofs.exchanges.Exchanges.tell.Goals as goal

pub returns-clause-takes : goal.returns-clause-takes
returns-clause-takes g c = begun_takes c.args.number _ _ _ c.args.first false Alone refl c.in_ok-push_back.ensures.items

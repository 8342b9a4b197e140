use Rattle.std.proofs.Common.{arith}
use Rattle.diagnose_exchanges.proofs.exchanges.asks_at.Goals as goal

pub returns-then-asks-clause-found : goal.returns-then-asks-clause-found
returns-then-asks-clause-found g c = record {
  place_is = omega (arith, c.if-place-gone.false);
  within = c.in_ok-get.ensures.item.3.0;
  exchange = c.in_ok-get.field-0.now;
  exchange_is = c.in_ok-get.ensures.lookup;
  asking = cc (c.asks.ensures, c.if-asks.true);
}

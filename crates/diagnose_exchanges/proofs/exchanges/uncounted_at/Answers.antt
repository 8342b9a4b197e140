use Rattle.std.proofs.Common.{arith}
use Rattle.diagnose_exchanges.proofs.exchanges.uncounted_at.Goals as goal

pub returns : goal.returns
returns g c = record {
  found = record {
    place_is = omega (arith, c.if-place-gone.false);
    within = c.in_ok-exchange.ensures.item.3.0;
    exchange = c.in_ok-exchange.exchange.now;
    exchange_is = c.in_ok-exchange.ensures.lookup;
    finished = cc (c.waits.ensures, c.if-waits.false);
    uncounted = c.if-exchange.false;
  };
}

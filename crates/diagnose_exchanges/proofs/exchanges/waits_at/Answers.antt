use Rattle.std.proofs.Common.{arith}
use Rattle.diagnose_exchanges.proofs.exchanges.waits_at.Goals as goal

pub returns-then-waits-clause-found : goal.returns-then-waits-clause-found
returns-then-waits-clause-found g c = record {
  place_is = omega (arith, c.if-place-gone.false);
  within = c.in_ok-get.ensures.item.3.0;
  exchange = c.in_ok-get.field-0.now;
  exchange_is = c.in_ok-get.ensures.lookup;
  waiting = cc (c.waits.ensures, c.if-waits.true);
}

use Rattle.diagnose_exchanges.proofs.Takings.{handed_takes}
use Rattle.diagnose_exchanges.proofs.exchanges.Exchanges.sent_again.Goals as goal

pub returns-clause-handed : goal.returns-clause-handed
returns-clause-handed g c = λ _. record {
  index = c.in-Some.index;
  other = c.in-Some-uncounted_at.other;
  waited = c.in-Some.ensures.found;
  again = c.in-Some-uncounted_at.ensures.found;
  new_is = c.hand_over.ensures c.in-Some.ensures.found.exchange c.in-Some-uncounted_at.ensures.found.exchange c.in-Some.ensures.found.exchange_is c.in-Some-uncounted_at.ensures.found.exchange_is;
}

pub returns-clause-takes : goal.returns-clause-takes
returns-clause-takes g c = handed_takes _ _ _ c.args.first c.args.place (record {
  index = c.in-Some.index;
  other = c.in-Some-uncounted_at.other;
  waited = c.in-Some.ensures.found;
  again = c.in-Some-uncounted_at.ensures.found;
  new_is = c.hand_over.ensures c.in-Some.ensures.found.exchange c.in-Some-uncounted_at.ensures.found.exchange c.in-Some.ensures.found.exchange_is c.in-Some-uncounted_at.ensures.found.exchange_is;
})

use Rattle.diagnose_exchanges.proofs.Steps.{ends_read}
use Rattle.diagnose_exchanges.proofs.exchanges.Exchanges.end.Goals as goal

pub returns-clause-ended : goal.returns-clause-ended
returns-clause-ended g c = λ _. ends_read _ _ _ _ c.index_mut.result.now c.args.ending c.in-Some.ensures.found c.index_mut.ensures.value

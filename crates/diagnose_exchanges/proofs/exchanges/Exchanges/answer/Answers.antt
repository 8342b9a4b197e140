use Rattle.std.proofs.Common.{refl, sym}
use Rattle.diagnose_exchanges.proofs.Steps.{answered_at}
use Rattle.diagnose_exchanges.proofs.exchanges.Exchanges.answer.Goals as goal

pub returns-clause-answered : goal.returns-clause-answered
returns-clause-answered g c = (sym c.in-Some.ensures.found, answered_at _ _ _ _ _ _ _ _ _ c.index_mut.result.now c.in-Some-asks_at.ensures.found c.index_mut.ensures.value refl)

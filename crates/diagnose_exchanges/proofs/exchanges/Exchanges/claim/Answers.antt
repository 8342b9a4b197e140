use Rattle.std.proofs.Common.{◌∙◌, refl, sym}
use Rattle.diagnose_exchanges.proofs.Steps.{claimed_at}
use Rattle.diagnose_exchanges.proofs.exchanges.Exchanges.claim.Goals as goal

pub returns-clause-claimed : goal.returns-clause-claimed
returns-clause-claimed g c = (sym c.in-Some.ensures, claimed_at _ _ _ _ _ _ _ _ _ c.index.result.now c.index_mut.result.now c.in-Some-asks_at.ensures.found c.index.ensures (sym c.is_some.ensures ∙ c.if-is_some.false) c.index_mut.ensures.value refl)

use Rattle.diagnose_exchanges.proofs.Steps.{handed}
use Rattle.diagnose_exchanges.proofs.exchanges.hand_over.Goals as goal

pub returns : goal.returns
returns g c = λ x y x_is y_is. handed c.args.list.now.items c.args.index c.args.other x y c.index_mut-first.result.now c.index.result.now c.index_mut.result.now c.requires.within.0 c.requires.within.1 c.requires.apart x_is y_is c.index_mut-first.ensures.value c.index.ensures c.index_mut.ensures.value

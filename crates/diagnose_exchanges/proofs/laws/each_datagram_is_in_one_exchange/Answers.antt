use Rattle.std.proofs.Common.{[], arith}
use Rattle.diagnose_exchanges.proofs.Runs.{each_once, in_order}
use Rattle.diagnose_exchanges.proofs.laws.each_datagram_is_in_one_exchange.Goals as goal

pub returns : goal.returns
returns g c = λ gone steps finished held run. ((λ n. omega (arith, each_once n gone [] steps finished held run)), in_order gone [] steps finished held run)

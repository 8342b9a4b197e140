use Rattle.std.proofs.Common.{[], arith}
use Rattle.diagnose_exchanges.proofs.Runs.{counted_once}
use Rattle.diagnose_exchanges.proofs.laws.each_request_is_counted_once.Goals as goal

pub returns : goal.returns
returns g c = λ gone steps finished held run. omega (arith, counted_once gone [] steps finished held run)

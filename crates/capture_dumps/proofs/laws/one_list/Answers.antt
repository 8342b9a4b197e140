use Rattle.capture_dumps.proofs.OneList.{one_dumps}
use Rattle.capture_dumps.proofs.laws.one_list.Goals as goal

pub returns : goal.returns
returns c = one_dumps

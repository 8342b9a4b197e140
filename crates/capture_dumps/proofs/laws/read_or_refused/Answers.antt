use Rattle.capture_dumps.proofs.OneList.{for_memory}
use Rattle.capture_dumps.proofs.laws.read_or_refused.Goals as goal

pub returns : goal.returns
returns c = for_memory

use Rattle.diagnose_text.proofs.Writings.{writes_then}
use Rattle.diagnose_text.proofs.laws.calls_print_as_one.Goals as goal

pub returns : goal.returns
returns c = writes_then

use Rattle.std.proofs.Common.{[]}
use Rattle.diagnose_text.proofs.Writings.{writes_nothing}
use Rattle.diagnose_text.proofs.diagnoser.Diagnoser.end_over.Goals as goal

pub returns-then-not-is_over : goal.returns-then-not-is_over
returns-then-not-is_over c = writes_nothing c.args.self.now []

use Rattle.capture_dumps.proofs.Parts.{never_both}
use Rattle.capture_dumps.proofs.hex_laws.read_or_refused.Goals as goal

pub returns : goal.returns
returns c = never_both

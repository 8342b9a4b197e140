use Rattle.std.proofs.Common.{length}
use Rattle.snmpsec_output.proofs.choices.+common.Given as goal

abbrev pub decreases-common : goal.decreases-common
decreases-common l = length l.first.now

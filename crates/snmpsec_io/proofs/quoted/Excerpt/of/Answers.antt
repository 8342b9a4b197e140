use Rattle.std.proofs.Common.{arith}
use Rattle.snmpsec_io.proofs.Shown.{copied}
use Rattle.snmpsec_io.proofs.quoted.Excerpt.of.Goals as goal

pub returns-clause-shown : goal.returns-clause-shown
returns-clause-shown c = copied _ _ _ _ (omega (arith, c.min-len.ensures)) c.copy_from_slice.ensures.after

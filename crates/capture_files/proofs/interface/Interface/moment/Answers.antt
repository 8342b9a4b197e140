use Rattle.std.proofs.Common.{◌<◌, sym, subst}
use Rattle.capture_files.proofs.Units.{units_some}
use Rattle.capture_files.proofs.interface.Interface.moment.Goals as goal

pub nonzero_div-seconds : goal.nonzero_div-seconds
nonzero_div-seconds c = subst (λ n. 0 < n) (sym c.in-Some.ensures.1) (units_some c.args.self.resolution)

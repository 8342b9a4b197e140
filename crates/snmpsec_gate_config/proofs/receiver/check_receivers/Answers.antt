use Rattle.std.proofs.Common.{arith}
use Rattle.snmpsec_gate_config.proofs.Fits.{fit_more, fit_all}
use Rattle.snmpsec_gate_config.proofs.receiver.check_receivers.Goals as goal

pub loop-position-preserved : goal.loop-position-preserved
loop-position-preserved c = fit_more c.args.users.now c.args.receivers.now c.loop-position.position c.index-receivers-position.result c.index-receivers-position.is c.in_default.ensures c.loop-position.invariant

pub returns-clause-ok : goal.returns-clause-ok
returns-clause-ok c = fit_all c.args.users.now c.args.receivers.now c.loop-position.position (omega arith) c.loop-position.invariant

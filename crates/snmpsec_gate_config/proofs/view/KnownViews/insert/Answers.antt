use Rattle.snmpsec_gate_config.proofs.Added.{added}
use Rattle.snmpsec_gate_config.proofs.view.KnownViews.insert.Goals as goal

pub returns : goal.returns
returns c = added c.args.self.now.names c.insert.new.self c.args.view.now c.in_ok-insert.ensures.updates

use Rattle.snmpsec_access.proofs.Added.{added}
use Rattle.snmpsec_access.proofs.names.Names.insert.Goals as goal

pub returns : goal.returns
returns c = added c.args.self.now.octets c.insert.new.self c.args.name.now c.in_ok-insert.ensures.updates

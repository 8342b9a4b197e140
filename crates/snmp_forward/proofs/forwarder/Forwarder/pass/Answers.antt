use Rattle.std.proofs.Common.{refl}
use Rattle.snmp_forward.proofs.Dealing.{passes}
use Rattle.snmp_forward.proofs.forwarder.Forwarder.pass.Goals as goal

pub returns-clause-happens : goal.returns-clause-happens
returns-clause-happens c = λ before by number inform stands goes.
    passes c.args.self.now _ before by number inform (record { agent = refl; devices = refl; receivers = refl; engine = refl; most = c.advance.ensures.most }) goes c.advance.ensures.list c.advance.ensures.next stands

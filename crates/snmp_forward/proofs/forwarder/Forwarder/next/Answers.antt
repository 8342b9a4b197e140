use Rattle.std.proofs.Common.{subst}
use Rattle.snmp_forward.specs.Standing.{sealing_at}
use Rattle.snmp_forward.specs.Written.{IsFirstInform}
use Rattle.snmp_forward.proofs.forwarder.Forwarder.next.Goals as goal

pub returns-in-Some-clause-happens : goal.returns-in-Some-clause-happens
returns-in-Some-clause-happens c = λ before stands.
    c.pass.ensures.happens before (sealing_at c.args.now c.args.salt c.args.ask_id) c.in-Some.number c.in-Some.inform stands (subst (IsFirstInform c.args.self.now) c.in-Some.is c.in_ok-number.ensures)

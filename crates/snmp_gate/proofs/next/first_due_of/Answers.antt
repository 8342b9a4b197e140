use Rattle.snmp_gate.proofs.Dues.{due_all, due_more}
use Rattle.snmp_gate.proofs.next.first_due_of.Goals as goal

pub loop-request-preserved : goal.loop-request-preserved
loop-request-preserved c =
    due_more c.args.limits.now c.args.requests.now c.loop-request.request-index c.request-item.result c.loop-request.due c.due_of.result c.earlier.result c.loop-request-test.true c.request-item.is c.loop-request.invariant
    c.due_of.ensures c.earlier.ensures

pub returns : goal.returns
returns c = due_all c.args.limits.now c.args.requests.now c.loop-request.request-index c.loop-request.due c.loop-request-test.false c.loop-request.invariant

use Rattle.snmp_forward.proofs.Dues.{due_all, due_more}
use Rattle.snmp_forward.proofs.waiting_inform.next_due.Goals as goal

pub loop-waiting-preserved : goal.loop-waiting-preserved
loop-waiting-preserved c =
    due_more c.args.list.now c.loop-waiting.waiting-index c.waiting-item.result c.loop-waiting.due c.earlier.result c.loop-waiting-test.true c.waiting-item.is c.loop-waiting.invariant c.earlier.ensures

pub returns : goal.returns
returns c = due_all c.args.list.now c.loop-waiting.waiting-index c.loop-waiting.due c.loop-waiting-test.false c.loop-waiting.invariant

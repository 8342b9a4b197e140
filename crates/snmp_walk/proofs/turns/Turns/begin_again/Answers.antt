use Rattle.std.proofs.Common.{◌-◌, arith, drop}
use Rattle.snmp_walk.proofs.TurnLists.{begun_again, someone_left}
use Rattle.snmp_walk.proofs.turns.Turns.begin_again.Goals as goal

pub returns-clause-left : goal.returns-clause-left
returns-clause-left c =
    let self = c.args.self.now in
    begun_again (drop self.at self.once.items) self.again.items self.at_again self.left (omega (arith, c.if-self-len.false, c.len.ensures)) (omega (arith, c.if-self-eq0.false))

pub returns-clause-over : goal.returns-clause-over
returns-clause-over c =
    let self = c.args.self.now in
    someone_left self.once.items self.again.items self.at (self.left - 1) c.requires

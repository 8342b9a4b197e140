use Rattle.std.proofs.Common.{arith}
use Rattle.snmp_responder.specs.Code.{seen_by}
use Rattle.snmp_walk.proofs.Each.{same_after_going, stand_after_going}
use Rattle.snmp_walk.proofs.Named.{named_after_going}
use Rattle.snmp_walk.proofs.Open.{not_whole}
use Rattle.snmp_walk.proofs.dialogue.Dialogue.go_on.Goals as goal

pub returns-in_default-clause-requests : goal.returns-in_default-clause-requests
returns-in_default-clause-requests c = same_after_going (seen_by c.args.viewer.now) c.args.self.now.columns.items c.go_on_each.new.columns.items c.go_on_each.ensures

pub returns-in_default-clause-stand : goal.returns-in_default-clause-stand
returns-in_default-clause-stand c told = stand_after_going (seen_by c.args.viewer.now) told c.args.self.now.columns.items c.go_on_each.new.columns.items c.go_on_each.ensures

pub returns-in_default-checked_sub-clause-requests :
    goal.returns-in_default-checked_sub-clause-requests
returns-in_default-checked_sub-clause-requests c = same_after_going (seen_by c.args.viewer.now) c.args.self.now.columns.items c.go_on_each.new.columns.items c.go_on_each.ensures

pub returns-in_default-checked_sub-clause-stand : goal.returns-in_default-checked_sub-clause-stand
returns-in_default-checked_sub-clause-stand c told = stand_after_going (seen_by c.args.viewer.now) told c.args.self.now.columns.items c.go_on_each.new.columns.items c.go_on_each.ensures

pub returns-clause-next : goal.returns-clause-next
returns-clause-next c = (
  omega (arith, c.in-Some-checked_sub.ensures.0, c.in-Some-checked_sub.ensures.1),
  not_whole (record { columns = c.go_on_each.new.columns; rounds = c.args.self.now.rounds }) c.in-Some.number c.in-Some.ensures,
)

pub returns-clause-requests : goal.returns-clause-requests
returns-clause-requests c = same_after_going (seen_by c.args.viewer.now) c.args.self.now.columns.items c.go_on_each.new.columns.items c.go_on_each.ensures

pub returns-clause-stand : goal.returns-clause-stand
returns-clause-stand c told = stand_after_going (seen_by c.args.viewer.now) told c.args.self.now.columns.items c.go_on_each.new.columns.items c.go_on_each.ensures

pub returns-in_default-clause-named : goal.returns-in_default-clause-named
returns-in_default-clause-named c = named_after_going (seen_by c.args.viewer.now) c.args.self.now.columns.items c.go_on_each.new.columns.items c.go_on_each.ensures

pub returns-in_default-checked_sub-clause-named : goal.returns-in_default-checked_sub-clause-named
returns-in_default-checked_sub-clause-named c = named_after_going (seen_by c.args.viewer.now) c.args.self.now.columns.items c.go_on_each.new.columns.items c.go_on_each.ensures

pub returns-clause-named : goal.returns-clause-named
returns-clause-named c = named_after_going (seen_by c.args.viewer.now) c.args.self.now.columns.items c.go_on_each.new.columns.items c.go_on_each.ensures

use Rattle.snmpsec_access.proofs.Named.{at_row, at_none}
use Rattle.snmpsec_access.proofs.users.has_user_at.Goals as goal

pub returns-in-Some : goal.returns-in-Some
returns-in-Some c = at_row c.args.users.now c.args.name.now c.args.level c.in-Some.row.now c.supports.result c.in-Some.ensures c.supports.ensures

pub returns-in-None : goal.returns-in-None
returns-in-None c = at_none c.args.users.now c.args.name.now c.args.level c.in-None.ensures

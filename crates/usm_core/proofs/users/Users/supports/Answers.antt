use Rattle.std.proofs.Common.{◌≡◌, Some, sym}
use Rattle.usm_users.specs.Users.{user_named}
use Rattle.usm_users.proofs.Named.{no_empty}
use Rattle.usm_core.proofs.users.Users.supports.Goals as goal

pub returns-in-Some-clause-empty : goal.returns-in-Some-clause-empty
returns-in-Some-clause-empty c empty =
    let found : user_named c.self.inside.table c.args.user.now ≡ Some c.in-Some.user.now = sym c.in-Some.ensures in
    absurd (no_empty c.self.inside.table c.self.invariant.0 c.args.user.now c.in-Some.user.now found empty)

pub returns-in-Some-2-clause-empty : goal.returns-in-Some-2-clause-empty
returns-in-Some-2-clause-empty c empty =
    let found : user_named c.self.inside.table c.args.user.now ≡ Some c.in-Some.user.now = sym c.in-Some.ensures in
    absurd (no_empty c.self.inside.table c.self.invariant.0 c.args.user.now c.in-Some.user.now found empty)

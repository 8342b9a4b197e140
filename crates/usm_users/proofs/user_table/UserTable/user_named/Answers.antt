use Rattle.std.proofs.Common.{◌∙◌, List, ap, sym, arith}
use Rattle.usm_users.specs.Users.{user_named}
use Rattle.usm_users.specs.User.{User}
use Rattle.usm_users.proofs.Indexing.{found_there}
use Rattle.usm_users.proofs.user_table.UserTable.user_named.Goals as goal

pub index-requires : goal.index-requires
index-requires c = let within = c.self.invariant.within c.in_ok-of.field-0 c.in_ok-place.field-0.now (sym c.in_ok-place.ensures.value) in omega (arith, within, c.self.inside.users.ok)

pub returns : goal.returns
returns c =
    found_there c.self.inside.users.items c.self.inside.places.entries c.in_ok-of.field-0 c.in_ok-place.field-0.now c.index.result.now c.self.invariant c.in_ok-place.ensures.value c.index.ensures ∙ ap (user_named c.self.inside.users.items) c.in_ok-of.ensures.name ∙ ap (λ (us : List User). user_named us c.args.name.now) c.self.view_is

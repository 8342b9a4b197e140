use Rattle.std.proofs.Common.{List, sym, subst, IfSome}
use Rattle.std.specs.Prelude.{Contains}
use Rattle.std.specs.Option.{option_copied}
use Rattle.usm_keys.specs.AuthKey.{AuthKey}
use Rattle.usm_users.specs.declared.cache.KeyId.{KeyId}
use Rattle.usm_users.specs.Cache.{AreCached, IsCachedAt}
use Rattle.usm_users.proofs.Caching.{found_cached, found_kept}
use Rattle.usm_users.proofs.cache.KeyCache.find.Goals as goal

pub returns-clause-found : goal.returns-clause-found
returns-clause-found c =
    let here : IfSome (option_copied c.peek.result) (λ local. Contains c.args.self.now (c.in_ok-of.field-0, local)) =
    subst (λ (entries : List (KeyId × AuthKey)). IfSome (option_copied c.peek.result) (λ local. Contains entries (c.in_ok-of.field-0, local))) c.self.view_is
    (found_kept c.self.inside.keys.entries c.in_ok-of.field-0 (option_copied c.peek.result) c.peek.ensures) in
    subst (λ (p : KeyId). IfSome (option_copied c.peek.result) (λ local. Contains c.args.self.now (p, local))) c.in_ok-of.ensures here

pub returns-clause-cached : goal.returns-clause-cached
returns-clause-cached c users are =
    subst (λ (p : KeyId). IfSome (option_copied c.peek.result) (IsCachedAt users p)) c.in_ok-of.ensures
    (found_cached users c.self.inside.keys.entries c.in_ok-of.field-0 (option_copied c.peek.result) (subst (AreCached users) (sym c.self.view_is) are) c.peek.ensures)

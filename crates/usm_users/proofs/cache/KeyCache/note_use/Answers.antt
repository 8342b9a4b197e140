use Rattle.std.proofs.Common.{◌≡◌, ◌⊎◌, List, Option, sym, subst, inl, IfSome, IsSomeAnd}
use Rattle.std.specs.Prelude.{Contains}
use Rattle.usm_keys.specs.AuthKey.{AuthKey}
use Rattle.usm_users.specs.declared.cache.KeyId.{KeyId}
use Rattle.usm_users.specs.Cache.{AreCached, IsCachedAt, key_id}
use Rattle.usm_users.proofs.Caching.{put_cached, put_kept, promoted_cached, promoted_kept}
use Rattle.usm_users.proofs.cache.KeyCache.note_use.Goals as goal

pub returns-then-has_turn-clause-kept : goal.returns-then-has_turn-clause-kept
returns-then-has_turn-clause-kept c e within =
    let key : AuthKey = c.in-Some-made.key in
    let id = key_id c.args.name.now c.args.engine.now c.args.purpose in
    let from : Contains c.args.self.now e ⊎ (e ≡ (c.in-Some.id, key)) =
    subst (λ (entries : List (KeyId × AuthKey)). Contains entries e ⊎ (e ≡ (c.in-Some.id, key))) c.self.view_is
    (put_kept c.self.inside.keys c.put.new.self c.in-Some.id key c.put.result c.put.ensures.entries c.put.ensures.err e within) in
    let told : Contains c.args.self.now e ⊎ (e ≡ (id, key)) = subst (λ (p : KeyId). Contains c.args.self.now e ⊎ (e ≡ (p, key))) c.in-Some.ensures from in
    subst (λ (o : Option AuthKey). Contains c.args.self.now e ⊎ IsSomeAnd o (λ local. e ≡ (id, local))) (sym c.in-Some-made.is) told

pub returns-then-has_turn-clause-cached : goal.returns-then-has_turn-clause-cached
returns-then-has_turn-clause-cached c users are is =
    let key : AuthKey = c.in-Some-made.key in
    let here : IsCachedAt users (key_id c.args.name.now c.args.engine.now c.args.purpose) key =
    subst (λ (o : Option AuthKey). IfSome o (IsCachedAt users (key_id c.args.name.now c.args.engine.now c.args.purpose))) c.in-Some-made.is is in
    put_cached users c.self.inside.keys c.put.new.self c.in-Some.id key c.put.result c.put.ensures.entries c.put.ensures.err (subst (AreCached users) (sym c.self.view_is) are)
    (subst (λ (p : KeyId). IsCachedAt users p key) (sym c.in-Some.ensures) here)

pub returns-then-not-is_near_front-clause-kept : goal.returns-then-not-is_near_front-clause-kept
returns-then-not-is_near_front-clause-kept c e within =
    inl (subst (λ (entries : List (KeyId × AuthKey)). Contains entries e) c.self.view_is
    (promoted_kept c.self.inside.keys c.promote.new.self c.in-Some.id c.promote.ensures.entries e within))

pub returns-then-not-is_near_front-clause-cached : goal.returns-then-not-is_near_front-clause-cached
returns-then-not-is_near_front-clause-cached c users are is = promoted_cached users c.self.inside.keys c.promote.new.self c.in-Some.id c.promote.ensures.entries (subst (AreCached users) (sym c.self.view_is) are)

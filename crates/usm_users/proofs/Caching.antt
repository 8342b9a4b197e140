-- Keys that are kept, and those of them that are found.
use Rattle.std.proofs.Common.{◌≡◌, ◌≤◌, ◌⊎◌, [], ◌++◌, length, IsSomeAnd, arith, ℕ, Bool, true, false, List, Option, Some, None, IfSome, inl, inr, nat_eq, refl, sym, ap, subst, ◌∙◌}
use Rattle.std.specs.Prelude.{◌&&◌, Contains}
use Rattle.std.specs.Cmp.Lexicographic.{pointwise}
use Rattle.std.proofs.lemmas.Slice.Eq.{bytes_eq-Decides}
use Rattle.std.specs.Map.{lookup}
use Rattle.std.specs.Prelude.{Result, Ok, Err, OnOk, OnErr}
use Rattle.lru.specs.LruCache.{LruCache, lru_cache, promoted, put_entries}
use Rattle.lru.proofs.CallerLemmas.{Contains-lookup, Contains-promoted, Contains-put_entries}
use Rattle.lru.proofs.Splits.{Contains-nil}
use Rattle.usm_keys.specs.AuthKey.{AuthKey}
use Rattle.usm_keys.proofs.Sizes.{length-hash_of, key_octets_least}
use Rattle.usm_users.specs.Users.{user_named}
use Rattle.usm_users.specs.User.{User}
use Rattle.usm_users.specs.declared.cache.KeyId.{KeyId}
use Rattle.usm_users.specs.declared.cache.Purpose.{Purpose}
use Rattle.usm_users.specs.declared.cache.Purpose.TheVariants.{Authentication, Privacy}
use Rattle.usm_users.specs.contracts.cache.KeyIdPartialEq.TheImpl.{eq-value}
use Rattle.usm_users.specs.Cache.{AreCached, IsCachedAt, key_for, localised_to, key_id}

and_both : (a b : Bool) → (a && b) ≡ true → (a ≡ true) × (b ≡ true)
and_both true b h = (refl, h)
and_both false b h = cc

id_of : List ℕ → List ℕ → Purpose → KeyId
id_of user engine purpose = record { user = user; engine = engine; purpose = purpose }

same_parts : (u v e f : List ℕ) (a : Purpose) → (b : Bool) → (pointwise nat_eq u v && (pointwise nat_eq e f && b)) ≡ true → (id_of u e a ≡ id_of v f a) × (b ≡ true)
unfolding id_of
same_parts u v e f a b h =
    let both = and_both (pointwise nat_eq u v) (pointwise nat_eq e f && b) h in
    let rest = and_both (pointwise nat_eq e f) b both.1 in
    let user : u ≡ v = (bytes_eq-Decides u v).0 both.0 in
    let engine : e ≡ f = (bytes_eq-Decides e f).0 rest.0 in
    (ap (λ (x : List ℕ). id_of x e a) user ∙ ap (λ (x : List ℕ). id_of v x a) engine, rest.1)

by_purpose : (u v e f : List ℕ) (a b : Purpose) → eq-value.it (id_of u e a) (id_of v f b) ≡ true → id_of u e a ≡ id_of v f b
unfolding id_of
by_purpose u v e f Authentication Authentication h = (same_parts u v e f Authentication true h).0
by_purpose u v e f Authentication Privacy h = let never = (same_parts u v e f Authentication false h).1 in absurd cc
by_purpose u v e f Privacy Authentication h = let never = (same_parts u v e f Privacy false h).1 in absurd cc
by_purpose u v e f Privacy Privacy h = (same_parts u v e f Privacy true h).0

-- identities that are equal by the code are one
pub one_id : (p q : KeyId) → eq-value.it p q ≡ true → p ≡ q
unfolding id_of
one_id p q h = by_purpose p.user q.user p.engine q.engine p.purpose q.purpose h

-- a key that is found under an identity is what it says
pub found_cached : (users : List User) (entries : List (KeyId × AuthKey)) (p : KeyId) (o : Option AuthKey) → AreCached users entries → o ≡ lookup (eq-value.it p) entries → IfSome o (IsCachedAt users p)
found_cached users entries p None are e = tt
found_cached users entries p (Some local) are e =
    let found = Contains-lookup (eq-value.it p) entries local (sym e) in
    subst (λ (q : KeyId). IsCachedAt users q local) (sym (one_id p found.0 found.2)) (are (found.0, local) found.1)

put_cached_here : (users : List User) (old : LruCache KeyId AuthKey) (p : KeyId) (local : AuthKey) → AreCached users old.entries → IsCachedAt users p local
    → AreCached users (put_entries eq-value.it old p local)
put_cached_here users old p local are is e within = elim (Contains-put_entries eq-value.it old p local e within) [
  | inl before ↦ are e before
  | inr put ↦
      let here : IsCachedAt users p e.1 = subst (λ (k : AuthKey). IsCachedAt users p k) (sym put.0) is in
      elim put.1 [
        | inl new ↦ subst (λ (q : KeyId). IsCachedAt users q e.1) (sym new) here
        | inr was ↦ subst (λ (q : KeyId). IsCachedAt users q e.1) (one_id p e.0 was.2) here
      ]
]

-- one that is entered is what its identity says, whether there was memory or not
pub put_cached : {E : Type 0} (users : List User) (old new : LruCache KeyId AuthKey) (p : KeyId) (local : AuthKey) (r : Result (Option AuthKey) E)
    → OnOk r (new ≡ lru_cache (put_entries eq-value.it old p local) old.cap) → OnErr r (new ≡ old) → AreCached users old.entries → IsCachedAt users p local → AreCached users new.entries
put_cached users old new p local (Ok v) ok err are is = subst (λ (c : LruCache KeyId AuthKey). AreCached users c.entries) (sym ok) (put_cached_here users old p local are is)
put_cached users old new p local (Err e) ok err are is = subst (λ (c : LruCache KeyId AuthKey). AreCached users c.entries) (sym err) are

-- moving one to the front changes none
pub promoted_cached : (users : List User) (old new : LruCache KeyId AuthKey) (p : KeyId) → new ≡ lru_cache (promoted (eq-value.it p) old.entries) old.cap → AreCached users old.entries → AreCached users new.entries
promoted_cached users old new p e are =
    subst (λ (c : LruCache KeyId AuthKey). AreCached users c.entries) (sym e) (λ x within. are x (Contains-promoted (eq-value.it p) old.entries x within))

pub none_cached : (users : List User) (entries : List (KeyId × AuthKey)) → entries ≡ [] → AreCached users entries
none_cached users entries e x within = absurd (Contains-nil x (subst (λ (es : List (KeyId × AuthKey)). Contains es x) e within))

abbrev IsAt : List ℕ → AuthKey → Option AuthKey → Type 0
IsAt engine local o = IsSomeAnd o (λ key. local ≡ localised_to engine key)

-- what is kept under a user and an engine is the user's key, localised
pub cached_is : (users : List User) (name engine : List ℕ) (purpose : Purpose) (user : User) (key local : AuthKey) → user_named users name ≡ Some user → key_for purpose user ≡ Some key
    → IsCachedAt users (key_id name engine purpose) local → local ≡ localised_to engine key
cached_is users name engine purpose user key local named has is =
    subst (IsAt engine local) has (subst (λ (o : Option User). IsSomeAnd o (λ u. IsAt engine local (key_for purpose u))) named is)

-- and that may be kept there
pub is_cached : (users : List User) (name engine : List ℕ) (purpose : Purpose) (user : User) (key local : AuthKey) → user_named users name ≡ Some user → key_for purpose user ≡ Some key
    → local ≡ localised_to engine key → IsCachedAt users (key_id name engine purpose) local
is_cached users name engine purpose user key local named has is =
    subst (λ (o : Option User). IsSomeAnd o (λ u. IsAt engine local (key_for purpose u))) (sym named) (subst (IsAt engine local) (sym has) is)

-- a localised key has the 16 octets of an AES-128 key at least
pub localised-least : (engine : List ℕ) (key local : AuthKey) → local ≡ localised_to engine key → 16 ≤ length local.octets
localised-least engine key local is =
    omega (arith, ap (λ (k : AuthKey). length k.octets) is, length-hash_of key.auth (key.octets ++ engine ++ key.octets), key_octets_least key.auth)

-- a key that is found stands under its identity
pub found_kept : (entries : List (KeyId × AuthKey)) (p : KeyId) (o : Option AuthKey) → o ≡ lookup (eq-value.it p) entries → IfSome o (λ local. Contains entries (p, local))
found_kept entries p None e = tt
found_kept entries p (Some local) e =
    let found = Contains-lookup (eq-value.it p) entries local (sym e) in
    subst (λ (q : KeyId). Contains entries (q, local)) (sym (one_id p found.0 found.2)) found.1

one_entry : (p : KeyId) (local : AuthKey) (e : KeyId × AuthKey) → e.0 ≡ p → e.1 ≡ local → e ≡ (p, local)
one_entry p local e is has = ap (λ (q : KeyId). (q, e.1)) is ∙ ap (λ (k : AuthKey). (p, k)) has

put_here : (old : LruCache KeyId AuthKey) (p : KeyId) (local : AuthKey) (e : KeyId × AuthKey) → Contains (put_entries eq-value.it old p local) e
    → Contains old.entries e ⊎ (e ≡ (p, local))
put_here old p local e within = elim (Contains-put_entries eq-value.it old p local e within) [
  | inl before ↦ inl before
  | inr put ↦ elim put.1 [
    | inl new ↦ inr (one_entry p local e new put.0)
    | inr was ↦ inr (one_entry p local e (sym (one_id p e.0 was.2)) put.0)
  ]
]

-- behind an entry there is it, and what was there before
pub put_kept : {E : Type 0} (old new : LruCache KeyId AuthKey) (p : KeyId) (local : AuthKey) (r : Result (Option AuthKey) E)
    → OnOk r (new ≡ lru_cache (put_entries eq-value.it old p local) old.cap) → OnErr r (new ≡ old) → (e : KeyId × AuthKey) → Contains new.entries e → Contains old.entries e ⊎ (e ≡ (p, local))
put_kept old new p local (Ok v) ok err e within = put_here old p local e (subst (λ (c : LruCache KeyId AuthKey). Contains c.entries e) ok within)
put_kept old new p local (Err f) ok err e within = inl (subst (λ (c : LruCache KeyId AuthKey). Contains c.entries e) err within)

-- moving one to the front brings none
pub promoted_kept : (old new : LruCache KeyId AuthKey) (p : KeyId) → new ≡ lru_cache (promoted (eq-value.it p) old.entries) old.cap → (e : KeyId × AuthKey) → Contains new.entries e → Contains old.entries e
promoted_kept old new p is e within = Contains-promoted (eq-value.it p) old.entries e (subst (λ (c : LruCache KeyId AuthKey). Contains c.entries e) is within)

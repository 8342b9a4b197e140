-- The user of a name is one of the users, and has the name.
use Rattle.std.proofs.Common.{◌≡◌, ℕ, Bool, true, false, cond, List, [], ◌∷◌, length, Contains, Some, nat_eq, slice_get, sym, ap, ◌∙◌, refl, arith}
use Rattle.std.specs.List.{find, position_or_len}
use Rattle.std.specs.Cmp.Lexicographic.{pointwise}
use Rattle.std.proofs.lemmas.Option.{slice_get_within, get_or_from_slice_get, same_Some}
use Rattle.std.proofs.lemmas.List.Folds.{find_at}
use Rattle.std.proofs.lemmas.Slice.Eq.{bytes_eq-Decides}
use Rattle.usm_users.specs.User.{User}
use Rattle.usm_users.specs.Users.{user_named, AreUsers}

module _ (test : User → Bool) where
  first_passes : (y : User) (ys : List User) (x : User) → (find test ys ≡ Some x → test x ≡ true) → (b : Bool) → test y ≡ b → cond b (Some y) (find test ys) ≡ Some x → test x ≡ true
  first_passes y ys x below true at found = ap test (sym (same_Some _ _ found)) ∙ at
  first_passes y ys x below false at found = below found

  find_passes : (xs : List User) (x : User) → find test xs ≡ Some x → test x ≡ true
  find_passes [] x found = cc
  find_passes (y ∷ ys) x found = first_passes y ys x (find_passes ys x) (test y) refl found

  find_contained : (xs : List User) (x : User) → find test xs ≡ Some x → Contains xs x
  find_contained xs x found =
      let at : slice_get xs (position_or_len test xs) ≡ Some x = sym (find_at test xs) ∙ found in
      (position_or_len test xs, slice_get_within xs (position_or_len test xs) x at, get_or_from_slice_get xs (position_or_len test xs) x x at)

pub named-contained : (users : List User) (name : List ℕ) (user : User) → user_named users name ≡ Some user → Contains users user
unfolding user_named
named-contained users name user found = find_contained (λ user. pointwise nat_eq user.name name) users user found

pub named-name : (users : List User) (name : List ℕ) (user : User) → user_named users name ≡ Some user → user.name ≡ name
unfolding user_named
named-name users name user found = (bytes_eq-Decides user.name name).0 (find_passes (λ user. pointwise nat_eq user.name name) users user found)

-- no user has the empty name
pub no_empty : (users : List User) → AreUsers users → (name : List ℕ) (user : User) → user_named users name ≡ Some user → name ≡ [] → ⊥
no_empty users all name user found empty =
    let named = (all.each user (named-contained users name user found)).named in
    let none : user.name ≡ [] = named-name users name user found ∙ empty in
    omega (arith, ap length none)

-- The user of a name, by the rows of users.
use Rattle.std.proofs.Common.{◌≡◌, ℕ, Bool, true, false, cond, List, [], ◌∷◌, map, MatchBool, Option, Some, None, sym, ap, ◌∙◌, subst, refl}
use Rattle.std.specs.Prelude.{find, IsSomeAnd}
use Rattle.std.specs.Option.{option_map}
use Rattle.snmp_ber.specs.declared.level.Level.{Level}
use Rattle.usm_users.specs.declared.load.UserRow.{UserRow}
use Rattle.usm_users.specs.Rows.{has_name, user_of}
use Rattle.usm_users.specs.User.{User}
use Rattle.usm_users.specs.Users.{HasUserAt, user_named, supports}

one_more : (b : Bool) (row : UserRow) (named : Option User) (found : Option UserRow) → named ≡ option_map user_of found → cond b (Some (user_of row)) named ≡ option_map user_of (cond b (Some row) found)
one_more true row named found e = refl
one_more false row named found e = e

user_named-of : (rows : List UserRow) (name : List ℕ) → user_named (map user_of rows) name ≡ option_map user_of (find (has_name name) rows)
unfolding user_named
user_named-of [] name = refl
user_named-of (row ∷ rows) name = one_more (has_name name row) row (user_named (map user_of rows) name) (find (has_name name) rows) (user_named-of rows name)

pub at_row : (rows : List UserRow) (name : List ℕ) (level : Level) (row : UserRow) (supported : Bool) → Some row ≡ find (has_name name) rows → supported ≡ supports (user_of row) level
    → MatchBool supported (HasUserAt (map user_of rows) name level) (¬ HasUserAt (map user_of rows) name level)
at_row rows name level row supported found is = by supported is
  where
    named : user_named (map user_of rows) name ≡ Some (user_of row)
    named = user_named-of rows name ∙ ap (option_map user_of) (sym found)

    by : (b : Bool) → b ≡ supports (user_of row) level → MatchBool b (HasUserAt (map user_of rows) name level) (¬ HasUserAt (map user_of rows) name level)
    by true e = subst (λ (o : Option User). IsSomeAnd o (λ user. supports user level ≡ true)) (sym named) (sym e)
    by false e = λ has. let s : supports (user_of row) level ≡ true = subst (λ (o : Option User). IsSomeAnd o (λ user. supports user level ≡ true)) named has in cc

pub at_none : (rows : List UserRow) (name : List ℕ) (level : Level) → None ≡ find (has_name name) rows → ¬ HasUserAt (map user_of rows) name level
at_none rows name level none has =
    let named : user_named (map user_of rows) name ≡ None = user_named-of rows name ∙ ap (option_map user_of) (sym none) in
    subst (λ (o : Option User). IsSomeAnd o (λ user. supports user level ≡ true)) named has

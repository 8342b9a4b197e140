-- The users of rows without fault have names and keys as users have, and the names are distinct.
use Rattle.std.proofs.Common.{◌≡◌, ℕ, ◌<◌, ◌||◌, ◌&&◌, ◌==◌, nat_lt, Bool, true, false, cond, List, length, get_or, take, map, Contains, Option, Some, None, is_some, is_none, slice_get, sym, ap, ◌∙◌, subst, refl, inl, inr, arith, length-take}
use Rattle.std.specs.List.{list_any}
use Rattle.std.specs.Option.{option_map, option_and_then}
use Rattle.std.specs.Global.{Vec}
use Rattle.std.proofs.lemmas.Bool.{cases_lt}
use Rattle.std.proofs.lemmas.Bool.Decides.{nat_tests}
use Rattle.std.proofs.lemmas.Option.{slice_get_read, slice_get_within, get_or_from_slice_get, slice_get-map, same_Some, none-some}
use Rattle.std.proofs.lemmas.List.{get_or-take}
use Rattle.std.proofs.lemmas.List.Folds.{list_any_at}
use Rattle.std.proofs.lemmas.Slice.Eq.{bytes_eq-Decides}
use Rattle.usm_keys.specs.AuthKey.{AuthKey}
use Rattle.usm_keys.specs.declared.auth.Auth.{Auth}
use Rattle.usm_users.specs.User.{User}
use Rattle.usm_users.specs.declared.load.UserRow.{UserRow}
use Rattle.usm_users.specs.declared.load.UserFault.{UserFault}
use Rattle.usm_users.specs.declared.load.UserFault.TheVariants.{DuplicateUser, ShortPassword, BadUser, OutOfMemory}
use Rattle.usm_users.specs.Users.{IsUser, AreUsers}
use Rattle.usm_users.specs.Rows.{is_bad_user, has_short_password, has_name, row_fault, fault_at, AreSound, IsFirstFault, IsTold, key_of, user_of}

-- Nothing is wrong with a row after these rows.
pub record IsFine (earlier : List UserRow) (row : UserRow) : Type 0 where
  pub good : is_bad_user row ≡ false
  pub long : has_short_password row ≡ false
  pub fresh : list_any (has_name row.name.items) earlier ≡ false

pub fine : (earlier : List UserRow) (i : ℕ) (row : UserRow) → row_fault earlier i row ≡ None → IsFine earlier row
unfolding row_fault
fine earlier i row none =
    let all = by (is_bad_user row) (has_short_password row) (list_any (has_name row.name.items) earlier) none in
    record { good = all.0; long = all.1; fresh = all.2 }
  where
    by : (bad short twice : Bool) → cond bad (Some (BadUser i)) (cond short (Some (ShortPassword i)) (cond twice (Some (DuplicateUser i)) None)) ≡ None → (bad ≡ false) × (short ≡ false) × (twice ≡ false)
    by true short twice h = absurd (none-some (BadUser i) (sym h))
    by false true twice h = absurd (none-some (ShortPassword i) (sym h))
    by false false true h = absurd (none-some (DuplicateUser i) (sym h))
    by false false false h = (refl, refl, refl)

pub fine_at : (rows : List UserRow) → AreSound rows → (i : ℕ) (row : UserRow) → slice_get rows i ≡ Some row → IsFine (take i rows) row
fine_at rows sound i row there =
    fine (take i rows) i row (sym (ap (option_and_then (row_fault (take i rows) i)) there) ∙ sound i)

-- the row of a slice's place
pub fine_item : (rows : List UserRow) → AreSound rows → (i : ℕ) (row : UserRow) → i < length rows → row ≡ get_or rows i row → IsFine (take i rows) row
fine_item rows sound i row within at = fine_at rows sound i row (slice_get_read rows (length rows) i row refl within at)

-- ---- what is reported

no_memory_told : (earlier : List UserRow) (i : ℕ) (row : UserRow) → row_fault earlier i row ≡ Some OutOfMemory → ⊥
unfolding row_fault
no_memory_told earlier i row = by (is_bad_user row) (has_short_password row) (list_any (has_name row.name.items) earlier)
  where
    by : (bad short twice : Bool) → cond bad (Some (BadUser i)) (cond short (Some (ShortPassword i)) (cond twice (Some (DuplicateUser i)) None)) ≡ Some OutOfMemory → ⊥
    by true short twice h = cc
    by false true twice h = cc
    by false false true h = cc
    by false false false h = cc

no_memory : (rows : List UserRow) (i : ℕ) → fault_at rows i ≡ Some OutOfMemory → ⊥
no_memory rows i = by (slice_get rows i)
  where
    by : (o : Option UserRow) → option_and_then (row_fault (take i rows) i) o ≡ Some OutOfMemory → ⊥
    by None h = cc
    by (Some row) h = no_memory_told (take i rows) i row h

pub told : (rows : List UserRow) (fault : UserFault) → IsFirstFault rows fault → IsTold rows fault
told rows (BadUser position) first = first
told rows (ShortPassword position) first = first
told rows (DuplicateUser position) first = first
told rows OutOfMemory first = absurd (no_memory rows first.position first.there)

-- ---- one user

all_false : (a b c : Bool) → ((a || b) || c) ≡ false → (a ≡ false) × (b ≡ false) × (c ≡ false)
all_false true b c h = cc
all_false false true c h = cc
all_false false false true h = cc
all_false false false false h = (refl, refl, refl)

one_hash : (auth : Option (Auth × Vec ℕ)) (privacy : Option (Vec ℕ)) (key : AuthKey)
    → option_and_then (λ own. option_map (λ password. key_of own.0 password.items) privacy) auth ≡ Some key
    → option_map (λ (own : AuthKey). own.auth) (option_map (λ own. key_of own.0 own.1.items) auth) ≡ Some key.auth
one_hash None privacy key is = cc
one_hash (Some own) None key is = cc
one_hash (Some own) (Some password) key is = ap (λ (k : AuthKey). Some k.auth) (same_Some _ _ is)

pub user_of_fine : (earlier : List UserRow) (row : UserRow) → IsFine earlier row → IsUser (user_of row)
user_of_fine earlier row fine =
    let parts = all_false (length row.name.items == 0) (nat_lt 32 (length row.name.items)) (is_some row.privacy && is_none row.auth) fine.good in
    let some = parts.0 in
    let short = parts.1 in
    record {
      named = grind (arith, nat_tests);
      short = grind (arith, nat_tests);
      one_hash = λ key is. one_hash row.auth row.privacy key is;
    }

-- ---- all users

-- the row that a user is made of
made_of : (rows : List UserRow) (i : ℕ) (user : User) → slice_get (map user_of rows) i ≡ Some user → (row : UserRow) × (slice_get rows i ≡ Some row) × (user ≡ user_of row)
made_of rows i user is = by (slice_get rows i) refl (sym (slice_get-map user_of rows i) ∙ is)
  where
    by : (o : Option UserRow) → slice_get rows i ≡ o → option_map user_of o ≡ Some user → (row : UserRow) × (slice_get rows i ≡ Some row) × (user ≡ user_of row)
    by None at e = cc
    by (Some row) at e = (row, at, sym (same_Some _ _ e))

-- an earlier row has another name
differs : (rows : List UserRow) → AreSound rows → (i j : ℕ) (row other : UserRow) → i < j → slice_get rows i ≡ Some row → slice_get rows j ≡ Some other → row.name.items ≡ other.name.items → ⊥
differs rows sound i j row other before at_i at_j same =
    let within = slice_get_within rows j other at_j in
    let long : i < length (take j rows) = rw length-take (omega arith) in
    let here : get_or (take j rows) i row ≡ row = get_or-take j rows i row before ∙ get_or_from_slice_get rows i row row at_i in
    let named : has_name other.name.items row ≡ true = (bytes_eq-Decides row.name.items other.name.items).1 same in
    let some = list_any_at (has_name other.name.items) (take j rows) i row long (ap (has_name other.name.items) here ∙ named) in
    let fresh = (fine_at rows sound j other at_j).fresh in
    cc

pub users_of_sound : (rows : List UserRow) → AreSound rows → AreUsers (map user_of rows)
users_of_sound rows sound = record { each = each; distinct = distinct }
  where
    each : (user : User) → Contains (map user_of rows) user → IsUser user
    each user (i, within, at) =
        let (row, there, is) = made_of rows i user (slice_get_read (map user_of rows) (length (map user_of rows)) i user refl within (sym at)) in
        subst IsUser (sym is) (user_of_fine (take i rows) row (fine_at rows sound i row there))

    distinct : (i j : ℕ) (x y : User) → slice_get (map user_of rows) i ≡ Some x → slice_get (map user_of rows) j ≡ Some y → x.name ≡ y.name → i ≡ j
    distinct i j x y at_x at_y same =
        let (row, at_row, x_is) = made_of rows i x at_x in
        let (other, at_other, y_is) = made_of rows j y at_y in
        let names : row.name.items ≡ other.name.items = sym (ap (λ (u : User). u.name) x_is) ∙ same ∙ ap (λ (u : User). u.name) y_is in
        elim (cases_lt i j) [
          | inl before ↦ absurd (differs rows sound i j row other before at_row at_other names)
          | inr upto ↦ elim (cases_lt j i) [
            | inl after ↦ absurd (differs rows sound j i other row after at_other at_row (sym names))
            | inr from ↦ omega arith
          ]
        ]

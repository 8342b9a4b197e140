-- Where each user's name stands, as rows are taken up one by one.
use Rattle.std.proofs.Common.{◌≡◌, ℕ, zero, suc, ◌+◌, ◌<◌, ◌≤◌, ◌||◌, Bool, true, false, cond, List, [], ◌∷◌, ◌++◌, length, map, take, get_or, Option, Some, None, is_some, nat_eq, slice_get, refl, sym, ap, subst, ◌∙◌, arith, inl, inr}
use Rattle.std.specs.List.{list_any, AllZip}
use Rattle.std.specs.Option.{option_and_then, option_or}
use Rattle.std.specs.Map.{lookup}
use Rattle.std.specs.Cmp.Lexicographic.{pointwise}
use Rattle.std.proofs.lemmas.Bool.{cases_lt}
use Rattle.std.proofs.lemmas.List.{length-append, map-append, take_more}
use Rattle.std.proofs.lemmas.List.Folds.{find-append}
use Rattle.std.proofs.lemmas.Option.{slice_get_read, slice_get_past, same_Some}
use Rattle.std.proofs.lemmas.Slice.Eq.{bytes_eq-Decides}
use Rattle.usm_users.specs.User.{User}
use Rattle.usm_users.specs.declared.load.UserRow.{UserRow}
use Rattle.usm_users.specs.declared.load.UserFault.{UserFault}
use Rattle.usm_users.specs.Index.{IsIndex}
use Rattle.usm_users.specs.Users.{user_named}
use Rattle.usm_users.specs.Rows.{has_name, row_fault, fault_at, AreSound, user_of}

-- an element stands at the length of what is in front of it
slice_get-cut : {X : Type 0} (xs : List X) (x : X) (ys : List X) → slice_get (xs ++ x ∷ ys) (length xs) ≡ Some x
slice_get-cut [] x ys = refl
slice_get-cut (z ∷ xs) x ys = let more : length (z ∷ xs) ≡ suc (length xs) = omega arith in ap (slice_get (z ∷ xs ++ x ∷ ys)) more ∙ slice_get-cut xs x ys

-- a clone's entries are the same
pub same_entries : (es fs : List (List ℕ × ℕ)) → AllZip (λ p q. (q.0 ≡ p.0) × (q.1 ≡ p.1)) es fs → fs ≡ es
same_entries [] [] h = refl
same_entries [] (f ∷ fs) h = absurd h
same_entries (e ∷ es) [] h = absurd h
same_entries (e ∷ es) (f ∷ fs) h =
    let first : f ≡ e = ap (λ (n : List ℕ). (n, f.1)) h.0.0 ∙ ap (λ (k : ℕ). (e.0, k)) h.0.1 in
    ap (λ (x : List ℕ × ℕ). x ∷ fs) first ∙ ap (λ (xs : List (List ℕ × ℕ)). e ∷ xs) (same_entries es fs h.1)

empty : IsIndex [] []
unfolding user_named
empty = record { finds = λ name. refl; within = λ name place e. absurd cc; short = λ name user e. absurd cc }

pub none_indexed : (entries : List (List ℕ × ℕ)) → entries ≡ [] → IsIndex [] entries
none_indexed entries none = subst (λ (es : List (List ℕ × ℕ)). IsIndex [] es) (sym none) empty

before_end : (users : List User) (u : User) (place : ℕ) → place < length users → slice_get (users ++ u ∷ []) place ≡ slice_get users place
before_end [] u place h = absurd (omega arith)
before_end (v ∷ users) u zero h = refl
before_end (v ∷ users) u (suc place) h = before_end users u place (omega arith)

there : (users : List User) (place : ℕ) → place < length users → (v : User) × (slice_get users place ≡ Some v)
there [] place h = absurd (omega arith)
there (v ∷ users) zero h = (v, refl)
there (v ∷ users) (suc place) h = there users place (omega arith)

named_more : (users : List User) (u : User) (name : List ℕ) → user_named (users ++ u ∷ []) name ≡ option_or (user_named users name) (cond (pointwise nat_eq u.name name) (Some u) None)
unfolding user_named
named_more users u name = find-append (λ (v : User). pointwise nat_eq v.name name) users (u ∷ [])

module _ (users : List User) (old new : List (List ℕ × ℕ)) (u : User) (index : IsIndex users old) (fits : length u.name ≤ 32) (fresh : lookup (pointwise nat_eq u.name) old ≡ None)
    (put : (name : List ℕ) → lookup (pointwise nat_eq name) new ≡ cond (pointwise nat_eq u.name name) (Some (length users)) (lookup (pointwise nat_eq name) old)) where
  no_other : user_named users u.name ≡ None
  no_other = sym (index.finds u.name) ∙ ap (option_and_then (slice_get users)) fresh

  finds_by : (name : List ℕ) (b : Bool) → pointwise nat_eq u.name name ≡ b → (o : Option ℕ) → lookup (pointwise nat_eq name) old ≡ o
      → option_and_then (slice_get (users ++ u ∷ [])) (cond b (Some (length users)) o) ≡ option_or (user_named users name) (cond b (Some u) None)
  finds_by name true is o at =
      let same : u.name ≡ name = (bytes_eq-Decides u.name name).0 is in
      let none : user_named users name ≡ None = subst (λ (n : List ℕ). user_named users n ≡ None) same no_other in
      rw none (slice_get-cut users u [])
  finds_by name false is None at =
      let none : user_named users name ≡ None = sym (index.finds name) ∙ ap (option_and_then (slice_get users)) at in
      rw none refl
  finds_by name false is (Some place) at =
      let h = there users place (index.within name place at) in
      let some : user_named users name ≡ Some h.0 = sym (index.finds name) ∙ ap (option_and_then (slice_get users)) at ∙ h.1 in
      rw some (before_end users u place (index.within name place at) ∙ h.1)

  within_by : (name : List ℕ) (place : ℕ) (b : Bool) → cond b (Some (length users)) (lookup (pointwise nat_eq name) old) ≡ Some place → place < length (users ++ u ∷ [])
  within_by name place true e = let is : length users ≡ place = same_Some _ _ e in omega (arith, length-append users (u ∷ []))
  within_by name place false e = omega (arith, index.within name place e, length-append users (u ∷ []))

  short_by : (name : List ℕ) (user : User) (o : Option User) → user_named users name ≡ o → (b : Bool) → pointwise nat_eq u.name name ≡ b → option_or o (cond b (Some u) None) ≡ Some user → length name ≤ 32
  short_by name user (Some v) at b is e = index.short name v at
  short_by name user None at true is e = subst (λ (n : List ℕ). length n ≤ 32) ((bytes_eq-Decides u.name name).0 is) fits
  short_by name user None at false is e = absurd cc

  pub more_indexed : IsIndex (users ++ u ∷ []) new
  more_indexed = record {
    finds = λ name. ap (option_and_then (slice_get (users ++ u ∷ []))) (put name) ∙ finds_by name (pointwise nat_eq u.name name) refl (lookup (pointwise nat_eq name) old) refl ∙ sym (named_more users u name);
    within = λ name place e. within_by name place (pointwise nat_eq u.name name) (sym (put name) ∙ e);
    short = λ name user e. short_by name user (user_named users name) refl (pointwise nat_eq u.name name) refl (sym (named_more users u name) ∙ e);
  }

-- a user that is found has a name of at most 32 octets
pub long_name : (users : List User) (entries : List (List ℕ × ℕ)) (name : List ℕ) → IsIndex users entries → (length name ≤ 32 → ⊥) → user_named users name ≡ None
long_name users entries name index long = by (user_named users name) refl
  where
    by : (o : Option User) → user_named users name ≡ o → o ≡ None
    by None e = refl
    by (Some user) e = absurd (long (index.short name user e))

pub not_some : {X : Type 0} (o : Option X) → is_some o ≡ false → o ≡ None
not_some None e = refl
not_some (Some x) e = absurd cc

-- what stands at the place that was found
pub found_there : (users : List User) (entries : List (List ℕ × ℕ)) (name : List ℕ) (place : ℕ) (user : User) → IsIndex users entries → Some place ≡ lookup (pointwise nat_eq name) entries → user ≡ get_or users place user → Some user ≡ user_named users name
found_there users entries name place user index found at =
    sym (slice_get_read users (length users) place user refl (index.within name place (sym found)) at) ∙ ap (option_and_then (slice_get users)) found ∙ index.finds name

-- ---- rows

any_by : (b : Bool) (u : User) (o : Option User) (more : Bool) → is_some o ≡ more → is_some (cond b (Some u) o) ≡ (b || more)
any_by true u o more e = refl
any_by false u o more e = e

pub named_any : (rows : List UserRow) (name : List ℕ) → is_some (user_named (map user_of rows) name) ≡ list_any (has_name name) rows
unfolding user_named
named_any [] name = refl
named_any (row ∷ rows) name = any_by (pointwise nat_eq row.name.items name) (user_of row) _ _ (named_any rows name)

-- the name of a row stands among those before it, or does not
pub is_twice : (rows : List UserRow) (entries : List (List ℕ × ℕ)) (name : List ℕ) → IsIndex (map user_of rows) entries → is_some (lookup (pointwise nat_eq name) entries) ≡ list_any (has_name name) rows
is_twice rows entries name index = by (lookup (pointwise nat_eq name) entries) refl
  where
    by : (o : Option ℕ) → lookup (pointwise nat_eq name) entries ≡ o → is_some o ≡ list_any (has_name name) rows
    by None e = ap is_some (sym (ap (option_and_then (slice_get (map user_of rows))) e) ∙ index.finds name) ∙ named_any rows name
    by (Some place) e =
        let h = there (map user_of rows) place (index.within name place e) in
        let some : Some h.0 ≡ user_named (map user_of rows) name = sym h.1 ∙ sym (ap (option_and_then (slice_get (map user_of rows))) e) ∙ index.finds name in
        ap is_some some ∙ named_any rows name

-- what is wrong with the row that stands at a place
pub fault_is : (rows : List UserRow) (i : ℕ) (row : UserRow) (fault : Option UserFault) → slice_get rows i ≡ Some row → fault ≡ row_fault (take i rows) i row → fault_at rows i ≡ fault
fault_is rows i row fault at is = ap (option_and_then (row_fault (take i rows) i)) at ∙ sym is

pub none_below : (rows : List UserRow) (i : ℕ) → ((k : ℕ) → k < i → fault_at rows k ≡ None) → fault_at rows i ≡ None → (k : ℕ) → k < i + 1 → fault_at rows k ≡ None
none_below rows i before here k h = elim (cases_lt k i) [
  | inl lt ↦ before k lt
  | inr le ↦ let e : i ≡ k = omega arith in subst (λ (j : ℕ). fault_at rows j ≡ None) e here
]

pub all_sound : (rows : List UserRow) (i : ℕ) → length rows ≤ i → ((k : ℕ) → k < i → fault_at rows k ≡ None) → AreSound rows
all_sound rows i all before k = elim (cases_lt k i) [
  | inl lt ↦ before k lt
  | inr le ↦ ap (option_and_then (row_fault (take k rows) k)) (slice_get_past rows k (omega arith))
]

pub users_more : (rows : List UserRow) (i : ℕ) (row : UserRow) → i < length rows → row ≡ get_or rows i row → map user_of (take (i + 1) rows) ≡ map user_of (take i rows) ++ user_of row ∷ []
users_more rows i row within at =
    ap (map user_of) (take_more rows i row within ∙ ap (λ (r : UserRow). take i rows ++ r ∷ []) (sym at)) ∙ map-append user_of (take i rows) (row ∷ [])

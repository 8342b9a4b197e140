-- The finite map that the entries of a `BTreeMap` make, by numbers.
use Rattle.std.proofs.Common.{◌≡◌, ◌≢◌, ℕ, ◌+◌, ◌-◌, ◌≤◌, ◌⊎◌, inl, inr, List, [], ◌∷◌, length, Option, Some, None, true, false, cond, ◌&&◌, is_some, refl, sym, ap, ◌∙◌, arith}
use Rattle.std.specs.declared.cmp.Ordering.{Ordering}
use Rattle.std.specs.declared.cmp.Ordering.TheVariants.{Less, Equal, Greater}
use Rattle.std.specs.Ordering.{nat_cmp, is_lt, is_eq, eq_by_cmp}
use Rattle.std.specs.Cmp.{nat_cmp_total, eq_by_cmp_equiv}
use Rattle.std.specs.List.{AllByRecursion}
use Rattle.std.specs.List.Sorted.{IsStrictlySortedBy}
use Rattle.std.specs.BTreeMap.{is_at}
use Rattle.std.specs.Map.{keys_of, lookup}
use Rattle.std.proofs.lemmas.Map.Keys.{sorted_head, sorted_tail}
use Rattle.std.proofs.lemmas.Bool.{and_parts}
use Rattle.std.specs.FinMap.{FinMap, entries, from_entries, insert, remove, entries-insert, empty, put, is_sorted, len, len-entries, len-empty, len-insert, len-remove, find, get, get-from_entries, get-insert, get-remove, same_map, nat_cmp-IsAntisymmetric}
use Rattle.std.specs.FinMap.Entries.{below_all, by_order}

is_lt-true : (o : Ordering) → is_lt o ≡ true → o ≡ Less
is_lt-true Less e = refl
is_lt-true Equal e = cc e
is_lt-true Greater e = cc e

is_eq-true : (o : Ordering) → is_eq o ≡ true → o ≡ Equal
is_eq-true Less e = cc e
is_eq-true Equal e = refl
is_eq-true Greater e = cc e

pub same_of : (q k : ℕ) → eq_by_cmp nat_cmp q k ≡ true → q ≡ k
same_of q k e = nat_cmp-IsAntisymmetric q k (is_eq-true (nat_cmp q k) e)

tied : (k : ℕ) → eq_by_cmp nat_cmp k k ≡ true
tied k = (eq_by_cmp_equiv nat_cmp_total).refl k

pub apart_of : (q k : ℕ) → q ≢ k → eq_by_cmp nat_cmp q k ≡ false
apart_of q k differs =
    elim (eq_by_cmp nat_cmp q k) as (λ b. eq_by_cmp nat_cmp q k ≡ b → b ≡ false) [
      | true ↦ λ e. absurd (differs (same_of q k e))
      | false ↦ λ e. refl
    ] refl

some_same : {X : Type 0} (x y : X) → Some x ≡ Some y → x ≡ y
some_same x y e = cc e

module _ {X : Type 0} where
  -- what a `BTreeMap` finds
  abbrev pub found_in : List (ℕ × X) → ℕ → Option X
  found_in es q = lookup (is_at (nat_cmp q)) es

  pub find_id : (es : List (ℕ × X)) (q : ℕ) → find nat_cmp q es ≡ found_in es q
  find_id [] q = refl
  find_id (e ∷ es) q = ap (cond (is_at (nat_cmp q) e.0) (Some e.1)) (find_id es q)

  -- what the map that the entries make has at a number
  pub get_id : (es : List (ℕ × X)) (q : ℕ) → get (from_entries {R = nat_cmp} es) q ≡ found_in es q
  get_id es q = get-from_entries nat_cmp_total es q ∙ find_id es q

  -- entries that differ at one number make maps that differ there
  pub one_set : (es fs : List (ℕ × X)) (k : ℕ) (v : X)
      → ((q : ℕ) → found_in fs q ≡ cond (is_at (nat_cmp k) q) (Some v) (found_in es q))
      → from_entries {R = nat_cmp} fs ≡ insert (from_entries es) k v
  one_set es fs k v h = same_map nat_cmp_total nat_cmp-IsAntisymmetric _ _ (λ q.
      get_id fs q ∙ h q ∙ ap (λ b. cond b (Some v) (found_in es q)) ((eq_by_cmp_equiv nat_cmp_total).symm k q)
      ∙ sym (get-insert nat_cmp_total (from_entries es) k v q ∙ ap (cond (is_at (nat_cmp q) k) (Some v)) (get_id es q)))

  pub one_removed : (es fs : List (ℕ × X)) (k : ℕ)
      → ((q : ℕ) → found_in fs q ≡ cond (is_at (nat_cmp k) q) None (found_in es q))
      → from_entries {R = nat_cmp} fs ≡ remove (from_entries es) k
  one_removed es fs k h = same_map nat_cmp_total nat_cmp-IsAntisymmetric _ _ (λ q.
      get_id fs q ∙ h q ∙ ap (λ b. cond b None (found_in es q)) ((eq_by_cmp_equiv nat_cmp_total).symm k q)
      ∙ sym (get-remove nat_cmp_total (from_entries es) k q ∙ ap (cond (is_at (nat_cmp q) k) None) (get_id es q)))

  -- ---- one entry more or less

  pub at_insert : (m : FinMap nat_cmp X) (k : ℕ) (v : X) (q : ℕ) (x : X) → get (insert m k v) q ≡ Some x → ((q ≡ k) × (x ≡ v)) ⊎ (get m q ≡ Some x)
  at_insert m k v q x is =
      elim (eq_by_cmp nat_cmp q k) as (λ b. eq_by_cmp nat_cmp q k ≡ b → ((q ≡ k) × (x ≡ v)) ⊎ (get m q ≡ Some x)) [
        | true ↦ λ e. inl (same_of q k e, some_same x v (sym is ∙ get-insert nat_cmp_total m k v q ∙ ap (λ b. cond b (Some v) (get m q)) e))
        | false ↦ λ e. inr (sym (ap (λ b. cond b (Some v) (get m q)) e) ∙ sym (get-insert nat_cmp_total m k v q) ∙ is)
      ] refl

  pub insert_here : (m : FinMap nat_cmp X) (k : ℕ) (v : X) → get (insert m k v) k ≡ Some v
  insert_here m k v = get-insert nat_cmp_total m k v k ∙ ap (λ b. cond b (Some v) (get m k)) (tied k)

  pub insert_apart : (m : FinMap nat_cmp X) (k : ℕ) (v : X) (q : ℕ) → q ≢ k → get (insert m k v) q ≡ get m q
  insert_apart m k v q differs = get-insert nat_cmp_total m k v q ∙ ap (λ b. cond b (Some v) (get m q)) (apart_of q k differs)

  pub at_remove : (m : FinMap nat_cmp X) (k q : ℕ) (x : X) → get (remove m k) q ≡ Some x → (q ≢ k) × (get m q ≡ Some x)
  at_remove m k q x is =
      elim (eq_by_cmp nat_cmp q k) as (λ b. eq_by_cmp nat_cmp q k ≡ b → (q ≢ k) × (get m q ≡ Some x)) [
        | true ↦ λ e. let none : None ≡ Some x = sym (ap (λ b. cond b None (get m q)) e) ∙ sym (get-remove nat_cmp_total m k q) ∙ is in cc none
        | false ↦ λ e. (
          λ same. let wrong : true ≡ false = sym (tied k) ∙ ap (λ n. eq_by_cmp nat_cmp n k) (sym same) ∙ e in cc wrong,
          sym (ap (λ b. cond b None (get m q)) e) ∙ sym (get-remove nat_cmp_total m k q) ∙ is,
        )
      ] refl

  pub remove_here : (m : FinMap nat_cmp X) (k : ℕ) → get (remove m k) k ≡ None
  remove_here m k = get-remove nat_cmp_total m k k ∙ ap (λ b. cond b None (get m k)) (tied k)

  pub remove_apart : (m : FinMap nat_cmp X) (k q : ℕ) → q ≢ k → get (remove m k) q ≡ get m q
  remove_apart m k q differs = get-remove nat_cmp_total m k q ∙ ap (λ b. cond b None (get m q)) (apart_of q k differs)

  pub len_insert_new : (m : FinMap nat_cmp X) (k : ℕ) (v : X) → get m k ≡ None → len (insert m k v) ≡ len m + 1
  len_insert_new m k v none = len-insert nat_cmp_total m k v ∙ ap (λ o. cond (is_some o) (len m) (len m + 1)) none

  pub len_remove_there : (m : FinMap nat_cmp X) (k : ℕ) → len (remove m k) ≤ len m
  len_remove_there m k =
      let is = len-remove nat_cmp_total m k in
      elim (is_some (get m k)) as (λ b. len (remove m k) ≡ cond b (len m - 1) (len m) → len (remove m k) ≤ len m) [
        | true ↦ λ e. omega (arith, e)
        | false ↦ λ e. omega (arith, e)
      ] is

  -- ---- as many

  no_length : (es : List (ℕ × X)) → length es ≡ 0 → es ≡ []
  no_length [] e = refl
  no_length (x ∷ es) e = absurd (omega arith)

  entries-empty : entries (empty {X = X} {R = nat_cmp}) ≡ []
  entries-empty = no_length _ (sym (len-entries _) ∙ len-empty nat_cmp X)

  below_all-from : (k : ℕ) (es : List (ℕ × X)) → AllByRecursion (λ y. nat_cmp k y ≡ Less) (keys_of es) → below_all nat_cmp k es ≡ true
  below_all-from k [] h = refl
  below_all-from k (e ∷ es) h = (λ i. is_lt (h.0 i) && below_all nat_cmp k es) ∙ below_all-from k es h.1

  is_sorted-from : (es : List (ℕ × X)) → IsStrictlySortedBy nat_cmp (keys_of es) → is_sorted nat_cmp es ≡ true
  is_sorted-from [] h = refl
  is_sorted-from (e ∷ es) h =
      (λ i. below_all-from e.0 es (sorted_head nat_cmp e.0 (keys_of es) h) i && is_sorted nat_cmp es)
      ∙ is_sorted-from es (sorted_tail nat_cmp e.0 (keys_of es) h)

  put-first : (k : ℕ) (v : X) (es : List (ℕ × X)) → below_all nat_cmp k es ≡ true → put nat_cmp k v es ≡ (k, v) ∷ es
  put-first k v [] h = refl
  put-first k v (f ∷ fs) h =
      let less : nat_cmp k f.0 ≡ Less = is_lt-true _ (and_parts (is_lt (nat_cmp k f.0)) _ h).0 in
      ap (λ o. by_order o ((k, v) ∷ f ∷ fs) ((f.0, v) ∷ fs) (f ∷ put nat_cmp k v fs)) less

  -- the map of entries in order has these entries
  entries-from_entries : (es : List (ℕ × X)) → is_sorted nat_cmp es ≡ true → entries (from_entries {R = nat_cmp} es) ≡ es
  entries-from_entries [] h = entries-empty
  entries-from_entries (e ∷ es) h =
      let parts = and_parts (below_all nat_cmp e.0 es) _ h in
      entries-insert nat_cmp_total (from_entries es) e.0 e.1 ∙ ap (put nat_cmp e.0 e.1) (entries-from_entries es parts.1) ∙ put-first e.0 e.1 es parts.0

  -- and is as long
  pub len_of : (es : List (ℕ × X)) → IsStrictlySortedBy nat_cmp (keys_of es) → len (from_entries {R = nat_cmp} es) ≡ length es
  len_of es h = len-entries _ ∙ ap length (entries-from_entries es (is_sorted-from es h))

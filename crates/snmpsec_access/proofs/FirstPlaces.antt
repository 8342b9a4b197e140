-- Where the first row of each user's name stands, from the last row to the first.
use Rattle.std.proofs.Common.{◌≡◌, ℕ, ◌<◌, ◌≤◌, suc, Bool, true, false, cond, List, ◌∷◌, length, get_or, drop, slice_get, Option, Some, None, sym, ◌∙◌, ap, arith}
use Rattle.std.specs.Prelude.{find}
use Rattle.std.specs.Option.{option_and_then}
use Rattle.std.specs.Map.{lookup}
use Rattle.std.specs.Borrow.{Bor}
use Rattle.std.specs.Ordering.{is_eq, nat_cmp}
use Rattle.std.specs.Cmp.Lexicographic.{slice_cmp, texts_ties}
use Rattle.std.specs.BTreeMap as tree
use Rattle.std.specs.BTreeMap.{BTreeMap}
use Rattle.std.proofs.Math.Seq.{drop-cons}
use Rattle.std.proofs.lemmas.List.{drop_all}
use Rattle.usm_users.specs.declared.load.UserRow.{UserRow}
use Rattle.usm_users.specs.Rows.{has_name}
use Rattle.snmpsec_access.specs.UserPlaces.{name_cmp, place_of}

-- a map without entries has no place
pub places_none : (users : List UserRow) (places : BTreeMap (Bor (List ℕ)) ℕ) (name : Bor (List ℕ)) → tree.IsEmpty places
    → option_and_then (slice_get users) (place_of places name) ≡ find (has_name name.now) (drop (length users) users)
places_none users places name empty =
    let nowhere : place_of places name ≡ None = ap (λ es. lookup (tree.is_at (name_cmp name)) es) empty in
    ap (option_and_then (slice_get users)) nowhere ∙ ap (find (has_name name.now)) (sym (drop_all (length users) users (omega arith)))

by_test : (users : List UserRow) (b c : Bool) (at : ℕ) (row : UserRow) (old : Option ℕ) (found : Option UserRow) → b ≡ c → slice_get users at ≡ Some row → option_and_then (slice_get users) old ≡ found
    → option_and_then (slice_get users) (cond b (Some at) old) ≡ cond c (Some row) found
by_test users true true at row old found same is so = is
by_test users false false at row old found same is so = so
by_test users true false at row old found same is so = cc same
by_test users false true at row old found same is so = cc same

-- one row more in front
pub places_more : (users : List UserRow) (before after : BTreeMap (Bor (List ℕ)) ℕ) (key : Bor (List ℕ)) (at next : ℕ) (row : UserRow) → at < length users → next ≡ suc at
    → ((q : Bor (List ℕ)) → place_of after q ≡ cond (is_eq (name_cmp key q)) (Some at) (place_of before q)) → key.now ≡ row.name.items → slice_get users at ≡ Some row → get_or users at row ≡ row
    → ((q : Bor (List ℕ)) → option_and_then (slice_get users) (place_of before q) ≡ find (has_name q.now) (drop next users))
    → (q : Bor (List ℕ)) → option_and_then (slice_get users) (place_of after q) ≡ find (has_name q.now) (drop at users)
places_more users before after key at next row here further updates named is there so q =
    let same : is_eq (name_cmp key q) ≡ has_name q.now row = ap (λ (n : List ℕ). is_eq (slice_cmp nat_cmp n q.now)) named ∙ sym (texts_ties row.name.items q.now) in
    ap (option_and_then (slice_get users)) (updates q)
    ∙ by_test users (is_eq (name_cmp key q)) (has_name q.now row) at row (place_of before q) (find (has_name q.now) (drop (suc at) users)) same is (so q ∙ ap (λ n. find (has_name q.now) (drop n users)) further)
    ∙ ap (λ (first : UserRow). find (has_name q.now) (first ∷ drop (suc at) users)) (sym there)
    ∙ ap (find (has_name q.now)) (sym (drop-cons users at row here))

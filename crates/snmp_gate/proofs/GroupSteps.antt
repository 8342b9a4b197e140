-- Groups of messages, by the requests that hold them.
use Rattle.std.specs.Prelude.{◌≡◌, ℕ, suc, ◌<◌, List, [], ◌∷◌, ◌++◌, length, map, take, drop, remove, slice_index_or, slice_set, Result, Ok, Err, OnErr}
use Rattle.std.proofs.Common.{refl, sym, ap, ◌∙◌, arith}
use Rattle.std.proofs.Math.Seq.{map-set_same}
use Rattle.std.proofs.lemmas.List.{get_or-map, length-map, map-append, map-set, take-map, drop-map}
use Rattle.snmp_gate.specs.Groups.{Group, IsAnswered, IsAt, group_of, groups_of}
use Rattle.snmp_gate.specs.declared.requests.WaitingRequest.{WaitingRequest}

-- what holds in any case holds on an error
pub on_err : {T E : Type 0} (r : Result T E) (P : Type 0) → P → OnErr r P
on_err (Ok t) P p = tt
on_err (Err e) P p = p

module _ {M W : Type 0} where
  pub group_at : (rs : List (WaitingRequest M W)) (place : ℕ) (r : WaitingRequest M W) → place < length rs → r ≡ slice_index_or rs place r → IsAt (groups_of rs) place (group_of r)
  group_at rs place r within is = record {
    within = omega (arith, length-map rs (λ (q : WaitingRequest M W). group_of q), within);
    group_is = ap (λ (q : WaitingRequest M W). group_of q) is ∙ sym (get_or-map (λ (q : WaitingRequest M W). group_of q) rs place r (group_of r) within);
  }

  pub groups_set : (rs : List (WaitingRequest M W)) (place : ℕ) (r : WaitingRequest M W) → groups_of (slice_set rs place r) ≡ slice_set (groups_of rs) place (group_of r)
  groups_set rs place r = map-set (λ (q : WaitingRequest M W). group_of q) rs place r

  pub groups_same : (rs : List (WaitingRequest M W)) (place : ℕ) (r s : WaitingRequest M W) → r ≡ slice_index_or rs place r → group_of s ≡ group_of r → groups_of (slice_set rs place s) ≡ groups_of rs
  groups_same rs place r s is same = map-set_same (λ (q : WaitingRequest M W). group_of q) rs place s r (same ∙ ap (λ (q : WaitingRequest M W). group_of q) is)

  pub groups_removed : (rs : List (WaitingRequest M W)) (place : ℕ) → groups_of (remove rs place) ≡ remove (groups_of rs) place
  groups_removed rs place =
      let f = λ (q : WaitingRequest M W). group_of q in
      map-append f (take place rs) (drop (suc place) rs)
      ∙ ap (λ (gs : List (Group M W)). gs ++ map f (drop (suc place) rs)) (sym (take-map f place rs))
      ∙ ap (λ (gs : List (Group M W)). take place (map f rs) ++ gs) (sym (drop-map f (suc place) rs))

  -- what is left of a group with one message, and of one with more
  pub answers_last : (rs : List (WaitingRequest M W)) (place : ℕ) (r : WaitingRequest M W) (new : List (WaitingRequest M W)) → place < length rs → r ≡ slice_index_or rs place r → r.others.items ≡ [] → new ≡ remove rs place
      → IsAnswered (groups_of rs) place r.first (groups_of new)
  answers_last rs place r new within is none new_is = record {
    group = group_of r;
    at = group_at rs place r within is;
    others = [];
    messages_are = ap (λ (ms : List M). r.first ∷ ms) none;
    left = ap (λ (qs : List (WaitingRequest M W)). groups_of qs) new_is ∙ groups_removed rs place;
  }

  pub answers_one : (rs : List (WaitingRequest M W)) (place : ℕ) (r s : WaitingRequest M W) → place < length rs → r ≡ slice_index_or rs place r → s.number ≡ r.number → s.work ≡ r.work
      → r.others.items ≡ s.first ∷ s.others.items → IsAnswered (groups_of rs) place r.first (groups_of (slice_set rs place s))
  answers_one rs place r s within is number work others = record {
    group = group_of r;
    at = group_at rs place r within is;
    others = s.first ∷ s.others.items;
    messages_are = ap (λ (ms : List M). r.first ∷ ms) others;
    left = groups_set rs place s ∙ ap (λ (g : Group M W). slice_set (groups_of rs) place g) (λ i. record { number = number i; messages = s.first ∷ s.others.items; work = work i });
  }

module _ {M : Type 0} where
  -- the first of a list with some
  pub first_of_some : (ms : List M) (first : M) → 0 < length ms → first ≡ slice_index_or ms 0 first → ms ≡ first ∷ remove ms 0
  first_of_some [] first some is = absurd (omega arith)
  first_of_some (m ∷ ms) first some is = ap (λ (x : M). x ∷ ms) (sym is)

  pub none_left : (ms : List M) → length ms ≡ 0 → ms ≡ []
  none_left [] none = refl
  none_left (m ∷ ms) none = absurd (omega arith)

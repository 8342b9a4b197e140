-- Fewer requests than msgIDs leave a token to be given.
use Rattle.std.specs.Prelude.{◌≡◌, ◌≢◌, ℕ, zero, suc, ◌+◌, ◌-◌, ◌^◌, ◌<◌, ◌≤◌, true, false, ◌||◌, List, [], ◌∷◌, length, IsSome}
use Rattle.std.proofs.Common.{refl, sym, subst, ◌∙◌, arith}
use Rattle.std.specs.List.{AllByRecursion, IsDistinct, list_any}
use Rattle.std.specs.Ordering.{nat_cmp, eq_by_cmp}
use Rattle.std.specs.Cmp.{nat_cmp_total, eq_by_cmp_equiv}
use Rattle.std.proofs.lemmas.Map.Steps.{length-le_from_keys}
use Rattle.std.specs.FinMap.{entries, get-entries, len-entries}
use Rattle.snmp_requests.specs.declared.outstanding.TheConstants.{MESSAGE_IDS, REQUESTS_LIMIT}
use Rattle.snmp_requests.specs.Outstanding.{AreOutstanding, HasNoToken, IsTaken, Outstanding, from_token, message_id_of}
use Rattle.snmp_requests.proofs.Maps.{apart_of, find_id, same_of}

-- the msgIDs of so many tokens
ids : ℕ → ℕ → List ℕ
ids next zero = []
ids next (suc n) = message_id_of (next + n) ∷ ids next n

length-ids : (next n : ℕ) → length (ids next n) ≡ n
unfolding ids
length-ids next zero = refl
length-ids next (suc n) = omega (arith, length-ids next n)

ids_differ : (a b : ℕ) → a < b → b < a + MESSAGE_IDS → message_id_of b ≢ message_id_of a
ids_differ a b below few same = omega (arith, same)

apart_all : (next m n : ℕ) → n ≤ m → m < MESSAGE_IDS → AllByRecursion (λ y. eq_by_cmp nat_cmp (message_id_of (next + m)) y ≡ false) (ids next n)
unfolding ids
apart_all next m zero least few = tt
apart_all next m (suc n) least few = (
  apart_of (message_id_of (next + m)) (message_id_of (next + n)) (ids_differ (next + n) (next + m) (omega arith) (omega arith)),
  apart_all next m n (omega arith) few,
)

distinct : (next n : ℕ) → n ≤ MESSAGE_IDS → IsDistinct (eq_by_cmp nat_cmp) (ids next n)
unfolding ids IsDistinct
distinct next zero few = tt
distinct next (suc n) few = (apart_all next n n (omega arith) (omega arith), distinct next n (omega arith))

-- what is true of each of them is true of one that is among them
among : (P : ℕ → Type 0) (next n q : ℕ) → ((k : ℕ) → k < n → P (message_id_of (next + k))) → list_any (eq_by_cmp nat_cmp q) (ids next n) ≡ true → P q
unfolding ids
among P next zero q each is = cc is
among P next (suc n) q each is =
    elim (eq_by_cmp nat_cmp q (message_id_of (next + n))) as (λ b. eq_by_cmp nat_cmp q (message_id_of (next + n)) ≡ b → (b || list_any (eq_by_cmp nat_cmp q) (ids next n)) ≡ true → P q) [
      | true ↦ λ e h. subst P (sym (same_of q (message_id_of (next + n)) e)) (each n (omega arith))
      | false ↦ λ e h. among P next n q (λ k below. each k (omega arith)) h
    ] refl is

pub some_left : (all : Outstanding) (first : ℕ) → AreOutstanding all → from_token all.next first + REQUESTS_LIMIT < 2 ^ 64 - 1 → HasNoToken all first → ⊥
some_left all first are low none =
    let es = entries all.requests in
    let from = from_token all.next first in
    let n = REQUESTS_LIMIT + 1 in
    let taken : (k : ℕ) → k < n → IsTaken all (message_id_of (from + k)) = λ k below. none (from + k) (omega arith) (omega (arith, low, below)) in
    let most = length-le_from_keys (eq_by_cmp_equiv nat_cmp_total) (ids from n) es (distinct from n (omega arith))
    (λ q is. subst (λ o. IsSome o) (get-entries all.requests q ∙ find_id es q) (among (IsTaken all) from n q taken is)) in
    omega (arith, most, length-ids from n, len-entries all.requests, are.few)

-- Request-ids: so many asks leave one of so many and one more free.
use Rattle.std.specs.Prelude.{◌≡◌, ◌≢◌, ℕ, suc, zero, ◌<◌, ◌≤◌, List, [], ◌∷◌, length, take, drop, Contains, remove, slice_index_or}
use Rattle.std.proofs.Common.{sym, ap, subst, ◌∙◌, inl, inr, arith}
use Rattle.std.proofs.lemmas.Bool.Decides.{eqb_tells}
use Rattle.std.proofs.Math.Seq.{split_at}
use Rattle.std.proofs.lemmas.List.Edits.{length-remove}
use Rattle.std.proofs.lemmas.List.Elements.{Contains-append_cases, Contains-append_left, Contains-append_right, Contains-push_cases}
use Rattle.snmp_gate.specs.Asks.{Waits, id_after}
use Rattle.snmp_gate.specs.declared.asks.DeviceAsk.{DeviceAsk}
use Rattle.snmp_gate.specs.declared.asks.TheConstants.{REQUEST_IDS}

-- two numbers of steps lead to two request-ids
pub ids_differ : (id i j : ℕ) → id < REQUEST_IDS → i < j → j < REQUEST_IDS → id_after id i ≢ id_after id j
ids_differ id i j small below few same = omega (arith, same)

-- an ask with another request-id stays where one is taken out
other_stays : (asks : List DeviceAsk) (place id : ℕ) (d : DeviceAsk) → place < length asks → id ≢ (slice_index_or asks place d).id → Waits asks id → Waits (remove asks place) id
other_stays asks place id d within differs waits =
    let front = take place asks in
    let back = drop (suc place) asks in
    let out = slice_index_or asks place d in
    let split = subst (λ (xs : List DeviceAsk). Contains xs waits.ask) (split_at asks place d within) waits.there in
    elim (Contains-append_cases front (out ∷ back) waits.ask split) [
      | inl before ↦ record { ask = waits.ask; there = Contains-append_left front back waits.ask before; id_is = waits.id_is }
      | inr rest ↦ elim (Contains-append_cases (out ∷ []) back waits.ask rest) [
        | inl first ↦ elim (Contains-push_cases [] out waits.ask first) [
          | inl none ↦ absurd (omega (arith, none.1))
          | inr is ↦ absurd (differs (sym waits.id_is ∙ ap (λ (a : DeviceAsk). a.id) (sym is)))
        ]
        | inr after ↦ record { ask = waits.ask; there = Contains-append_right front back waits.ask after; id_is = waits.id_is }
      ]
    ]

-- where the device is asked with each of so many request-ids, there are as many asks
all_taken : (n : ℕ) (id : ℕ) (asks : List DeviceAsk) → id < REQUEST_IDS → n ≤ REQUEST_IDS → ((k : ℕ) → k < n → Waits asks (id_after id k)) → n ≤ length asks
all_taken zero id asks small few taken = omega arith
all_taken (suc n) id asks small few taken =
    let here : n < suc n = omega arith in
    let last = taken n here in
    let place = last.there.0 in
    let within = last.there.1 in
    let is : (slice_index_or asks place last.ask).id ≡ id_after id n = ap (λ (a : DeviceAsk). a.id) last.there.2 ∙ last.id_is in
    let rest = remove asks place in
    let fewer = all_taken n id rest small (omega arith) (λ k below.
    let more : k < suc n = omega arith in
    let in_range : n < REQUEST_IDS = omega arith in
    other_stays asks place (id_after id k) last.ask within (λ same. ids_differ id k n small below in_range (same ∙ is)) (taken k more)) in
    omega (arith, fewer, length-remove asks place within)

-- behind as many request-ids as there are asks one is free
pub one_free : (id n free : ℕ) (asks : List DeviceAsk) → id < REQUEST_IDS → length asks < REQUEST_IDS → length asks ≤ n → n ≤ length asks → free ≡ id_after id n
    → ((k : ℕ) → k < n → Waits asks (id_after id k)) → ¬ Waits asks free
one_free id n free asks small few least most is taken waits =
    let all : (k : ℕ) → k < suc n → Waits asks (id_after id k) = λ k below. elim (eqb_tells k n) [
      | inl (test, last) ↦ subst (λ (j : ℕ). Waits asks (id_after id j)) (sym last) (subst (Waits asks) is waits)
      | inr (test, other) ↦ taken k (omega arith)
    ] in
    omega (arith, all_taken (suc n) id asks small (omega arith) all)

-- What the devices are asked, as more happens.
use Rattle.std.specs.Prelude.{◌≡◌, ◌≢◌, ◌∷◌, ◌++◌, ◌<◌, ℕ, suc, List, [], All, Contains, Option, Some, None, MatchOption, ◌≤◌, zero, pos, drop, length, remove, slice_index_or, slice_set, take}
use Rattle.std.proofs.Common.{refl, sym, ap, subst, ◌∙◌, inl, inr, arith}
use Rattle.std.proofs.lemmas.Bool.Decides.{eqb_tells, leb_tells}
use Rattle.std.proofs.Math.Seq.{split_at}
use Rattle.std.proofs.lemmas.List.{get_or_default, get_or-set_other, get_or-set_same}
use Rattle.std.proofs.lemmas.List.Elements.{All-get_or, All-set, Contains-append_cases, Contains-append_left, Contains-append_right, Contains-push, Contains-push_cases}
use Rattle.gateway_laws.specs.Requests.{RequestPdu}
use Rattle.snmp_gate.specs.AskRuns.{HaveOwnIds}
use Rattle.snmp_gate.specs.Asks.{Ends, IsNextFree, Waits, ask_of, id_after}
use Rattle.snmp_gate.specs.declared.asks.TheConstants.{REQUEST_IDS}
use Rattle.snmp_gate.specs.History.{Happening, OpenAsk, asked, open_ask}
use Rattle.snmp_gate.specs.Lawful.{IsOwnId}
use Rattle.snmp_gate.specs.Waiting.{AsksNothing, AsksStand, EndsAsk, asks_in}
use Rattle.std.proofs.Math.Seq.{map-set_same}
use Rattle.std.proofs.lemmas.List.{get_or-map, length-map, map-set}
use Rattle.std.proofs.lemmas.List.Elements.{All-cons, All-head, All-nil, All-tail}
use Rattle.snmp_gate.specs.declared.asks.DeviceAsks.{DeviceAsks}
use Rattle.snmp_gate.specs.declared.asks.DeviceAsk.{DeviceAsk}
use Rattle.snmp_gate.proofs.Asked.{none_is_some}
use Rattle.snmp_gate.proofs.Others.{chosen, open_other}
use Rattle.snmp_gate.proofs.AskSteps.{own_asked, own_ended}

-- two asks of a device with one request-id are one
one_entry : (xs : List DeviceAsk) (a b : DeviceAsk) → HaveOwnIds xs → Contains xs a → Contains xs b → a.id ≡ b.id → a ≡ b
one_entry xs a b own ia ib same =
    let a_id : (slice_index_or xs ia.0 a).id ≡ a.id = ap (λ (x : DeviceAsk). x.id) ia.2 in
    let b_id : (slice_index_or xs ib.0 a).id ≡ b.id = ap (λ (x : DeviceAsk). x.id) (get_or_default xs ib.0 a b ib.1 ∙ ib.2) in
    elim (eqb_tells ia.0 ib.0) [
      | inl (test, at) ↦ sym ia.2 ∙ get_or_default xs ia.0 a b ia.1 ∙ ap (λ (i : ℕ). slice_index_or xs i b) at ∙ ib.2
      | inr (test, other) ↦ elim (leb_tells ib.0 ia.0) [
        | inl (t, from) ↦ let lt : ib.0 < ia.0 = omega (arith, from, other) in absurd (own ib.0 ia.0 a lt ia.1 (b_id ∙ sym same ∙ sym a_id))
        | inr (t, below) ↦ absurd (own ia.0 ib.0 a below ib.1 (a_id ∙ same ∙ sym b_id))
      ]
    ]

-- an ask with another request-id stays where one is taken out
stays : (xs : List DeviceAsk) (place : ℕ) (d x : DeviceAsk) → place < length xs → x.id ≢ (slice_index_or xs place d).id → Contains xs x → Contains (remove xs place) x
stays xs place d x within differs there =
    let front = take place xs in
    let back = drop (suc place) xs in
    let out = slice_index_or xs place d in
    let split = subst (λ (ys : List DeviceAsk). Contains ys x) (split_at xs place d within) there in
    elim (Contains-append_cases front (out ∷ back) x split) [
      | inl before ↦ Contains-append_left front back x before
      | inr rest ↦ elim (Contains-append_cases (out ∷ []) back x rest) [
        | inl first ↦ elim (Contains-push_cases [] out x first) [
          | inl none ↦ absurd (omega (arith, none.1))
          | inr is ↦ absurd (differs (ap (λ (a : DeviceAsk). a.id) (sym is)))
        ]
        | inr after ↦ Contains-append_right front back x after
      ]
    ]

pub open_number : (a b : ℕ) → Some a ≡ Some b → a ≡ b
open_number a b is = cc

open_in : (a b : OpenAsk) → Some a ≡ Some b → a ≡ b
open_in a b is = cc

same_request : (id a b : ℕ) → ask_of id a ≡ ask_of id b → a ≡ b
same_request id a b is = ap (λ (x : DeviceAsk). x.request) is

-- nothing of what is asked changes
pub asks_same : (e : Happening) (before : List Happening) (asks : List (List DeviceAsk)) → ((k : ℕ) → open_ask k (e ∷ before) ≡ open_ask k before) → AsksStand before asks → AsksStand (e ∷ before) asks
asks_same e before asks same stands = record { own = stands.own; there = λ k ask is. stands.there k ask (sym (same k) ∙ is) }

-- the device is asked with a request-id that is free
module _ (before : List Happening) (n device id from : ℕ) (what : RequestPdu) (w : List ℕ) (asks : List (List DeviceAsk)) (within : device < length asks) (stands : AsksStand before asks) where
  pub free_own : IsNextFree (slice_index_or asks device []) from id → IsOwnId before n device id
  free_own free other ask differs is at same_id = free.is_free (record {
    ask = ask_of ask.id other;
    there = subst (λ (d : ℕ). Contains (slice_index_or asks d []) (ask_of ask.id other)) at (stands.there other ask is);
    id_is = same_id;
  })

  now_open : (ask : OpenAsk) → open_ask n (asked n device id what w ∷ before) ≡ Some ask → record { device = device; id = id; request = what } ≡ ask
  now_open ask is = open_in (record { device = device; id = id; request = what }) ask (sym (chosen n (Some (record { device = device; id = id; request = what })) (open_ask n before)) ∙ is)

  pub asks_asked : IsNextFree (slice_index_or asks device []) from id → AsksStand (asked n device id what w ∷ before) (slice_set asks device (slice_index_or asks device [] ++ ask_of id n ∷ []))
  asks_asked free =
      let xs = slice_index_or asks device [] in
      let ys = xs ++ ask_of id n ∷ [] in record {
        own = All-set HaveOwnIds asks device ys (own_asked xs from n id free (All-get_or HaveOwnIds asks device [] within stands.own)) stands.own;
        there = λ k ask is. elim (eqb_tells k n) [
          | inl (test, same) ↦
              let now = now_open ask (subst (λ (i : ℕ). open_ask i (asked n device id what w ∷ before) ≡ Some ask) same is) in
              subst (λ (a : OpenAsk). Contains (slice_index_or (slice_set asks device ys) a.device []) (ask_of a.id k)) now
              (subst (λ (i : ℕ). Contains (slice_index_or (slice_set asks device ys) device []) (ask_of id i)) (sym same)
              (subst (λ (zs : List DeviceAsk). Contains zs (ask_of id n)) (sym (get_or-set_same asks device ys [] within)) (Contains-push xs (ask_of id n))))
          | inr (test, other) ↦
              let old = stands.there k ask (sym (open_other (asked n device id what w) before k other) ∙ is) in
              elim (eqb_tells ask.device device) [
                | inl (t, at) ↦ subst (λ (zs : List DeviceAsk). Contains zs (ask_of ask.id k)) (sym (ap (λ (d : ℕ). slice_index_or (slice_set asks device ys) d []) at ∙ get_or-set_same asks device ys [] within))
                    (Contains-append_left xs (ask_of id n ∷ []) (ask_of ask.id k) (subst (λ (d : ℕ). Contains (slice_index_or asks d []) (ask_of ask.id k)) at old))
                | inr (t, away) ↦ subst (λ (zs : List DeviceAsk). Contains zs (ask_of ask.id k)) (sym (get_or-set_other asks device ask.device ys [] away)) old
              ]
        ];
      }

  -- it is asked with the request-id that it was asked with
  again_own : (old : RequestPdu) → open_ask n before ≡ Some (record { device = device; id = id; request = old }) → IsOwnId before n device id
  again_own old opened other ask differs is at same_id =
      let xs = slice_index_or asks device [] in
      let theirs = subst (λ (d : ℕ). Contains (slice_index_or asks d []) (ask_of ask.id other)) at (stands.there other ask is) in
      let ours = stands.there n (record { device = device; id = id; request = old }) opened in
      let one = one_entry xs (ask_of ask.id other) (ask_of id n) (All-get_or HaveOwnIds asks device [] within stands.own) theirs ours same_id in
      differs (ap (λ (x : DeviceAsk). x.request) one)

  pub asks_again : (old : RequestPdu) → open_ask n before ≡ Some (record { device = device; id = id; request = old }) → AsksStand (asked n device id what w ∷ before) asks × IsOwnId before n device id
  asks_again old opened = (
    record {
      own = stands.own;
      there = λ k ask is. elim (eqb_tells k n) [
        | inl (test, same) ↦
            let now = now_open ask (subst (λ (i : ℕ). open_ask i (asked n device id what w ∷ before) ≡ Some ask) same is) in
            subst (λ (a : OpenAsk). Contains (slice_index_or asks a.device []) (ask_of a.id k)) now
            (subst (λ (i : ℕ). Contains (slice_index_or asks device []) (ask_of id i)) (sym same) (stands.there n (record { device = device; id = id; request = old }) opened))
        | inr (test, other) ↦ stands.there k ask (sym (open_other (asked n device id what w) before k other) ∙ is)
      ];
    },
    again_own old opened,
  )

beyond : {X : Type 0} (xs : List X) (i : ℕ) (d : X) → length xs ≤ i → slice_index_or xs i d ≡ d
beyond [] i d from = refl
beyond (x ∷ xs) zero d from = absurd (omega (arith, from))
beyond (x ∷ xs) (suc i) d from = beyond xs i d (omega (arith, from))

-- a device that is asked something is one of the devices
asked_within : (asks : List (List DeviceAsk)) (device place : ℕ) → place < length (slice_index_or asks device []) → device < length asks
asked_within asks device place there = elim (leb_tells (length asks) device) [
  | inl (test, from) ↦ let none = ap (λ (xs : List DeviceAsk). length xs) (beyond asks device [] from) in absurd (omega (arith, there, none))
  | inr (test, within) ↦ within
]

-- what the device is asked for a request is answered, or given up
module _ (e : Happening) (before : List Happening) (n device : ℕ) (closed : open_ask n (e ∷ before) ≡ None) (others : (k : ℕ) → k ≢ n → open_ask k (e ∷ before) ≡ open_ask k before) where
  left_there : (asks : List (List DeviceAsk)) → AsksStand before asks → (k : ℕ) (ask : OpenAsk) → open_ask k (e ∷ before) ≡ Some ask → (k ≢ n) × Contains (slice_index_or asks ask.device []) (ask_of ask.id k)
  left_there asks stands k ask is = elim (eqb_tells k n) [
    | inl (test, same) ↦ absurd (none_is_some ask (sym closed ∙ subst (λ (i : ℕ). open_ask i (e ∷ before) ≡ Some ask) same is))
    | inr (test, other) ↦ (other, stands.there k ask (sym (others k other) ∙ is))
  ]

  unchanged : (asks new : List (List DeviceAsk)) → new ≡ asks → AsksStand before asks → AsksStand (e ∷ before) new
  unchanged asks new same stands = subst (AsksStand (e ∷ before)) (sym same) (record { own = stands.own; there = λ k ask is. (left_there asks stands k ask is).1 })

  pub asks_ended : (id : Option ℕ) (asks new : List (List DeviceAsk)) → EndsAsk device id asks new
      → ((i : ℕ) → id ≡ Some i → (what : RequestPdu) × (open_ask n before ≡ Some (record { device = device; id = i; request = what }))) → AsksStand before asks → AsksStand (e ∷ before) new
  asks_ended id asks new (EndsAsk.none none same) opened stands = unchanged asks new same stands
  asks_ended id asks new (EndsAsk.idle i is not same) opened stands = unchanged asks new same stands
  asks_ended id asks new (EndsAsk.ends i request left is ended new_is) opened stands =
      let xs = slice_index_or asks device [] in
      let within = asked_within asks device ended.place ended.within in
      let own = All-get_or HaveOwnIds asks device [] within stands.own in
      let ours = opened i is in
      let here = stands.there n (record { device = device; id = i; request = ours.0 }) ours.1 in
      subst (AsksStand (e ∷ before)) (sym new_is) (record {
        own = All-set HaveOwnIds asks device left (own_ended xs left (ask_of i request) ended own) stands.own;
        there = λ k ask opens. let known = left_there asks stands k ask opens in
            elim (eqb_tells ask.device device) [
              | inl (t, at) ↦
                  let there = subst (λ (d : ℕ). Contains (slice_index_or asks d []) (ask_of ask.id k)) at known.1 in
                  let differs : ask.id ≢ i = λ same. known.0 (ap (λ (x : DeviceAsk). x.request) (one_entry xs (ask_of ask.id k) (ask_of i n) own there here same)) in
                  subst (λ (zs : List DeviceAsk). Contains zs (ask_of ask.id k)) (sym (ap (λ (d : ℕ). slice_index_or (slice_set asks device left) d []) at ∙ get_or-set_same asks device left [] within))
                  (subst (λ (zs : List DeviceAsk). Contains zs (ask_of ask.id k)) (sym ended.new_is)
                  (stays xs ended.place (ask_of i request) (ask_of ask.id k) ended.within (λ same. differs (same ∙ sym (ap (λ (x : DeviceAsk). x.id) ended.ask_is))) there))
              | inr (t, away) ↦ subst (λ (zs : List DeviceAsk). Contains zs (ask_of ask.id k)) (sym (get_or-set_other asks device ask.device left [] away)) known.1
            ];
      })

-- ---- what the code does

read_list : (asks : List DeviceAsks) (device : ℕ) (a : DeviceAsks) → device < length asks → a ≡ slice_index_or asks device a → slice_index_or (asks_in asks) device [] ≡ a.asks.items
read_list asks device a within is = get_or-map (λ (x : DeviceAsks). x.asks.items) asks device a [] within ∙ ap (λ (x : DeviceAsks). x.asks.items) (sym is)

pub ended_one : (asks : List DeviceAsks) (device id : ℕ) (a new : DeviceAsks) (ended : Option ℕ) (asked_is : Option ℕ) → device < length asks → a ≡ slice_index_or asks device a → asked_is ≡ Some id
    → MatchOption ended ((¬ Waits a.asks.items id) × (new.asks.items ≡ a.asks.items)) (λ request. Ends a.asks.items (ask_of id request) new.asks.items)
    → EndsAsk device asked_is (asks_in asks) (asks_in (slice_set asks device new))
ended_one asks device id a new None asked_is within is some ends =
    EndsAsk.idle id some (λ waits. ends.0 (subst (λ (xs : List DeviceAsk). Waits xs id) (read_list asks device a within is) waits))
    (map-set_same (λ (x : DeviceAsks). x.asks.items) asks device new a (ends.1 ∙ ap (λ (x : DeviceAsks). x.asks.items) is))
ended_one asks device id a new (Some request) asked_is within is some ends =
    EndsAsk.ends id request new.asks.items some (subst (λ (xs : List DeviceAsk). Ends xs (ask_of id request) new.asks.items) (sym (read_list asks device a within is)) ends)
    (map-set (λ (x : DeviceAsks). x.asks.items) asks device new)

pub idle_beyond : (asks : List DeviceAsks) (device id : ℕ) (asked_is : Option ℕ) → length asks ≤ device → asked_is ≡ Some id → EndsAsk device asked_is (asks_in asks) (asks_in asks)
idle_beyond asks device id asked_is from some =
    EndsAsk.idle id some (λ waits. let none = subst (λ (xs : List DeviceAsk). Waits xs id) (beyond (asks_in asks) device [] (omega (arith, from, length-map asks (λ (x : DeviceAsks). x.asks.items)))) waits in absurd (omega (arith, none.there.1))) refl

pub asks_of_asked : (asks : List DeviceAsks) (device : ℕ) (a new : DeviceAsks) (id n : ℕ) → device < length asks → a ≡ slice_index_or asks device a → new.asks.items ≡ a.asks.items ++ ask_of id n ∷ []
    → asks_in (slice_set asks device new) ≡ slice_set (asks_in asks) device (slice_index_or (asks_in asks) device [] ++ ask_of id n ∷ [])
asks_of_asked asks device a new id n within is pushed =
    map-set (λ (x : DeviceAsks). x.asks.items) asks device new
    ∙ ap (λ (xs : List DeviceAsk). slice_set (asks_in asks) device xs) (pushed ∙ ap (λ (xs : List DeviceAsk). xs ++ ask_of id n ∷ []) (sym (read_list asks device a within is)))

pub is_free_in : (asks : List DeviceAsks) (device : ℕ) (a : DeviceAsks) (from id : ℕ) → device < length asks → a ≡ slice_index_or asks device a → IsNextFree a.asks.items from id → IsNextFree (slice_index_or (asks_in asks) device []) from id
is_free_in asks device a from id within is free = subst (λ (xs : List DeviceAsk). IsNextFree xs from id) (sym (read_list asks device a within is)) free

pub long_lists : (asks : List DeviceAsks) → length (asks_in asks) ≡ length asks
long_lists asks = length-map asks (λ (x : DeviceAsks). x.asks.items)

-- where nothing happened, nothing is asked
pub asks_first : (asks : List DeviceAsks) → All AsksNothing asks → AsksStand [] (asks_in asks)
asks_first asks none = record {
  own = all_none asks none;
  there = λ n ask is. absurd (none_is_some ask is);
}
  where
    all_none : (xs : List DeviceAsks) → All AsksNothing xs → All HaveOwnIds (asks_in xs)
    all_none [] all = All-nil HaveOwnIds
    all_none (a ∷ xs) all = All-cons HaveOwnIds a.asks.items (asks_in xs) (subst HaveOwnIds (sym (All-head AsksNothing a xs all)) (λ i j e below within. absurd (omega arith))) (all_none xs (All-tail AsksNothing a xs all))

pub same_id : (a b : ℕ) → pos a ≡ pos b → a ≡ b
same_id a b is = cc

-- the answer to what the device was asked last for a request
pub answered_asks : (e : Happening) (before : List Happening) (n device id : ℕ) (asks : List DeviceAsks) (a new : DeviceAsks) (ended : Option ℕ) → open_ask n (e ∷ before) ≡ None → ((k : ℕ) → k ≢ n → open_ask k (e ∷ before) ≡ open_ask k before)
    → device < length asks → a ≡ slice_index_or asks device a → MatchOption ended ((¬ Waits a.asks.items id) × (new.asks.items ≡ a.asks.items)) (λ request. Ends a.asks.items (ask_of id request) new.asks.items)
    → (ask : OpenAsk) → open_ask n before ≡ Some ask → ask.device ≡ device → ask.id ≡ id → AsksStand before (asks_in asks) → AsksStand (e ∷ before) (asks_in (slice_set asks device new))
answered_asks e before n device id asks a new ended closed others within is ends ask opened at same stands =
    asks_ended e before n device closed others (Some id) (asks_in asks) (asks_in (slice_set asks device new)) (ended_one asks device id a new ended (Some id) within is refl ends)
    (λ i some. (ask.request, opened ∙ (λ j. Some (record { device = at j; id = (same ∙ open_number id i some) j; request = ask.request })))) stands

-- a request-id that is free is the next one that is
pub free_again : (asks : List DeviceAsk) (from id free : ℕ) → id < REQUEST_IDS → IsNextFree asks from id → IsNextFree asks id free → free ≡ id
free_again asks from id free small first again =
    let itself : id_after id 0 ≡ id = omega (arith, small) in
    elim (eqb_tells again.n 0) [
      | inl (test, same) ↦ again.free_is ∙ ap (id_after id) same ∙ itself
      | inr (test, other) ↦ absurd (first.is_free (subst (Waits asks) itself (again.first 0 (omega (arith, other)))))
    ]

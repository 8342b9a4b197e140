-- How many requests and messages wait, and how much a device is asked at once.
use Rattle.std.specs.Prelude.{◌≡◌, ◌≢◌, ◌⊎◌, ◌∷◌, ◌+◌, ◌*◌, ◌<◌, ◌≤◌, ℕ, max, suc, List, [], All, AllPairs, Contains, length, remove, slice_index_or}
use Rattle.std.specs.List.{HoldsAt}
use Rattle.std.proofs.Common.{refl, sym, ap, subst, ◌∙◌, inl, inr, arith, drop, take}
use Rattle.std.proofs.Math.Nat.{mul_comm, mul-le-mul_right}
use Rattle.std.proofs.Math.Seq.{split_at}
use Rattle.std.proofs.lemmas.Bool.Decides.{eqb_tells, leb_tells}
use Rattle.std.proofs.lemmas.List.{get_or-map, length-map}
use Rattle.std.proofs.lemmas.List.Edits.{length-remove}
use Rattle.std.proofs.lemmas.List.Elements.{All-cons, All-contains, All-contains_itself, All-head, All-nil, Contains-append_cases, Contains-append_left, Contains-append_right, Contains-push_cases}
use Rattle.snmp_gate.specs.Asks.{ask_of}
use Rattle.vacm_core.specs.Tables.{Tables}
use Rattle.snmp_gate.specs.Bounds.{AreBounded, AsksBounded, IsTimely, at_once_in, at_once_of}
use Rattle.snmp_gate.specs.Due.{AreIdle, IsIdle, retries_in}
use Rattle.snmp_gate.specs.Groups.{group_of, groups_of}
use Rattle.snmp_gate.specs.GroupRuns.{IsFew}
use Rattle.snmp_gate.specs.History.{Happening, accepted, waiting_in}
use Rattle.snmp_gate.specs.Limits.{AtMost, IsAskedFor, KeepsTo, WaitInTime}
use Rattle.snmp_gate.specs.Question.{Question}
use Rattle.snmp_gate.specs.Sending.{Requests}
use Rattle.snmp_gate.specs.Waiting.{AsksStand, GroupStands, GroupsStand, WorkStands, asks_in}
use Rattle.snmp_gate.specs.declared.asks.DeviceAsk.{DeviceAsk}
use Rattle.snmp_gate.specs.declared.asks.DeviceAsks.{DeviceAsks}
use Rattle.snmp_gate.specs.declared.devices.Device.{Device}
use Rattle.snmp_gate.specs.declared.limits.GateLimits.{GateLimits}
use Rattle.snmp_gate.specs.declared.requests.WaitingRequest.{WaitingRequest}
use Rattle.snmp_gate.specs.declared.requests.WaitingRequests.{WaitingRequests}
use Rattle.snmp_gate.specs.declared.task.Task.{Task}
use Rattle.snmp_gate.specs.declared.task.Task.TheVariants as task
use Rattle.snmp_gate.specs.declared.waiting_message.WaitingMessage.{WaitingMessage}
use Rattle.snmp_gate.specs.declared.work.Work.{Work}
use Rattle.snmp_gate.specs.declared.work.Work.TheVariants.{Open, Ends}
use Rattle.snmp_gate.proofs.GivingUp.{pick}
use Rattle.snmp_gate.proofs.Histories.{Waiting}
use Rattle.snmp_gate.proofs.Todos.{idle_in_time}

-- another one stays where one is taken out
stays_out : {X : Type 0} (xs : List X) (place : ℕ) (d x : X) → place < length xs → x ≢ slice_index_or xs place d → Contains xs x → Contains (remove xs place) x
stays_out xs place d x within differs there =
    let front = take place xs in
    let back = drop (suc place) xs in
    let out = slice_index_or xs place d in
    let split = subst (λ ys. Contains ys x) (split_at xs place d within) there in
    elim (Contains-append_cases front (out ∷ back) x split) [
      | inl before ↦ Contains-append_left front back x before
      | inr rest ↦ elim (Contains-append_cases (out ∷ []) back x rest) [
        | inl first ↦ elim (Contains-push_cases [] out x first) [
          | inl none ↦ absurd (omega (arith, none.1))
          | inr is ↦ absurd (differs (sym is))
        ]
        | inr after ↦ Contains-append_right front back x after
      ]
    ]

-- different numbers are of different ones
few_of : {X : Type 0} (f : X → ℕ) (ns : List ℕ) (xs : List X) → AllPairs (λ (a b : ℕ). a ≢ b) ns → All (λ n. (x : X) × Contains xs x × (f x ≡ n)) ns → length ns ≤ length xs
few_of f [] xs apart all = omega arith
few_of f (n ∷ ns) xs apart all =
    let first = All-head (λ m. (x : _) × Contains xs x × (f x ≡ m)) n ns all in
    let place = first.1.0 in
    let within = first.1.1 in
    let rest = few_of f ns (remove xs place) (λ i j d below short. apart (suc i) (suc j) d (omega (arith, below)) (omega (arith, short)))
    (λ k d short.
    let was = all (suc k) d (omega (arith, short)) in
    let differs : was.0 ≢ slice_index_or xs place first.0 = λ same. apart 0 (suc k) d (omega arith) (omega (arith, short)) (sym first.2 ∙ ap f (sym (same ∙ first.1.2)) ∙ was.2) in
    (was.0, stays_out xs place first.0 was.0 within differs was.1, was.2)) in
    omega (arith, rest, length-remove xs place within)

-- each device is asked for as many requests at once as it may be
asks_keep_to : (before : List Happening) (devices : List Device) (asks : List DeviceAsks) → AsksStand before (asks_in asks) → AsksBounded devices asks
    → (device : ℕ) → device < length devices → HoldsAt (λ (d : Device). AtMost d.at_once (IsAskedFor before device)) devices device
asks_keep_to before devices asks stands bounded device within d ns apart all =
    let long = ap (λ (ms : List ℕ). length ms) bounded.at_once in
    let short : device < length asks = omega (arith, within, long, length-map devices (λ (x : Device). at_once_of x), length-map asks (λ (x : DeviceAsks). at_once_in x)) in
    let lists = asks_in asks in
    let xs = slice_index_or lists device [] in
    let few = few_of (λ (x : DeviceAsk). x.request) ns xs apart (λ k e inside.
    let is = all k e inside in
    (ask_of is.0.id (slice_index_or ns k e), subst (λ (i : ℕ). Contains (slice_index_or lists i []) (ask_of is.0.id (slice_index_or ns k e))) is.2 (stands.there (slice_index_or ns k e) is.0 is.1), refl)) in
    let one = pick asks device short in
    let a = one.0 in
    let list : xs ≡ (slice_index_or asks device a).asks.items = get_or-map (λ (x : DeviceAsks). x.asks.items) asks device a [] short in
    let most : (slice_index_or devices device d).at_once ≡ (slice_index_or asks device a).at_once =
    sym (get_or-map (λ (x : Device). at_once_of x) devices device d 0 within)
    ∙ ap (λ (ms : List ℕ). slice_index_or ms device 0) bounded.at_once
    ∙ get_or-map (λ (x : DeviceAsks). at_once_in x) asks device a 0 short in
    omega (arith, few, ap (λ (ys : List DeviceAsk). length ys) list, bounded.few device a short, most)

-- the request of this number, or that there is none
find_group : (n : ℕ) (gs : List Waiting) → ((g : Waiting) × Contains gs g × (g.number ≡ n)) ⊎ All (λ (g : Waiting). g.number ≢ n) gs
find_group n [] = inr (All-nil (λ (g : Waiting). g.number ≢ n))
find_group n (g ∷ gs) = elim (eqb_tells g.number n) [
  | inl (test, is) ↦ inl (g, All-head (Contains (g ∷ gs)) g gs (All-contains_itself (g ∷ gs)), is)
  | inr (test, other) ↦ elim (find_group n gs) [
    | inl found ↦ inl (found.0, Contains-append_right (g ∷ []) gs found.0 found.1, found.2)
    | inr none ↦ inr (All-cons (λ (x : Waiting). x.number ≢ n) g gs other none)
  ]
]

none_long : {X : Type 0} (xs : List X) → xs ≡ [] → length xs ≡ 0
none_long xs is = ap (λ ys. length ys) is

few_messages : (most : ℕ) (g : Waiting) (n : ℕ) → IsFew most g → n ≡ length g.messages → n ≤ max 1 most
few_messages most g n few is = elim (leb_tells n 1) [
  | inl (test, one) ↦ omega (arith, one)
  | inr (test, more) ↦ let le = few.few (omega (arith, more, is)) in omega (arith, le, is)
]

pub keeps_to : (tables : Tables) (limits : GateLimits) (before : List Happening) (devices others : List Device) (requests : WaitingRequests WaitingMessage Work) (asks : List DeviceAsks)
    → GroupsStand tables others before requests.next (groups_of requests.list.items) → AsksStand before (asks_in asks) → AreBounded limits requests → AsksBounded devices asks → KeepsTo limits devices before
keeps_to tables limits before devices others requests asks stands asked bounded few =
    let gs = groups_of requests.list.items in record {
      requests = λ ns apart all.
          let long = few_of (λ (g : Waiting). g.number) ns gs apart (λ k d within. elim (find_group (slice_index_or ns k d) gs) [
            | inl found ↦ found
            | inr none ↦ let some = all k d within in absurd (omega (arith, some, none_long (waiting_in (slice_index_or ns k d) before) (stands.gone (slice_index_or ns k d) none)))
          ]) in
          omega (arith, long, bounded.few);
      messages = λ n. elim (find_group n gs) [
        | inl found ↦
            let known = All-contains (GroupStands tables others before) gs found.0 stands.all found.1 in
            let own = All-contains (IsFew limits.joined) gs found.0 bounded.messages found.1 in
            let same : length (waiting_in n before) ≡ length found.0.messages = ap (λ (i : ℕ). length (waiting_in i before)) (sym found.2) ∙ ap (λ (ms : List WaitingMessage). length ms) known.wait in
            few_messages limits.joined found.0 (length (waiting_in n before)) own same
        | inr none ↦ let is = none_long (waiting_in n before) (stands.gone n none) in omega (arith, is)
      ];
      asked = asks_keep_to before devices asks asked few;
    }

-- what is idle, of all groups
idle_groups : (limits : GateLimits) (now : ℕ) (rs : Requests) → AreIdle limits now rs → All (λ (g : Waiting). IsIdle limits now g.work) (groups_of rs)
idle_groups limits now rs idle k d within =
    let short : k < length rs = omega (arith, within, length-map rs (λ (r : WaitingRequest WaitingMessage Work). group_of r)) in
    let one = pick rs k short in
    subst (λ (g : Waiting). IsIdle limits now g.work) (sym (get_or-map (λ (r : WaitingRequest WaitingMessage Work). group_of r) rs k one.0 d short)) (idle k one.0 short)

one_try : (tries : ℕ) → 1 ≤ max 1 tries
one_try tries = omega arith

all_tries : (tries : ℕ) → tries ≤ max 1 tries
all_tries tries = omega arith

-- how long a request waits at most
longest : (limits : GateLimits) (t : Task) → (retries_in limits t).last + (retries_in limits t).again ≤ limits.retries.last + max 1 limits.retries.tries * limits.retries.again
longest limits (task.Read o d) = let more = mul-le-mul_right limits.retries.again (one_try limits.retries.tries) in omega (arith, more)
longest limits (task.Bulk by d) = let more = mul-le-mul_right limits.retries.again (one_try limits.retries.tries) in omega (arith, more)
longest limits task.Set =
    let more = mul-le-mul_right limits.retries.again (all_tries limits.retries.tries) in
    let same : limits.retries.again * limits.retries.tries ≡ limits.retries.tries * limits.retries.again = mul_comm limits.retries.again limits.retries.tries in
    omega (arith, more, same)

work_in_time : (tables : Tables) (limits : GateLimits) (now : ℕ) (before : List Happening) (devices : List Device) (n : ℕ) (q : Question) (w : Work) (at : ℕ) (datagram : List ℕ) (m : WaitingMessage) → WorkStands tables devices before n q w
    → IsIdle limits now w → IsTimely limits w → Contains before (accepted n at datagram m) → now < at + limits.retries.last + max 1 limits.retries.tries * limits.retries.again
work_in_time tables limits now before devices n q (Open o) at datagram m stands idle timely there =
    let from = stands.came at datagram m there in
    let soon = idle_in_time (retries_in limits o.task.task) now o.timer timely.turn idle in
    omega (arith, from, soon, longest limits o.task.task)
work_in_time tables limits now before devices n q (Ends e) at datagram m stands idle timely there = absurd idle

pub wait_in_time : (tables : Tables) (limits : GateLimits) (now : ℕ) (before : List Happening) (devices : List Device) (requests : WaitingRequests WaitingMessage Work) → GroupsStand tables devices before requests.next (groups_of requests.list.items)
    → AreBounded limits requests → AreIdle limits now requests.list.items → WaitInTime limits now before
wait_in_time tables limits now before devices requests stands bounded idle n at datagram m there waits =
    let gs = groups_of requests.list.items in elim (find_group n gs) [
      | inr none ↦ absurd (omega (arith, waits, none_long (waiting_in n before) (stands.gone n none)))
      | inl found ↦
          let known = All-contains (GroupStands tables devices before) gs found.0 stands.all found.1 in
          let quiet = All-contains (λ (g : Waiting). IsIdle limits now g.work) gs found.0 (idle_groups limits now requests.list.items idle) found.1 in
          let timely = All-contains (λ (g : Waiting). IsTimely limits g.work) gs found.0 bounded.timely found.1 in
          work_in_time tables limits now before devices found.0.number known.question found.0.work at datagram m known.work quiet timely (subst (λ (k : ℕ). Contains before (accepted k at datagram m)) (sym found.2) there)
    ]

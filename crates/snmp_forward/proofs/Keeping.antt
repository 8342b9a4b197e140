-- What is known of the notifications that wait, when one more comes, and when the first is dealt with.
use Rattle.std.specs.Prelude.{◌≡◌, ◌≢◌, ◌<◌, ◌+◌, ℕ, zero, suc, cond, nat_eq, Bool, List, [], ◌∷◌, ◌++◌, drop, All, AllPairs, Contains, slice_index_or}
use Rattle.std.proofs.Common.{refl, sym, ap, subst, ◌∙◌, inl, inr, arith}
use Rattle.std.proofs.lemmas.Bool.Decides.{eqb_tells}
use Rattle.std.proofs.lemmas.List.Elements.{All-cons, All-head, All-nil, All-push, All-tail, All-weaker, All-contains, Contains-append_left, Contains-append_right, Contains-push}
use Rattle.std.proofs.lemmas.List.Quantifiers.{all_pairs_push}
use Rattle.vacm_core.specs.Tables.{Tables}
use Rattle.snmp_gate.specs.declared.devices.Device.{Device}
use Rattle.snmp_forward.specs.History.{Happening, as_inform, left_in, number_of, sent, taken, unsent}
use Rattle.snmp_forward.specs.Queue.{Waiting, waiting, with_left}
use Rattle.snmp_forward.specs.Sending.{MayBeSent}
use Rattle.snmp_forward.specs.Standing.{IsKept, QueueStands, WaitingStands}
use Rattle.snmp_forward.specs.declared.receivers.Receiver.{Receiver}

-- ---- tests of numbers

pub other : {A : Type 0} (n m : ℕ) (a b : A) → n ≢ m → cond (nat_eq n m) a b ≡ b
other n m a b never = elim (eqb_tells n m) [
  | inl (test, same) ↦ absurd (never same)
  | inr (test, different) ↦ ap (λ (t : Bool). cond t a b) test
]

pub same : {A : Type 0} (n : ℕ) (a b : A) → cond (nat_eq n n) a b ≡ a
same n a b = elim (eqb_tells n n) [
  | inl (test, is) ↦ ap (λ (t : Bool). cond t a b) test
  | inr (test, different) ↦ absurd (different refl)
]

-- ---- lists

later : {A : Type 0} (x y : A) (xs : List A) → Contains xs x → Contains (y ∷ xs) x
later x y xs there = Contains-append_right (y ∷ []) xs x there

in_tail : {A : Type 0} (x y : A) (xs : List A) → Contains (x ∷ xs) y → (y ≢ x) → Contains xs y
in_tail x y xs (zero, within, is) never = absurd (never (sym is))
in_tail x y xs (suc k, within, is) never = (k, omega (arith, within), is)

pub latest : {A : Type 0} (x : A) (xs : List A) → Contains (x ∷ xs) x
latest x xs = Contains-append_left (x ∷ []) xs x (Contains-push [] x)

pub pairs_head : {A : Type 0} (R : A → A → Type 0) (x : A) (xs : List A) → AllPairs R (x ∷ xs) → All (R x) xs
pairs_head R x xs all k d within = all zero (suc k) d (omega arith) (omega (arith, within))

pub pairs_tail : {A : Type 0} (R : A → A → Type 0) (x : A) (xs : List A) → AllPairs R (x ∷ xs) → AllPairs R xs
pairs_tail R x xs all i j d less within = all (suc i) (suc j) d (omega (arith, less)) (omega (arith, within))

pub pairs_cons : {A : Type 0} (R : A → A → Type 0) (x : A) (xs : List A) → All (R x) xs → AllPairs R xs → AllPairs R (x ∷ xs)
pairs_cons R x xs head tail zero zero d less within = absurd (omega (arith, less))
pairs_cons R x xs head tail zero (suc j) d less within = head j d (omega (arith, within))
pairs_cons R x xs head tail (suc i) zero d less within = absurd (omega (arith, less))
pairs_cons R x xs head tail (suc i) (suc j) d less within = tail i j d (omega (arith, less)) (omega (arith, within))

all_front : {A : Type 0} (P : A → Type 0) (xs ys : List A) → All P (xs ++ ys) → All P xs
all_front P [] ys all = All-nil P
all_front P (x ∷ xs) ys all = All-cons P x xs (All-head P x (xs ++ ys) all) (all_front P xs ys (All-tail P x (xs ++ ys) all))

pub pairs_front : {A : Type 0} (R : A → A → Type 0) (xs ys : List A) → AllPairs R (xs ++ ys) → AllPairs R xs
pairs_front R [] ys all i j d less within = absurd (omega (arith, within))
pairs_front R (x ∷ xs) ys all i j d less within = pairs_cons R x xs (all_front (R x) xs ys (pairs_head R x (xs ++ ys) all)) (pairs_front R xs ys (pairs_tail R x (xs ++ ys) all)) i j d less within

-- ---- what happens to one notification changes nothing of another

left_other : (n : ℕ) (e : Happening) (before : List Happening) → n ≢ number_of e → left_in n (e ∷ before) ≡ left_in n before
left_other n (taken number device w to) before never = other n number to (left_in n before) never
left_other n (sent number receiver by w) before never = other n number (drop 1 (left_in n before)) (left_in n before) never
left_other n (unsent number receiver by why) before never = other n number (drop 1 (left_in n before)) (left_in n before) never
left_other n (as_inform number inform) before never = other n number (drop 1 (left_in n before)) (left_in n before) never

module _ (tables : Tables) (devices : List Device) (receivers : List Receiver) where
  stands_on : (e : Happening) (before : List Happening) (w : Waiting) → w.number ≢ number_of e → WaitingStands tables devices receivers before w → WaitingStands tables devices receivers (e ∷ before) w
  stands_on e before w never stands = record {
    to = stands.to;
    is_taken = later (taken w.number w.device w.datagram stands.to) e before stands.is_taken;
    left = left_other w.number e before never ∙ stands.left;
    may = stands.may;
  }

  -- all stand on whose numbers aren't that of what happens
  all_stand_on : (e : Happening) (before : List Happening) (ws : List Waiting) → All (λ (w : Waiting). w.number ≢ number_of e) ws → All (WaitingStands tables devices receivers before) ws
      → All (WaitingStands tables devices receivers (e ∷ before)) ws
  all_stand_on e before ws never all k d within = stands_on e before (slice_index_or ws k d) (never k d within) (all k d within)

  -- ---- one more comes

  -- the number of each that waits is less than that of the next one, since it was taken
  known_number : (before : List Happening) (next : ℕ) (w : Waiting) → All (λ (e : Happening). number_of e < next) before → WaitingStands tables devices receivers before w → w.number < next
  known_number before next w past stands = All-contains (λ (e : Happening). number_of e < next) before (taken w.number w.device w.datagram stands.to) past stands.is_taken

  past_more : (before : List Happening) (next : ℕ) → All (λ (e : Happening). number_of e < next) before → All (λ (e : Happening). number_of e < next + 1) before
  past_more before next past = All-weaker (λ (e : Happening). number_of e < next) (λ (e : Happening). number_of e < next + 1) (λ e less. omega (arith, less)) before past

  -- each that has receivers left waits, one more of this number among them
  kept_more : (before : List Happening) (next device : ℕ) (datagram to : List ℕ) (ws : List Waiting) → ((n : ℕ) → left_in n before ≢ [] → IsKept ws n) → (n : ℕ) → left_in n (taken next device datagram to ∷ before) ≢ []
      → IsKept (ws ++ waiting next device datagram to ∷ []) n
  kept_more before next device datagram to ws kept n some = elim (eqb_tells n next) [
    | inl (test, is) ↦ (waiting next device datagram to, Contains-push ws (waiting next device datagram to), sym is)
    | inr (test, different) ↦
        let w = kept n (λ none. some (ap (λ (t : Bool). cond t to (left_in n before)) test ∙ none)) in
        (w.0, Contains-append_left ws (waiting next device datagram to ∷ []) w.0 w.1, w.2)
  ]

  pub queue_takes : (before : List Happening) (next device : ℕ) (datagram to : List ℕ) (ws : List Waiting) → QueueStands tables devices receivers before next ws → All (MayBeSent tables devices receivers device datagram) to
      → QueueStands tables devices receivers (taken next device datagram to ∷ before) (next + 1) (ws ++ waiting next device datagram to ∷ [])
  queue_takes before next device datagram to ws stands may =
      let e = taken next device datagram to in
      let never : All (λ (w : Waiting). w.number ≢ next) ws = λ k d within same. let less = known_number before next (slice_index_or ws k d) stands.past (stands.all k d within) in absurd (omega (arith, less, same)) in record {
        all = All-push (WaitingStands tables devices receivers (e ∷ before)) ws (waiting next device datagram to) (all_stand_on e before ws never stands.all) (record {
          to = to;
          is_taken = latest e before;
          left = same next to (left_in next before);
          may = may;
        });
        kept = kept_more before next device datagram to ws stands.kept;
        rise = all_pairs_push (λ (a b : Waiting). a.number < b.number) ws (waiting next device datagram to) stands.rise (λ k d within. known_number before next (slice_index_or ws k d) stands.past (stands.all k d within));
        past = All-cons (λ (x : Happening). number_of x < next + 1) e before (omega arith) (past_more before next stands.past);
      }

  -- ---- the first is dealt with

  gone : (e : Happening) (before : List Happening) (next : ℕ) (w : Waiting) (ws : List Waiting) → number_of e ≡ w.number → QueueStands tables devices receivers before next (w ∷ ws)
      → All (WaitingStands tables devices receivers (e ∷ before)) ws
  gone e before next w ws is stands = all_stand_on e before ws (λ k d within same. let less = pairs_head (λ (a b : Waiting). a.number < b.number) w ws stands.rise k d within in absurd (omega (arith, less, same, is)))
      (All-tail (WaitingStands tables devices receivers before) w ws stands.all)

  past_on : (e : Happening) (before : List Happening) (next : ℕ) (w : Waiting) (ws : List Waiting) → number_of e ≡ w.number → QueueStands tables devices receivers before next (w ∷ ws) → All (λ (x : Happening). number_of x < next) (e ∷ before)
  past_on e before next w ws is stands =
      let less = known_number before next w stands.past (All-head (WaitingStands tables devices receivers before) w ws stands.all) in
      All-cons (λ (x : Happening). number_of x < next) e before (omega (arith, less, is)) stands.past

  -- each other that has receivers left is one of the others
  kept_other : (e : Happening) (before : List Happening) (w : Waiting) (ws : List Waiting) → number_of e ≡ w.number → ((n : ℕ) → left_in n before ≢ [] → IsKept (w ∷ ws) n) → (n : ℕ) → n ≢ w.number → left_in n (e ∷ before) ≢ [] → IsKept ws n
  kept_other e before w ws is kept n never some =
      let v = kept n (λ none. some (left_other n e before (λ same. never (same ∙ is)) ∙ none)) in
      (v.0, in_tail w v.0 ws v.1 (λ same. never (sym v.2 ∙ ap (λ (z : Waiting). z.number) same)), v.2)

  kept_first : (e : Happening) (before : List Happening) (w : Waiting) (receiver : ℕ) (left : List ℕ) (ws : List Waiting) → number_of e ≡ w.number → w.left ≡ receiver ∷ left → left_in w.number (e ∷ before) ≡ drop 1 (left_in w.number before)
      → left_in w.number before ≡ w.left → ((n : ℕ) → left_in n before ≢ [] → IsKept (w ∷ ws) n) → (n : ℕ) → left_in n (e ∷ before) ≢ [] → IsKept (with_left w left ws) n
  kept_first e before w receiver [] ws is left_is turn stood kept n some = elim (eqb_tells n w.number) [
    | inl (test, same) ↦ absurd (some (ap (λ (m : ℕ). left_in m (e ∷ before)) same ∙ turn ∙ ap (λ (ns : List ℕ). drop 1 ns) (stood ∙ left_is)))
    | inr (test, different) ↦ kept_other e before w ws is kept n different some
  ]
  kept_first e before w receiver (k ∷ ks) ws is left_is turn stood kept n some = elim (eqb_tells n w.number) [
    | inl (test, same) ↦ (waiting w.number w.device w.datagram (k ∷ ks), latest (waiting w.number w.device w.datagram (k ∷ ks)) ws, sym same)
    | inr (test, different) ↦
        let v = kept_other e before w ws is kept n different some in
        (v.0, later v.0 (waiting w.number w.device w.datagram (k ∷ ks)) ws v.1, v.2)
  ]

  pub queue_goes_on : (e : Happening) (before : List Happening) (next : ℕ) (w : Waiting) (receiver : ℕ) (left : List ℕ) (ws : List Waiting) → number_of e ≡ w.number → w.left ≡ receiver ∷ left → left_in w.number (e ∷ before) ≡ drop 1 (left_in w.number before)
      → QueueStands tables devices receivers before next (w ∷ ws) → QueueStands tables devices receivers (e ∷ before) next (with_left w left ws)
  queue_goes_on e before next w receiver [] ws is left_is turn stands = record {
    all = gone e before next w ws is stands;
    kept = kept_first e before w receiver [] ws is left_is turn (All-head (WaitingStands tables devices receivers before) w ws stands.all).left stands.kept;
    rise = pairs_tail (λ (a b : Waiting). a.number < b.number) w ws stands.rise;
    past = past_on e before next w ws is stands;
  }
  queue_goes_on e before next w receiver (n ∷ ns) ws is left_is turn stands =
      let first = All-head (WaitingStands tables devices receivers before) w ws stands.all in record {
        all = All-cons (WaitingStands tables devices receivers (e ∷ before)) (waiting w.number w.device w.datagram (n ∷ ns)) ws (record {
          to = first.to;
          is_taken = later (taken w.number w.device w.datagram first.to) e before first.is_taken;
          left = turn ∙ ap (λ (ns : List ℕ). drop 1 ns) (first.left ∙ left_is);
          may = All-tail (MayBeSent tables devices receivers w.device w.datagram) receiver (n ∷ ns) (subst (λ (ns : List ℕ). All (MayBeSent tables devices receivers w.device w.datagram) ns) left_is first.may);
        }) (gone e before next w ws is stands);
        kept = kept_first e before w receiver (n ∷ ns) ws is left_is turn first.left stands.kept;
        rise = pairs_cons (λ (a b : Waiting). a.number < b.number) (waiting w.number w.device w.datagram (n ∷ ns)) ws (pairs_head (λ (a b : Waiting). a.number < b.number) w ws stands.rise)
            (pairs_tail (λ (a b : Waiting). a.number < b.number) w ws stands.rise);
        past = past_on e before next w ws is stands;
      }

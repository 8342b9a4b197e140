-- What is known of the Informs that wait, as more happens.
use Rattle.std.specs.Prelude.{◌≡◌, ◌≢◌, ◌<◌, ◌≤◌, ◌+◌, ◌-◌, ℕ, zero, suc, Bool, List, [], ◌∷◌, ◌++◌, All, AllPairs, Contains, MatchBool, None, Option, Some, true, false, length, remove, slice_get, slice_index_or, slice_set}
use Rattle.std.specs.FinMap as map
use Rattle.std.proofs.Common.{refl, sym, ap, subst, ◌∙◌, inl, inr, arith, length-append}
use Rattle.std.proofs.lemmas.Bool.{cases_lt}
use Rattle.std.proofs.lemmas.Bool.Decides.{eqb_tells}
use Rattle.std.proofs.lemmas.List.{get_or-set_other, get_or-set_same, length-set}
use Rattle.std.proofs.lemmas.List.Edits.{get_or-remove_above, get_or-remove_below, length-remove}
use Rattle.std.proofs.lemmas.List.Elements.{All-cons, All-contains, All-push, All-weaker, Contains-append_cases, Contains-append_left, Contains-append_right, Contains-push, Contains-push_cases}
use Rattle.std.proofs.lemmas.List.Quantifiers.{all_pairs_push, all_pairs_remove}
use Rattle.std.proofs.lemmas.Option.{same_Some, slice_get_within}
use Rattle.snmp_gate.proofs.Pairs.{pairs_set}
use Rattle.snmp_requests.specs.Outstanding.{IsAdded, IsEnded, IsFreeToken, Outstanding, Waits, message_id_of, without}
use Rattle.snmp_requests.specs.declared.outstanding.OutstandingRequest.{OutstandingRequest}
use Rattle.snmp_requests.proofs.Maps.{at_insert, at_remove, insert_here, remove_apart}
use Rattle.snmp_manager.specs.declared.pending.Pending.{Pending}
use Rattle.snmp_forward.specs.ExchangeRuns.{ExchangeStep, IsExchangeRun}
use Rattle.snmp_forward.specs.InformHistory.{InformHappening, InformKnown, StandsAt, begins, inform_of, known_after, known_of, nothing_known}
use Rattle.snmp_forward.specs.InformStanding.{HasRequest, InformStands, InformsStand, IsAt, IsKept, IsSameElse, IsStill, KeepsOthers, KeepsRequests}
use Rattle.snmp_forward.specs.WaitingInforms.{IsNewInform}
use Rattle.snmp_requests.specs.DeviceRequests.{Begins}
use Rattle.snmp_requests.specs.declared.device_request.SentMessage.TheVariants.{Discovery}
use Rattle.snmp_forward.specs.declared.exchange.InformExchange.{InformExchange}
use Rattle.snmp_forward.specs.declared.exchange.InformLimits.{InformLimits}
use Rattle.snmp_forward.specs.declared.inform.Inform.{Inform}
use Rattle.snmp_forward.specs.declared.informs.Informs.{Informs}
use Rattle.snmp_forward.specs.declared.waiting_inform.WaitingInform.{WaitingInform}
use Rattle.snmp_forward.proofs.Keeping.{latest, other, same}

-- ---- the requests that wait

pub keeps_all : (requests : Outstanding) → KeepsRequests requests requests
keeps_all requests = record { later = omega arith; same = λ token r given there is. there }

pub keeps_without : (requests : Outstanding) (id : ℕ) → KeepsRequests requests (without requests id)
keeps_without requests id = record { later = omega arith; same = λ token r given there is. (at_remove requests.requests id (message_id_of token) r there).1 }

pub keeps_on : (a b c : Outstanding) → KeepsRequests a b → KeepsRequests b c → KeepsRequests a c
keeps_on a b c first second = record {
  later = omega (arith, first.later, second.later);
  same = λ token r given there is. first.same token r given (second.same token r (omega (arith, given, first.later)) there is) is;
}

pub keeps_added : (old : Outstanding) (token : ℕ) (pending : Pending) (new : Outstanding) → IsFreeToken old token → IsAdded old token pending new → KeepsRequests old new
keeps_added old token pending new free added = subst (KeepsRequests old) (sym added.new_is) (record {
  later = omega (arith, free.new);
  same = λ t r given there is. elim (at_insert old.requests (message_id_of token) added.request (message_id_of t) r there) [
    | inl (here, same) ↦
        let own : t ≡ token = sym is ∙ ap (λ (x : OutstandingRequest). x.token) same ∙ added.request_is.token_is in
        absurd (omega (arith, own, given, free.new))
    | inr before ↦ before
  ];
})

pub keeps_given_up : (old new : Outstanding) (token : ℕ) (result : Bool) → MatchBool result (IsEnded old token new) ((¬ Waits old token) × (new ≡ old)) → KeepsRequests old new
keeps_given_up old new token true ended = subst (KeepsRequests old) (sym ended.new_is) (keeps_without old (message_id_of token))
keeps_given_up old new token false none = subst (KeepsRequests old) (sym none.1) (keeps_all old)

pub keeps_others : (old new : Outstanding) (token : ℕ) (result : Bool) → MatchBool result (IsEnded old token new) ((¬ Waits old token) × (new ≡ old)) → KeepsOthers old (Some token) new
keeps_others old new token true ended = λ t r differs there is.
    let apart : message_id_of t ≢ message_id_of token = λ same.
    let one : r ≡ ended.was.request = same_Some r ended.was.request (sym there ∙ ap (map.get old.requests) same ∙ ended.was.there) in
    differs (ap Some (sym ended.was.token_is ∙ ap (λ (x : OutstandingRequest). x.token) (sym one) ∙ is)) in
    ap (λ (all : Outstanding). map.get all.requests (message_id_of t)) ended.new_is ∙ remove_apart old.requests (message_id_of token) (message_id_of t) apart ∙ there
keeps_others old new token false none = λ t r differs there is. ap (λ (all : Outstanding). map.get all.requests (message_id_of t)) none.1 ∙ there

-- one more waits, and others may not
pub added_there : (old : Outstanding) (token : ℕ) (pending : Pending) (middle new : Outstanding) (other : Option ℕ) → IsAdded old token pending middle → KeepsOthers middle other new → other ≢ Some token → HasRequest new token pending
added_there old token pending middle new other added keeps differs =
    let at : map.get middle.requests (message_id_of token) ≡ Some added.request =
    ap (λ (all : Outstanding). map.get all.requests (message_id_of token)) added.new_is ∙ insert_here old.requests (message_id_of token) added.request in record {
      request = added.request;
      there = keeps token added.request differs at added.request_is.token_is;
      token_is = added.request_is.token_is;
      pending_is = added.request_is.pending_is;
    }

pub added_waits : (old : Outstanding) (token : ℕ) (pending : Pending) (middle new : Outstanding) → IsAdded old token pending middle → KeepsRequests middle new → (r : OutstandingRequest) → map.get new.requests (message_id_of token) ≡ Some r → r.token ≡ token
    → r.pending ≡ pending
added_waits old token pending middle new added keeps r there is =
    let next : middle.next ≡ token + 1 = ap (λ (all : Outstanding). all.next) added.new_is in
    let before = keeps.same token r (omega (arith, next)) there is in
    let at : map.get middle.requests (message_id_of token) ≡ Some added.request =
    ap (λ (all : Outstanding). map.get all.requests (message_id_of token)) added.new_is ∙ insert_here old.requests (message_id_of token) added.request in
    ap (λ (x : OutstandingRequest). x.pending) (same_Some r added.request (sym before ∙ at)) ∙ added.request_is.pending_is

pub added_given : (old : Outstanding) (token : ℕ) (pending : Pending) (middle new : Outstanding) → IsAdded old token pending middle → KeepsRequests middle new → token < new.next
added_given old token pending middle new added keeps = omega (arith, keeps.later, ap (λ (all : Outstanding). all.next) added.new_is)

-- ---- lists

pub read_at : {A : Type 0} (xs : List A) (n : ℕ) (x d : A) → slice_get xs n ≡ Some x → slice_index_or xs n d ≡ x
read_at [] n x d is = absurd (cc is)
read_at (y ∷ ys) zero x d is = same_Some y x is
read_at (y ∷ ys) (suc n) x d is = read_at ys n x d is

-- all but the one at this place have Q
abbrev pub Others : {A : Type 0} → (A → Type 0) → List A → ℕ → Type 0
Others {A} Q xs place = (k : ℕ) (d : A) → k < length xs → k ≢ place → Q (slice_index_or xs k d)

all_set : {A : Type 0} (Q : A → Type 0) (xs : List A) (place : ℕ) (y : A) → place < length xs → Others Q xs place → Q y → All Q (slice_set xs place y)
all_set Q xs place y within others has k d short =
    let long : k < length xs = omega (arith, length-set xs place y, short) in
    elim (eqb_tells k place) [
      | inl (test, at) ↦ subst Q (sym (ap (λ (i : ℕ). slice_index_or (slice_set xs place y) i d) at ∙ get_or-set_same xs place y d within)) has
      | inr (test, off) ↦ subst Q (sym (get_or-set_other xs place k y d off)) (others k d long off)
    ]

all_gone : {A : Type 0} (Q : A → Type 0) (xs : List A) (place : ℕ) → place < length xs → Others Q xs place → All Q (remove xs place)
all_gone Q xs place within others k d short =
    let long = length-remove xs place within in
    elim (cases_lt k place) [
      | inl less ↦ subst Q (sym (get_or-remove_below xs place d k less within)) (others k d (omega (arith, less, within)) (omega (arith, less)))
      | inr least ↦ subst Q (sym (get_or-remove_above xs place d k least within)) (others (k + 1) d (omega (arith, short, long)) (omega (arith, least)))
    ]

pub remove_set : {A : Type 0} (xs : List A) (place : ℕ) (y : A) → remove (slice_set xs place y) place ≡ remove xs place
remove_set [] place y = refl
remove_set (x ∷ xs) zero y = refl
remove_set (x ∷ xs) (suc place) y = ap (λ (zs : List _). x ∷ zs) (remove_set xs place y)

-- ---- those that are kept

pub not_kept_twice : true ≡ false → ⊥
not_kept_twice e = cc e

module _ (xs : List WaitingInform) (place : ℕ) (w : WaitingInform) (at : slice_get xs place ≡ Some w) (n : ℕ) (differs : n ≢ w.number) where
  -- another one is at another place
  other_place : (x : WaitingInform) (k : ℕ) → slice_index_or xs k x ≡ x → x.number ≡ n → k ≢ place
  other_place x k is number same =
      let here : x ≡ w = sym is ∙ ap (λ (i : ℕ). slice_index_or xs i x) same ∙ read_at xs place w x at in
      differs (sym number ∙ ap (λ (z : WaitingInform). z.number) here)

  kept_set : (y : WaitingInform) → IsKept xs n → IsKept (slice_set xs place y) n
  kept_set y (x, (k, short, is), number) = (x, (k, omega (arith, short, length-set xs place y), get_or-set_other xs place k y x (other_place x k is number) ∙ is), number)

  kept_gone : place < length xs → IsKept xs n → IsKept (remove xs place) n
  kept_gone within (x, (k, short, is), number) =
      let long = length-remove xs place within in
      let off = other_place x k is number in
      elim (cases_lt k place) [
        | inl less ↦ (x, (k, omega (arith, less, within, long), get_or-remove_below xs place x k less within ∙ is), number)
        | inr least ↦
            let more : (k - 1) + 1 ≡ k = omega (arith, least, off) in
            (x, (k - 1, omega (arith, short, long, least, off), get_or-remove_above xs place x (k - 1) (omega (arith, least, off)) within ∙ ap (λ (i : ℕ). slice_index_or xs i x) more ∙ is), number)
      ]

kept_more : (xs : List WaitingInform) (w : WaitingInform) (n : ℕ) → IsKept xs n → IsKept (xs ++ w ∷ []) n
kept_more xs w n (x, there, number) = (x, Contains-append_left xs (w ∷ []) x there, number)

-- what happened was the latest, or before
earlier : (e x : InformHappening) (before : List InformHappening) → (e ≡ x → ⊥) → Contains (e ∷ before) x → Contains before x
earlier e x before never there = elim (Contains-append_cases (e ∷ []) before x there) [
  | inl now ↦ elim (Contains-push_cases [] e x now) [
    | inl none ↦ absurd (omega (arith, none.1))
    | inr is ↦ absurd (never is)
  ]
  | inr then ↦ then
]

-- ---- what is known of an Inform

pub later : {A : Type 0} (x y : A) (xs : List A) → Contains xs x → Contains (y ∷ xs) x
later x y xs there = Contains-append_right (y ∷ []) xs x there

pub known_other : (n : ℕ) (e : InformHappening) (before : List InformHappening) → n ≢ inform_of e → known_of n (e ∷ before) ≡ known_of n before
known_other n e before never = other n (inform_of e) (known_after e (known_of n before)) (known_of n before) never

pub known_same : (n : ℕ) (e : InformHappening) (before : List InformHappening) → n ≡ inform_of e → known_of n (e ∷ before) ≡ known_after e (known_of n before)
known_same n e before is = subst (λ (m : ℕ). known_of m (e ∷ before) ≡ known_after e (known_of m before)) (sym is) (same (inform_of e) (known_after e (known_of (inform_of e) before)) (known_of (inform_of e) before))

module _ (limits : InformLimits) where
  at_on : (e : InformHappening) (before : List InformHappening) (n : ℕ) (i : Inform) (x : InformExchange) → n ≢ inform_of e → StandsAt limits before n i x → StandsAt limits (e ∷ before) n i x
  at_on e before n i x never at =
      let known = known_other n e before never in record {
        is_begun = later (begins n i) e before at.is_begun;
        not_over = ap (λ (k : InformKnown). k.over) known ∙ at.not_over;
        first = at.first;
        begun = at.begun;
        anew = at.anew;
        run = subst (λ (steps : List ExchangeStep). IsExchangeRun limits at.first steps x) (sym (ap (λ (k : InformKnown). k.steps) known)) at.run;
      }

  -- what happens to one Inform changes nothing of another, as long as no other request is found under its token
  stands_on : (e : InformHappening) (before : List InformHappening) (old new : Outstanding) (w : WaitingInform) → w.number ≢ inform_of e → KeepsRequests old new → InformStands limits old before w → InformStands limits new (e ∷ before) w
  stands_on e before old new w never keeps stands =
      let known = known_other w.number e before never in record {
        at = at_on e before w.number w.inform w.exchange never stands.at;
        engine = ap (λ (k : InformKnown). k.engine) known ∙ stands.engine;
        located = stands.located;
        waits = λ token is. let wait = stands.waits token is in record {
          given = omega (arith, wait.given, keeps.later);
          own = λ r there of. let own = wait.own r (keeps.same token r wait.given there of) of in record {
            message = own.message;
            is_asked = ap (λ (k : InformKnown). k.asked) known ∙ own.is_asked;
            is_sent = own.is_sent;
          };
          id = λ r there of. wait.id r (keeps.same token r wait.given there of) of;
        };
      }

  pub stands_still : (before : List InformHappening) (old new : Outstanding) (w : WaitingInform) → KeepsRequests old new → InformStands limits old before w → InformStands limits new before w
  stands_still before old new w keeps stands = record {
    at = stands.at;
    engine = stands.engine;
    located = stands.located;
    waits = λ token is. let wait = stands.waits token is in record {
      given = omega (arith, wait.given, keeps.later);
      own = λ r there of. wait.own r (keeps.same token r wait.given there of) of;
      id = λ r there of. wait.id r (keeps.same token r wait.given there of) of;
    };
  }

-- nothing happens
pub still : (old new : Informs) (before : List InformHappening) → new.limits ≡ old.limits → new.most ≡ old.most → new.next ≡ old.next → new.list.items ≡ old.list.items → KeepsRequests old.requests new.requests
    → InformsStand before old → InformsStand before new
still old new before limits most next list keeps stands =
    let all = All-weaker (InformStands old.limits old.requests before) (InformStands old.limits new.requests before) (λ w is. stands_still old.limits before old.requests new.requests w keeps is) old.list.items stands.all in record {
      all = subst (λ (l : InformLimits). All (InformStands l new.requests before) new.list.items) (sym limits) (subst (All (InformStands old.limits new.requests before)) (sym list) all);
      kept = λ n i there over. subst (λ (ws : List WaitingInform). IsKept ws n) (sym list) (stands.kept n i there over);
      rise = subst (AllPairs (λ (a b : WaitingInform). a.number < b.number)) (sym list) stands.rise;
      past = subst (λ (n : ℕ). All (λ (e : InformHappening). inform_of e < n) before) (sym next) stands.past;
      few = subst (λ (ws : List WaitingInform). length ws ≤ new.most) (sym list) (subst (λ (n : ℕ). length old.list.items ≤ n) (sym most) stands.few);
    }

pub nothing_happens : (old new : Informs) (before : List InformHappening) → new.limits ≡ old.limits → new.most ≡ old.most → new.next ≡ old.next → new.list.items ≡ old.list.items → KeepsRequests old.requests new.requests
    → InformsStand before old → IsStill old before new
nothing_happens old new before limits most next list keeps stands = record { list = list; stands = still old new before limits most next list keeps stands }

-- the number of each that waits is less than that of the next one, since it has begun
number_known : (limits : InformLimits) (before : List InformHappening) (next n : ℕ) (i : Inform) (x : InformExchange) → All (λ (e : InformHappening). inform_of e < next) before → StandsAt limits before n i x → n < next
number_known limits before next n i x past at = All-contains (λ (e : InformHappening). inform_of e < next) before (begins n i) past at.is_begun

module _ (old new : Informs) (before : List InformHappening) (e : InformHappening) (place : ℕ) (w : WaitingInform) (is_same : IsSameElse old new) (at : IsAt old place w) (of : inform_of e ≡ w.number) (keeps : KeepsRequests old.requests new.requests)
    (stands : InformsStand before old) where
  within : place < length old.list.items
  within = slice_get_within old.list.items place w at

  -- the others have other numbers
  others_differ : Others (λ (x : WaitingInform). x.number ≢ inform_of e) old.list.items place
  others_differ k d short off same =
      let here : slice_index_or old.list.items place d ≡ w = read_at old.list.items place w d at in
      let number : (slice_index_or old.list.items place d).number ≡ w.number = ap (λ (x : WaitingInform). x.number) here in
      elim (cases_lt k place) [
        | inl less ↦ let rise = stands.rise k place d less within in absurd (omega (arith, rise, number, same, of))
        | inr least ↦ let rise = stands.rise place k d (omega (arith, least, off)) short in absurd (omega (arith, rise, number, same, of))
      ]

  others_stand : Others (InformStands new.limits new.requests (e ∷ before)) old.list.items place
  others_stand k d short off = subst (λ (l : InformLimits). InformStands l new.requests (e ∷ before) (slice_index_or old.list.items k d)) (sym is_same.limits)
      (stands_on old.limits e before old.requests new.requests (slice_index_or old.list.items k d) (others_differ k d short off) keeps (stands.all k d short))

  pub it_stands : InformStands old.limits old.requests before w
  it_stands = subst (InformStands old.limits old.requests before) (read_at old.list.items place w w at) (stands.all place w within)

  past_on : All (λ (x : InformHappening). inform_of x < new.next) (e ∷ before)
  past_on =
      let less = number_known old.limits before old.next w.number w.inform w.exchange stands.past it_stands.at in
      subst (λ (n : ℕ). All (λ (x : InformHappening). inform_of x < n) (e ∷ before)) (sym is_same.next) (All-cons (λ (x : InformHappening). inform_of x < old.next) e before (omega (arith, less, of)) stands.past)

  -- another one was kept before
  kept_before : (n : ℕ) (i : Inform) → n ≢ w.number → Contains (e ∷ before) (begins n i) → (known_of n (e ∷ before)).over ≡ false → IsKept old.list.items n
  kept_before n i differs there over =
      let never : n ≢ inform_of e = λ is. differs (is ∙ of) in
      let then = earlier e (begins n i) before (λ is. never (sym (ap inform_of is))) there in
      stands.kept n i then (sym (ap (λ (k : InformKnown). k.over) (known_other n e before never)) ∙ over)

  -- the Inform is another one now
  pub goes_on : (y : WaitingInform) → y.number ≡ w.number → new.list.items ≡ slice_set old.list.items place y → InformStands old.limits new.requests (e ∷ before) y → InformsStand (e ∷ before) new
  goes_on y number list is =
      let there : w ≡ slice_index_or old.list.items place w = sym (read_at old.list.items place w w at) in record {
        all = subst (All (InformStands new.limits new.requests (e ∷ before))) (sym list) (all_set (InformStands new.limits new.requests (e ∷ before)) old.list.items place y within others_stand
            (subst (λ (l : InformLimits). InformStands l new.requests (e ∷ before) y) (sym is_same.limits) is));
        kept = λ n i known over. subst (λ (ws : List WaitingInform). IsKept ws n) (sym list) (elim (eqb_tells n w.number) [
          | inl (test, one) ↦ (y, (place, omega (arith, within, length-set old.list.items place y), get_or-set_same old.list.items place y y within), number ∙ sym one)
          | inr (test, differs) ↦ kept_set old.list.items place w at n differs y (kept_before n i differs known over)
        ]);
        rise = subst (AllPairs (λ (a b : WaitingInform). a.number < b.number)) (sym list)
            (pairs_set (λ (a b : WaitingInform). a.number < b.number) old.list.items place w y within there (λ x less. omega (arith, less, number)) (λ x less. omega (arith, less, number)) stands.rise);
        past = past_on;
        few = let long = length-set old.list.items place y in omega (arith, stands.few, long, is_same.most, ap length list);
      }

  -- the Inform is gone, which has ended
  pub goes_off : new.list.items ≡ remove old.list.items place → (known_of w.number (e ∷ before)).over ≡ true → InformsStand (e ∷ before) new
  goes_off list ended = record {
    all = subst (All (InformStands new.limits new.requests (e ∷ before))) (sym list) (all_gone (InformStands new.limits new.requests (e ∷ before)) old.list.items place within others_stand);
    kept = λ n i known over. subst (λ (ws : List WaitingInform). IsKept ws n) (sym list) (elim (eqb_tells n w.number) [
      | inl (test, one) ↦ absurd (not_kept_twice (sym ended ∙ ap (λ (m : ℕ). (known_of m (e ∷ before)).over) (sym one) ∙ over))
      | inr (test, differs) ↦ kept_gone old.list.items place w at n differs within (kept_before n i differs known over)
    ]);
    rise = subst (AllPairs (λ (a b : WaitingInform). a.number < b.number)) (sym list) (all_pairs_remove (λ (a b : WaitingInform). a.number < b.number) old.list.items place within stands.rise);
    past = past_on;
    few = let long = length-remove old.list.items place within in omega (arith, stands.few, long, is_same.most, ap length list);
  }

-- one more waits from now on
pub comes : (old new : Informs) (before : List InformHappening) (i : Inform) (w : WaitingInform) → new.limits ≡ old.limits → new.most ≡ old.most → new.requests ≡ old.requests → new.next ≡ old.next + 1 → w.number ≡ old.next
    → new.list.items ≡ old.list.items ++ w ∷ [] → length old.list.items < old.most → InformStands old.limits old.requests (begins old.next i ∷ before) w → InformsStand before old → InformsStand (begins old.next i ∷ before) new
comes old new before i w limits most requests next number list room is stands =
    let e = begins old.next i in
    let known : All (λ (x : WaitingInform). x.number < old.next) old.list.items = All-weaker (InformStands old.limits old.requests before) (λ (x : WaitingInform). x.number < old.next)
    (λ x known. number_known old.limits before old.next x.number x.inform x.exchange stands.past known.at) old.list.items stands.all in
    let on : All (InformStands old.limits old.requests (e ∷ before)) old.list.items = λ k d short.
    stands_on old.limits e before old.requests old.requests (slice_index_or old.list.items k d) (let less = known k d short in omega (arith, less)) (keeps_all old.requests) (stands.all k d short) in record {
      all = subst (λ (l : InformLimits). All (InformStands l new.requests (e ∷ before)) new.list.items) (sym limits)
          (subst (λ (r : Outstanding). All (InformStands old.limits r (e ∷ before)) new.list.items) (sym requests)
          (subst (All (InformStands old.limits old.requests (e ∷ before))) (sym list) (All-push (InformStands old.limits old.requests (e ∷ before)) old.list.items w on is)));
      kept = λ n j there over. subst (λ (ws : List WaitingInform). IsKept ws n) (sym list) (elim (eqb_tells n old.next) [
        | inl (test, one) ↦ (w, Contains-push old.list.items w, number ∙ sym one)
        | inr (test, differs) ↦
            let then = earlier e (begins n j) before (λ is. differs (sym (ap inform_of is))) there in
            kept_more old.list.items w n (stands.kept n j then (sym (ap (λ (k : InformKnown). k.over) (known_other n e before differs)) ∙ over))
      ]);
      rise = subst (AllPairs (λ (a b : WaitingInform). a.number < b.number)) (sym list)
          (all_pairs_push (λ (a b : WaitingInform). a.number < b.number) old.list.items w stands.rise (λ k d short. let less = known k d short in omega (arith, less, number)));
      past = subst (λ (n : ℕ). All (λ (x : InformHappening). inform_of x < n) (e ∷ before)) (sym next)
          (All-cons (λ (x : InformHappening). inform_of x < old.next + 1) e before (omega arith) (All-weaker (λ (x : InformHappening). inform_of x < old.next) (λ (x : InformHappening). inform_of x < old.next + 1) (λ x less. omega (arith, less)) before stands.past));
      few = let long = length-append old.list.items (w ∷ []) in omega (arith, room, long, most, ap length list);
    }

-- nothing was sent of one that begins
pub begins_well : (limits : InformLimits) (requests : Outstanding) (before : List InformHappening) (n : ℕ) (i : Inform) (w : WaitingInform) → IsNewInform n i w → InformStands limits requests (begins n i ∷ before) w
begins_well limits requests before n i w new =
    let known : known_of w.number (begins n i ∷ before) ≡ nothing_known = known_same w.number (begins n i) before new.number_is in record {
      at = record {
        is_begun = subst (λ (m : ℕ). Contains (begins n i ∷ before) (begins m w.inform)) (sym new.number_is) (subst (λ (j : Inform). Contains (begins n i ∷ before) (begins n j)) (sym new.inform_is) (latest (begins n i) before));
        not_over = ap (λ (k : InformKnown). k.over) known;
        first = w.exchange;
        begun = subst (λ (j : Inform). Begins j.level Discovery w.exchange.request) (sym new.inform_is) new.begins;
        anew = new.times;
        run = subst (λ (steps : List ExchangeStep). IsExchangeRun limits w.exchange steps w.exchange) (sym (ap (λ (k : InformKnown). k.steps) known)) refl;
      };
      engine = ap (λ (k : InformKnown). k.engine) known ∙ sym new.engine;
      located = λ m is never. absurd (never (sym (same_Some Discovery m (sym new.begins.sent.sent_is ∙ is))));
      waits = λ token is. let wrong : None ≡ Some token = sym new.token ∙ is in cc wrong;
    }

pub few_of : (most len : ℕ) → (most ≤ len → ⊥) → len < most
few_of most len never = elim (cases_lt len most) [
  | inl less ↦ less
  | inr full ↦ absurd (never full)
]

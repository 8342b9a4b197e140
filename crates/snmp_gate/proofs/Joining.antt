-- What is known of the requests that wait, when a message comes.
use Rattle.std.specs.Prelude.{◌≡◌, ◌≢◌, ◌<◌, ◌≤◌, ℕ, suc, List, [], ◌∷◌, ◌++◌, All, Contains, Some}
use Rattle.std.proofs.Common.{refl, sym, ap, subst, inl, inr, ◌∙◌, length, slice_index_or, arith}
use Rattle.std.proofs.lemmas.List.Elements.{All-cons, All-contains_itself, All-head, All-nil, All-push, All-tail, All-weaker}
use Rattle.vacm_core.specs.Tables.{Tables}
use Rattle.snmp_gate.specs.Beginning.{BeginsWell}
use Rattle.snmp_gate.specs.Bounds.{IsNew}
use Rattle.snmp_gate.specs.Groups.{IsJoined, begun, group_of, groups_of, with_messages}
use Rattle.snmp_gate.specs.History.{Happening, IsAccepted, accepted, asked, number_of, told_in, waiting_in}
use Rattle.snmp_gate.specs.Lawful.{IsInTurn, WasAsked}
use Rattle.snmp_gate.specs.Limits.{asks_since}
use Rattle.snmp_gate.specs.Messages.{question_in}
use Rattle.snmp_gate.specs.Question.{Question}
use Rattle.snmp_gate.specs.Sending.{Requests}
use Rattle.snmp_gate.specs.Waiting.{GroupStands, GroupsStand, WorkStands}
use Rattle.snmp_gate.specs.declared.devices.Device.{Device}
use Rattle.snmp_gate.specs.declared.requests.Joined.TheVariants.{Joined}
use Rattle.snmp_gate.specs.declared.requests.WaitingRequest.{WaitingRequest}
use Rattle.snmp_gate.specs.declared.waiting_message.WaitingMessage.{WaitingMessage}
use Rattle.snmp_gate.specs.declared.work.Work.{Work}
use Rattle.snmp_gate.specs.declared.work.Work.TheVariants.{Open, Ends}
use Rattle.snmp_gate.proofs.GroupSteps.{group_at}
use Rattle.snmp_gate.proofs.Histories.{CameBy, Waiting, all_set, below_next, group_in, later, numbered_set, numbers_back, others_later, past_later, work_later}
use Rattle.snmp_gate.specs.Said.{IsUnasked, Said}
use Rattle.snmp_gate.proofs.Others.{none_told, ask_later, chosen, contains_cons, none_asked, none_happened, none_waits, wait_other, was_before}
use Rattle.snmp_gate.proofs.Questions.{numbered_begun}
use Rattle.std.proofs.lemmas.List.{get_or_default}
use Rattle.snmp_gate.proofs.Asked.{none_is_some}

front_all : {X : Type 0} (P : X → Type 0) (xs ys : List X) → All P (xs ++ ys) → All P xs
front_all P [] ys all = All-nil P
front_all P (x ∷ xs) ys all = All-cons P x xs (All-head P x (xs ++ ys) all) (front_all P xs ys (All-tail P x (xs ++ ys) all))

last_all : {X : Type 0} (P : X → Type 0) (xs : List X) (y : X) → All P (xs ++ y ∷ []) → P y
last_all P [] y all = All-head P y [] all
last_all P (x ∷ xs) y all = last_all P xs y (All-tail P x (xs ++ y ∷ []) all)

is_accepted : (n at : ℕ) (datagram : List ℕ) (m : WaitingMessage) (before : List Happening) → IsAccepted (accepted n at datagram m ∷ before) n m
is_accepted n at datagram m before = record {
  now = at;
  datagram = datagram;
  there = All-head (Contains (accepted n at datagram m ∷ before)) (accepted n at datagram m) before (All-contains_itself (accepted n at datagram m ∷ before));
}

pub same_message : (n at : ℕ) (v : List ℕ) (m : WaitingMessage) (k then : ℕ) (w : List ℕ) (x : WaitingMessage) → accepted n at v m ≡ accepted k then w x → m ≡ x
same_message n at v m k then w x is = cc

same_moment : (n at : ℕ) (v : List ℕ) (m : WaitingMessage) (k then : ℕ) (w : List ℕ) (x : WaitingMessage) → accepted n at v m ≡ accepted k then w x → at ≡ then
same_moment n at v m k then w x is = cc

-- the request came by now, since one of its messages did
came_by : (tables : Tables) (devices : List Device) (before : List Happening) (n : ℕ) (q : Question) (at : ℕ) (w : Work) (m : WaitingMessage) → IsAccepted before n m
    → ((k then : ℕ) (v : List ℕ) (x : WaitingMessage) → Contains before (accepted k then v x) → then ≤ at) → WorkStands tables devices before n q w → CameBy at w
came_by tables devices before n q at (Open o) m taken past stands =
    let from = stands.came taken.now taken.datagram m taken.there in
    let by = past n taken.now taken.datagram m taken.there in omega (arith, from, by)
came_by tables devices before n q at (Ends e) m taken past stands = tt

pub joined_all : (tables : Tables) (devices : List Device) (before : List Happening) (next most : ℕ) (rs : Requests) (place : ℕ) (r : WaitingRequest WaitingMessage Work) (m : WaitingMessage) (new : List Waiting) (at : ℕ) (datagram : List ℕ)
    → place < length rs → r ≡ slice_index_or rs place r → question_in r.first ≡ question_in m → IsJoined most (groups_of rs) place m new Joined
    → ((k then : ℕ) (v : List ℕ) (x : WaitingMessage) → Contains before (accepted k then v x) → then ≤ at) → GroupsStand tables devices before next (groups_of rs) → GroupsStand tables devices (accepted r.number at datagram m ∷ before) next new
joined_all tables devices before next most rs place r m new at datagram within is asks joins past stands =
    let there = group_at rs place r within is in
    let g = joins.0 in
    let same : g ≡ group_of r = joins.1.group_is ∙ get_or_default (groups_of rs) place g (group_of r) there.within ∙ sym there.group_is in
    let now = accepted r.number at datagram m in
    let known : GroupStands tables devices before g = subst (GroupStands tables devices before) (sym joins.1.group_is) (stands.all place g joins.1.within) in
    let number = ap (λ (x : Waiting). x.number) same in
    let P : WaitingMessage → Type 0 = λ x. question_in x ≡ Some known.question in
    let first = All-head P r.first r.others.items (subst (λ (x : Waiting). All P x.messages) same known.asks) in
    let told = sym asks ∙ first in
    let new_stands : GroupStands tables devices (now ∷ before) (with_messages g (g.messages ++ m ∷ [])) = record {
      question = known.question;
      asks = All-push P g.messages m known.asks told;
      are_accepted = All-push (IsAccepted (now ∷ before) g.number) g.messages m
          (All-weaker (IsAccepted before g.number) (IsAccepted (now ∷ before) g.number) (later now before g.number) g.messages known.are_accepted)
          (subst (λ (n : ℕ). IsAccepted (now ∷ before) n m) (sym number) (is_accepted r.number at datagram m before));
      wait = subst (λ (n : ℕ). waiting_in g.number (accepted n at datagram m ∷ before) ≡ g.messages ++ m ∷ []) number
          (chosen g.number (waiting_in g.number before ++ m ∷ []) (waiting_in g.number before) ∙ ap (λ (ms : List WaitingMessage). ms ++ m ∷ []) known.wait);
      one = ask_later now before g.number known.question (λ then w x is. subst P (same_message r.number at datagram m g.number then w x is) told) known.one;
      work = work_later tables devices now before g.number known.question g.work refl refl refl (was_before now before g.number (λ d id vs w is. let wrong : accepted r.number at datagram m ≡ asked g.number d id vs w = is in cc))
          (λ then v x is. subst (λ (t : ℕ). CameBy t g.work) (same_moment r.number at datagram m g.number then v x is)
          (came_by tables devices before g.number known.question at g.work r.first
          (subst (λ (k : ℕ). IsAccepted before k r.first) (sym number) (All-head (IsAccepted before r.number) r.first r.others.items (subst (λ (x : Waiting). All (IsAccepted before x.number) x.messages) same known.are_accepted))) past known.work)) known.work;
    } in
    subst (GroupsStand tables devices (now ∷ before) next) (sym joins.3) (record {
      all = all_set (GroupStands tables devices before) (GroupStands tables devices (now ∷ before)) (groups_of rs) place g (with_messages g (g.messages ++ m ∷ [])) stands.numbered.rise joins.1 stands.all new_stands
          (λ x other it. others_later tables devices now before x (λ is. other (is ∙ sym number)) it);
      numbered = numbered_set next (groups_of rs) place g (with_messages g (g.messages ++ m ∷ [])) joins.1 refl stands.numbered;
      past = past_later now before next (subst (λ (n : ℕ). n < next) number (below_next next (groups_of rs) place g joins.1 stands.numbered)) stands.past;
      gone = λ n none.
          let back = numbers_back n (groups_of rs) place g (with_messages g (g.messages ++ m ∷ [])) joins.1 refl none in
          wait_other now before n (λ is. back.1 (is ∙ sym number)) ∙ stands.gone n back.0;
    })

-- the message that joins asks what all ask that wait
pub joins_in_turn : (tables : Tables) (devices : List Device) (before : List Happening) (next : ℕ) (rs : Requests) (place : ℕ) (r : WaitingRequest WaitingMessage Work) (m : WaitingMessage) (at : ℕ) (datagram : List ℕ)
    → place < length rs → r ≡ slice_index_or rs place r → question_in r.first ≡ question_in m → GroupsStand tables devices before next (groups_of rs) → IsInTurn before (accepted r.number at datagram m)
joins_in_turn tables devices before next rs place r m at datagram within is asks stands =
    let group = group_in tables devices before next (groups_of rs) place (group_of r) (group_at rs place r within is) stands in
    let P : WaitingMessage → Type 0 = λ x. question_in x ≡ Some group.question in
    let told = sym (All-head P r.first r.others.items group.asks) ∙ asks in
    subst (All (λ (x : WaitingMessage). question_in x ≡ question_in m)) (sym group.wait)
    (All-weaker P (λ (x : WaitingMessage). question_in x ≡ question_in m) (λ x one. one ∙ told) (r.first ∷ r.others.items) group.asks)

-- all accepted messages of the request at the place ask a Set, if its first does
pub request_asks : (tables : Tables) (devices : List Device) (before : List Happening) (next : ℕ) (rs : Requests) (place : ℕ) (r : WaitingRequest WaitingMessage Work) → place < length rs → r ≡ slice_index_or rs place r
    → GroupsStand tables devices before next (groups_of rs) → GroupStands tables devices before (group_of r)
request_asks tables devices before next rs place r within is stands = group_in tables devices before next (groups_of rs) place (group_of r) (group_at rs place r within is) stands

begins_well : (tables : Tables) (devices : List Device) (before : List Happening) (n : ℕ) (q : Question) (w : Work) → ¬ WasAsked before n → ((at : ℕ) (v : List ℕ) (m : WaitingMessage) → Contains before (accepted n at v m) → CameBy at w) → asks_since n before ≡ 0 → IsUnasked (told_in n before) → BeginsWell tables devices q w → WorkStands tables devices before n q w
begins_well tables devices before n q (Open o) never came since nothing well = record {
  task = well.0 (told_in n before) nothing;
  device = well.1;
  repetitions = well.3;
  asked = λ id is. absurd (none_is_some id (sym well.2 ∙ is));
  set_once = λ set none. never;
  came = came;
  unasked = λ none. since;
  tried = omega (arith, since);
}
begins_well tables devices before n q (Ends e) never came since nothing well = well (told_in n before) nothing

new_by : (at : ℕ) (w : Work) → IsNew at w → CameBy at w
new_by at (Open o) is = omega (arith, is.2)
new_by at (Ends e) is = tt

never_asked : (next at : ℕ) (datagram : List ℕ) (m : WaitingMessage) (before : List Happening) → All (λ (e : Happening). number_of e < next) before → ¬ WasAsked (accepted next at datagram m ∷ before) next
never_asked next at datagram m before past was =
    let old = was_before (accepted next at datagram m) before next (λ d id vs w is. let wrong : accepted next at datagram m ≡ asked next d id vs w = is in cc) was in
    none_happened before next (asked next old.device old.id old.request old.datagram) past old.there refl

pub begun_all : (tables : Tables) (devices : List Device) (before : List Happening) (next after : ℕ) (gs new : List Waiting) (m : WaitingMessage) (q : Question) (w : Work) (at : ℕ) (datagram : List ℕ) → question_in m ≡ Some q
    → BeginsWell tables devices q w → IsNew at w → new ≡ gs ++ begun next m w ∷ [] → after ≡ suc next → GroupsStand tables devices before next gs → GroupsStand tables devices (accepted next at datagram m ∷ before) after new
begun_all tables devices before next after gs new m q w at datagram asks well is_new new_is after_is stands =
    let now = accepted next at datagram m in
    let numbered = numbered_begun (λ (x : WaitingMessage). x) 0 0 next gs m w (record { below = stands.numbered.less; rise = stands.numbered.rise }) in
    subst (λ (xs : List Waiting). GroupsStand tables devices (now ∷ before) after xs) (sym new_is)
    (subst (λ (n : ℕ). GroupsStand tables devices (now ∷ before) n (gs ++ begun next m w ∷ [])) (sym after_is) (record {
      all = All-push (GroupStands tables devices (now ∷ before)) gs (begun next m w)
          (λ k d within. others_later tables devices now before (slice_index_or gs k d)
          (λ is. let lt = stands.numbered.less k d within in let same : (slice_index_or gs k d).number ≡ next = is in omega (arith, lt, same)) (stands.all k d within))
          (record {
            question = q;
            asks = All-cons (λ (x : WaitingMessage). question_in x ≡ Some q) m [] asks (All-nil (λ (x : WaitingMessage). question_in x ≡ Some q));
            are_accepted = All-cons (IsAccepted (now ∷ before) next) m [] (is_accepted next at datagram m before) (All-nil (IsAccepted (now ∷ before) next));
            wait = chosen next (waiting_in next before ++ m ∷ []) (waiting_in next before) ∙ ap (λ (ms : List WaitingMessage). ms ++ m ∷ []) (none_waits before next stands.past);
            one = ask_later now before next q (λ then v x is. subst (λ (y : WaitingMessage). question_in y ≡ Some q) (same_message next at datagram m next then v x is) asks)
                (λ then v x there. absurd (none_happened before next (accepted next then v x) stands.past there refl));
            work = begins_well tables devices (now ∷ before) next q w (never_asked next at datagram m before stands.past)
                (λ then v x there. elim (contains_cons now before (accepted next then v x) there) [
                  | inl is ↦ subst (λ (t : ℕ). CameBy t w) (same_moment next at datagram m next then v x is) (new_by at w is_new)
                  | inr old ↦ absurd (none_happened before next (accepted next then v x) stands.past old refl)
                ]) (none_asked before next stands.past) (ap (λ (said : Said). said.asked) (none_told before next stands.past)) well;
          });
      numbered = record { rise = numbered.rise; less = numbered.below };
      past = past_later now before (suc next) (omega arith) (All-weaker (λ (e : Happening). number_of e < next) (λ (e : Happening). number_of e < suc next) (λ e lt. omega (arith, lt)) before stands.past);
      gone = λ n none.
          let other : n ≢ next = λ is. last_all (λ (x : Waiting). x.number ≢ n) gs (begun next m w) none (sym is) in
          wait_other now before n other ∙ stands.gone n (front_all (λ (x : Waiting). x.number ≢ n) gs (begun next m w ∷ []) none);
    }))

-- a message that begins a request joins none
pub begins_in_turn : (before : List Happening) (next at : ℕ) (datagram : List ℕ) (m : WaitingMessage) → All (λ (e : Happening). number_of e < next) before → IsInTurn before (accepted next at datagram m)
begins_in_turn before next at datagram m past =
    subst (All (λ (x : WaitingMessage). question_in x ≡ question_in m)) (sym (none_waits before next past)) (All-nil (λ (x : WaitingMessage). question_in x ≡ question_in m))

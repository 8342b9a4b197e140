-- What is known of the requests that wait, as more happens.
use Rattle.std.specs.Prelude.{min, ◌≡◌, ◌≢◌, ◌⊎◌, ◌∷◌, ◌++◌, ◌+◌, ◌-◌, ◌^◌, ◌<◌, ◌≤◌, ⊤, ℕ, pos, Bool, cond, drop, remove, List, [], All, AllPairs, Contains, IfSome, Option, Some, None, length, map, slice_index_or, slice_set}
use Rattle.std.proofs.Common.{refl, sym, ap, subst, ◌∙◌, inl, inr, arith}
use Rattle.std.proofs.lemmas.Bool.Decides.{Decides-int_eq, eqb_tells, leb_tells}
use Rattle.std.proofs.lemmas.List.{get_or_default, get_or-set_other, get_or-set_same, length-set}
use Rattle.std.proofs.lemmas.List.Edits.{get_or-remove_above, get_or-remove_below, length-remove}
use Rattle.std.proofs.lemmas.List.Elements.{All-cons, All-contains_itself, All-head, All-tail, All-weaker, Contains-append_left, Contains-append_right, Contains-push, at_read}
use Rattle.snmp_msg.specs.Pdu.{PduParts, pdu_of}
use Rattle.snmp_msg.specs.Variables.{Variable, variables_of}
use Rattle.snmp_msg.specs.declared.pdu.Pdu.{Pdu}
use Rattle.vacm_core.specs.Tables.{Tables}
use Rattle.snmp_gate.specs.Said.{Exchange, Said}
use Rattle.snmp_gate.specs.Devices.{IsDeviceOf}
use Rattle.snmp_gate.specs.DeviceMessages.{IsDeviceAnswer}
use Rattle.std.specs.Global.{Vec}
use Rattle.std.specs.List.{HoldsAt}
use Rattle.snmp_agent.specs.Agent.{AgentState}
use Rattle.snmp_gate.specs.Groups.{Group, IsAnswered, IsAt, IsLeft, IsWorked, group_of, groups_of, with_messages, with_work}
use Rattle.snmp_gate.specs.Messages.{question_in}
use Rattle.snmp_incoming.specs.Outcome.{Given}
use Rattle.snmp_gate.specs.Replies.{Answering, ClientAnswer, IsAnswerTo, answer_with}
use Rattle.snmp_gate.specs.Sending.{IsGivenUp, IsOpenAt, MayAskAt, RepliesTo, Requests, SetsAsked, again_in}
use Rattle.snmp_gate.specs.declared.devices.Devices.{Devices}
use Rattle.snmp_gate.specs.declared.gate.Gate.{Gate}
use Rattle.snmp_gate.specs.declared.limits.GateLimits.{GateLimits}
use Rattle.snmp_gate.specs.declared.reply.Reply.{Reply}
use Rattle.snmp_gate.specs.declared.reply.Reply.TheVariants as reply
use Rattle.snmp_gate.specs.Taking.{IsCommunityOfTask, IsCommunityOfWork, WaitsFor, WorkAfter}
use Rattle.snmp_gate.specs.declared.task.Task.{Task}
use Rattle.snmp_gate.specs.declared.task.Task.TheVariants as task
use Rattle.snmp_walk.specs.declared.operation.ReadOperation.TheVariants.{Get, GetNext}
use Rattle.snmp_msg.specs.PduTypes.{pdu_tag}
use Rattle.snmp_msg.specs.declared.pdu_type.PduType.TheVariants.{GetRequest, GetNextRequest, SetRequest}
use Rattle.snmp_gate.specs.declared.named_task.NamedTask.{NamedTask}
use Rattle.snmp_gate.specs.declared.set_answer.TheConstants.{NO_ERROR, TOO_BIG}
use Rattle.snmp_gate.specs.declared.work.RequestEnd.{RequestEnd}
use Rattle.snmp_gate.specs.declared.work.RequestEnd.TheVariants as ending
use Rattle.std.proofs.lemmas.Bool.{false≢true}
use Rattle.snmp_gate.specs.declared.requests.WaitingRequest.{WaitingRequest}
use Rattle.snmp_gate.proofs.GroupSteps.{group_at, groups_set}
use Rattle.snmp_gate.specs.History.{AskedBy, Happening, IsAccepted, IsCauseFor, IsAnswerOf, IsCommunityFor, IsMediated, IsToldAgain, IsAskFor, OpenAsk, accepted, answered, asked, asked_more, ends_in, exchange_in, given_up, more_said, number_of, open_ask, said_by, sent, told_in, unanswered, waiting_in}
use Rattle.snmp_gate.specs.Lawful.{IsInTurn, IsNext, WasAsked}
use Rattle.snmp_gate.specs.Limits.{IsSilent, asks_since}
use Rattle.snmp_message.specs.declared.refusal.Refusal.{Refusal}
use Rattle.snmp_gate.specs.Question.{Question}
use Rattle.snmp_gate.specs.Time.{times_asked}
use Rattle.snmp_gate.specs.Waiting.{AllCameFrom, AreNumbered, CausesStand, EndsByCause, GroupStands, GroupsStand, OpenStands, RequestsStand, WorkStands}
use Rattle.snmp_gate.specs.ReadErrors.{too_big as too_big_error}
use Rattle.snmp_gate.specs.Work.{EndingStands, IsWhyOf, SaysAll, TaskStands, again_of, end_of, most_repetitions, request_of_task}
use Rattle.snmp_gate.specs.declared.devices.Device.{Device}
use Rattle.snmp_gate.specs.declared.waiting_message.WaitingMessage.{WaitingMessage}
use Rattle.snmp_gate.specs.declared.work.OpenRequest.{OpenRequest}
use Rattle.snmp_gate.specs.declared.work.Work.{Work}
use Rattle.snmp_gate.specs.declared.work.Work.TheVariants.{Open, Ends}
use Rattle.snmp_gate.proofs.Asked.{none_is_some}
use Rattle.gateway_laws.specs.Requests.{RequestPdu}
use Rattle.snmp_gate.proofs.Others.{ask_later, ask_other, chosen, contains_cons, open_other, same_number, since_other, told_other, wait_other, was_before, was_other}
use Rattle.snmp_gate.proofs.More.{HasAll, task_more}
use Rattle.snmp_gate.proofs.Repetitions.{task_repeats}
use Rattle.snmp_gate.proofs.Pairs.{pairs_set}
use Rattle.snmp_gate.proofs.Questions.{all_worked, at_place, numbered_left}
use Rattle.snmp_gate.proofs.Causing.{EndsNow}
use Rattle.snmp_gate.proofs.Whys.{answer_weaker, why_cause}
use Rattle.snmp_gate.proofs.Telling.{contains_map}

abbrev pub Waiting : Type 0
Waiting = Group WaitingMessage Work

-- ---- one more thing that happens

pub later : (e : Happening) (before : List Happening) (n : ℕ) (m : WaitingMessage) → IsAccepted before n m → IsAccepted (e ∷ before) n m
later e before n m is = record { now = is.now; datagram = is.datagram; there = Contains-append_right (e ∷ []) before _ is.there }

-- the request came by this moment
abbrev pub CameBy : ℕ → Work → Type 0
CameBy at (Open o) = o.timer.began ≤ at
CameBy at (Ends e) = ⊤

pub came_later : (e : Happening) (before : List Happening) (n began : ℕ) → ((at : ℕ) (v : List ℕ) (m : WaitingMessage) → e ≡ accepted n at v m → began ≤ at) → AllCameFrom before n began → AllCameFrom (e ∷ before) n began
came_later e before n began now came at v m there = elim (contains_cons e before (accepted n at v m) there) [ inl is ↦ now at v m is | inr old ↦ came at v m old ]

-- the same is known of the work, if as much was told and asked
pub work_later : (tables : Tables) (devices : List Device) (e : Happening) (before : List Happening) (n : ℕ) (q : Question) (w : Work) → told_in n (e ∷ before) ≡ told_in n before → open_ask n (e ∷ before) ≡ open_ask n before
    → asks_since n (e ∷ before) ≡ asks_since n before → (WasAsked (e ∷ before) n → WasAsked before n) → ((at : ℕ) (v : List ℕ) (m : WaitingMessage) → e ≡ accepted n at v m → CameBy at w) → WorkStands tables devices before n q w → WorkStands tables devices (e ∷ before) n q w
work_later tables devices e before n q (Open o) told ask since was came stands = record {
  task = subst (λ (vs : Said). TaskStands tables q vs o.task.task) (sym told) stands.task;
  device = stands.device;
  repetitions = stands.repetitions;
  asked = λ id is. ask ∙ stands.asked id is;
  set_once = λ set none asked. stands.set_once set none (was asked);
  came = came_later e before n o.timer.began came stands.came;
  unasked = λ none. since ∙ stands.unasked none;
  tried = omega (arith, since, stands.tried);
}
work_later tables devices e before n q (Ends x) told ask since was came stands = subst (λ (vs : Said). EndingStands tables q vs x) (sym told) stands

-- the same is known of another request
pub others_later : (tables : Tables) (devices : List Device) (e : Happening) (before : List Happening) (g : Waiting) → g.number ≢ number_of e → GroupStands tables devices before g → GroupStands tables devices (e ∷ before) g
others_later tables devices e before g other stands = record {
  question = stands.question;
  asks = stands.asks;
  are_accepted = All-weaker (IsAccepted before g.number) (IsAccepted (e ∷ before) g.number) (later e before g.number) g.messages stands.are_accepted;
  wait = wait_other e before g.number other ∙ stands.wait;
  one = ask_other e before g.number stands.question other stands.one;
  work = work_later tables devices e before g.number stands.question g.work (told_other e before g.number other) (open_other e before g.number other) (since_other e before g.number other) (was_other e before g.number other)
      (λ at v m is. absurd (other (sym (ap number_of is)))) stands.work;
}

pub past_later : (e : Happening) (before : List Happening) (next : ℕ) → number_of e < next → All (λ (x : Happening). number_of x < next) before → All (λ (x : Happening). number_of x < next) (e ∷ before)
past_later e before next lt past = All-cons (λ (x : Happening). number_of x < next) e before lt past

-- ---- the requests, one of which changes

below_or_above : (a b : ℕ) → a ≢ b → (a < b) ⊎ (b < a)
below_or_above a b other = elim (leb_tells b a) [ inl (test, above) ↦ inr (omega (arith, above, other)) | inr (test, below) ↦ inl below ]

numbers_differ : (gs : List Waiting) (place : ℕ) (g : Waiting) → AllPairs (λ (a b : Waiting). a.number < b.number) gs → IsAt gs place g → (k : ℕ) (d : Waiting) → k < length gs → k ≢ place → (slice_index_or gs k d).number ≢ g.number
numbers_differ gs place g rise at k d within other same =
    let is : slice_index_or gs place d ≡ g = get_or_default gs place d g at.within ∙ sym at.group_is in
    elim (below_or_above k place other) [
      | inl below ↦ let lt = rise k place d below at.within in absurd (omega (arith, lt, same, ap (λ (x : Waiting). x.number) is))
      | inr above ↦ let lt = rise place k d above within in absurd (omega (arith, lt, same, ap (λ (x : Waiting). x.number) is))
    ]

pub all_set : (P Q : Waiting → Type 0) (gs : List Waiting) (place : ℕ) (g h : Waiting) → AllPairs (λ (a b : Waiting). a.number < b.number) gs → IsAt gs place g → All P gs → Q h
    → ((x : Waiting) → x.number ≢ g.number → P x → Q x) → All Q (slice_set gs place h)
all_set P Q gs place g h rise at all holds others k d within =
    let short : k < length gs = omega (arith, length-set gs place h, within) in
    elim (eqb_tells k place) [
      | inl (test, same) ↦ subst Q (sym (ap (λ (i : ℕ). slice_index_or (slice_set gs place h) i d) same ∙ get_or-set_same gs place h d at.within)) holds
      | inr (test, other) ↦ subst Q (sym (get_or-set_other gs place k h d other)) (others (slice_index_or gs k d) (numbers_differ gs place g rise at k d short other) (all k d short))
    ]

pub numbered_set : (next : ℕ) (gs : List Waiting) (place : ℕ) (g h : Waiting) → IsAt gs place g → h.number ≡ g.number → AreNumbered next gs → AreNumbered next (slice_set gs place h)
numbered_set next gs place g h at same numbered = record {
  rise = pairs_set (λ (a b : Waiting). a.number < b.number) gs place g h at.within at.group_is
      (λ x lt. omega (arith, lt, same)) (λ x lt. omega (arith, lt, same)) numbered.rise;
  less = all_set (λ (x : Waiting). x.number < next) (λ (x : Waiting). x.number < next) gs place g h numbered.rise at numbered.less
      (let lt = subst (λ (x : Waiting). x.number < next) (sym at.group_is) (numbered.less place g at.within) in omega (arith, lt, same))
      (λ x other lt. lt);
}

-- those that are left where one is taken out have other numbers
pub all_out : (P Q : Waiting → Type 0) (gs : List Waiting) (place : ℕ) (g : Waiting) → AllPairs (λ (a b : Waiting). a.number < b.number) gs → IsAt gs place g → All P gs
    → ((x : Waiting) → x.number ≢ g.number → P x → Q x) → All Q (remove gs place)
all_out P Q gs place g rise at all others k d within =
    let long = length-remove gs place at.within in
    elim (leb_tells place k) [
      | inl (test, from) ↦
          let short : k + 1 < length gs = omega (arith, long, within) in
          let isnt : k + 1 ≢ place = omega (arith, from) in
          subst Q (sym (get_or-remove_above gs place d k from at.within)) (others (slice_index_or gs (k + 1) d) (numbers_differ gs place g rise at (k + 1) d short isnt) (all (k + 1) d short))
      | inr (test, below) ↦
          let short : k < length gs = omega (arith, below, at.within) in
          let isnt : k ≢ place = omega (arith, below) in
          subst Q (sym (get_or-remove_below gs place d k below at.within)) (others (slice_index_or gs k d) (numbers_differ gs place g rise at k d short isnt) (all k d short))
    ]

-- the numbers before one of the requests changed, and keeps its own
pub numbers_back : (n : ℕ) (gs : List Waiting) (place : ℕ) (g h : Waiting) → IsAt gs place g → h.number ≡ g.number → All (λ (x : Waiting). x.number ≢ n) (slice_set gs place h) → All (λ (x : Waiting). x.number ≢ n) gs × (n ≢ g.number)
numbers_back n gs place g h at same all =
    let long = length-set gs place h in
    let own : n ≢ g.number = λ is. all place h (omega (arith, at.within, long)) (ap (λ (x : Waiting). x.number) (get_or-set_same gs place h h at.within) ∙ same ∙ sym is) in (
      (λ k d within. elim (eqb_tells k place) [
        | inl (test, here) ↦ λ is. own (sym is ∙ ap (λ (i : ℕ). (slice_index_or gs i d).number) here ∙ ap (λ (x : Waiting). x.number) (get_or_default gs place d g at.within ∙ sym at.group_is))
        | inr (test, other) ↦ λ is. all k d (omega (arith, within, long)) (ap (λ (x : Waiting). x.number) (get_or-set_other gs place k h d other) ∙ is)
      ]),
      own,
    )

-- the numbers of all, by those that are left
numbers_out : (n : ℕ) (gs : List Waiting) (place : ℕ) (g : Waiting) → IsAt gs place g → n ≢ g.number → All (λ (x : Waiting). x.number ≢ n) (remove gs place) → All (λ (x : Waiting). x.number ≢ n) gs
numbers_out n gs place g at own all k d within =
    let long = length-remove gs place at.within in
    elim (eqb_tells k place) [
      | inl (test, here) ↦ λ is. own (sym is ∙ ap (λ (i : ℕ). (slice_index_or gs i d).number) here ∙ ap (λ (x : Waiting). x.number) (get_or_default gs place d g at.within ∙ sym at.group_is))
      | inr (test, other) ↦ elim (leb_tells place k) [
        | inl (t, from) ↦
            let above : place ≤ k - 1 = omega (arith, from, other) in
            let back : k - 1 + 1 ≡ k = omega (arith, from, other) in
            λ is. all (k - 1) d (omega (arith, within, long, from, other)) (ap (λ (x : Waiting). x.number) (get_or-remove_above gs place d (k - 1) above at.within) ∙ ap (λ (i : ℕ). (slice_index_or gs i d).number) back ∙ is)
        | inr (t, below) ↦ λ is. all k d (omega (arith, below, at.within, long)) (ap (λ (x : Waiting). x.number) (get_or-remove_below gs place d k below at.within) ∙ is)
      ]
    ]

pub below_next : (next : ℕ) (gs : List Waiting) (place : ℕ) (g : Waiting) → IsAt gs place g → AreNumbered next gs → g.number < next
below_next next gs place g at numbered = subst (λ (x : Waiting). x.number < next) (sym at.group_is) (numbered.less place g at.within)

-- an accepted message asks what the request asks
pub asked_by : (tables : Tables) (devices : List Device) (before : List Happening) (r : WaitingRequest WaitingMessage Work) (group : GroupStands tables devices before (group_of r)) → AskedBy before r.number group.question
asked_by tables devices before r group = record {
  message = r.first;
  is_accepted = All-head (IsAccepted before r.number) r.first r.others.items group.are_accepted;
  asks = All-head (λ (m : WaitingMessage). question_in m ≡ Some group.question) r.first r.others.items group.asks;
}

-- ---- an answer

answered_not_accepted : (n device : ℕ) (p : PduParts) (w : List ℕ) (k at : ℕ) (v : List ℕ) (m : WaitingMessage) → answered n device p w ≡ accepted k at v m → ⊥
answered_not_accepted n device p w k at v m is = cc

asked_not_accepted : (n device id : ℕ) (what : RequestPdu) (w : List ℕ) (k at : ℕ) (v : List ℕ) (m : WaitingMessage) → asked n device id what w ≡ accepted k at v m → ⊥
asked_not_accepted n device id what w k at v m is = cc

-- the community by which the request's device is asked
pub community_for : (tables : Tables) (q : Question) (told : Said) (t : Task) (d : Device) (community : List ℕ) → TaskStands tables q told t → IsCommunityOfTask d community t → IsCommunityFor d q.tag community
community_for tables q told (task.Read Get d) device community stands is = inl ((λ (same : q.tag ≡ pdu_tag SetRequest). let tag : q.tag ≡ pdu_tag GetRequest = stands.tag in omega (arith, same, tag)), is)
community_for tables q told (task.Read GetNext d) device community stands is = inl ((λ (same : q.tag ≡ pdu_tag SetRequest). let tag : q.tag ≡ pdu_tag GetNextRequest = stands.tag in omega (arith, same, tag)), is)
community_for tables q told (task.Bulk by d) device community stands is = inl ((λ (same : q.tag ≡ pdu_tag SetRequest). omega (arith, same, stands.dialogue.tag)), is)
community_for tables q told task.Set device community stands is = inr (stands.tag, is)

open_of : (device id : ℕ) (w : Work) → WaitsFor device id w → (o : OpenRequest) × (w ≡ Open o) × (o.device ≡ device) × (o.asked ≡ Some id)
open_of device id (Open o) waits = (o, refl, waits.0, waits.1)
open_of device id (Ends e) waits = absurd waits

-- all that an answer says is reported
says_all : (n device id : ℕ) (what : RequestPdu) (answer : Pdu) (datagram : List ℕ) (before : List Happening) → open_ask n before ≡ Some (record { device = device; id = id; request = what })
    → SaysAll what answer (told_in n (answered n device (pdu_of answer) datagram ∷ before))
says_all n device id what answer datagram before is =
    let own = variables_of answer.list.now in
    let ask : OpenAsk = record { device = device; id = id; request = what } in
    let vs = what.variables in
    let told = told_in n before in
    let full : more_said (Some ask) (pdu_of answer) told ≡ told_in n (answered n device (pdu_of answer) datagram ∷ before) =
    ap (λ (a : Option OpenAsk). more_said a (pdu_of answer) told) (sym is)
    ∙ sym (ap (λ (b : Bool). cond b (more_said (open_ask n before) (pdu_of answer) told) told) (same_number n)) in
    let exchange : Exchange = record { asked = what; answer = pdu_of answer } in
    record {
      bindings = subst (λ (all : Said). All (Contains all.variables) own) full
          (All-weaker (Contains own) (Contains (said_by (Some ask) (pdu_of answer) ++ told.variables))
          (λ v there. Contains-append_left (said_by (Some ask) (pdu_of answer)) told.variables v (Contains-append_left own (ends_in (Some ask) (pdu_of answer)) v there)) own (All-contains_itself own));
      ends = λ no_such_name. subst (λ (all : Said). All (λ (v : Variable). Contains all.variables (end_of v)) vs) full
          (All-weaker (Contains vs) (λ (v : Variable). Contains (said_by (Some ask) (pdu_of answer) ++ told.variables) (end_of v))
          (λ v there. Contains-append_left (said_by (Some ask) (pdu_of answer)) told.variables (end_of v) (Contains-append_right own (ends_in (Some ask) (pdu_of answer)) (end_of v)
          (subst (λ (b : Bool). Contains (cond b (map end_of vs) []) (end_of v)) (sym no_such_name) (contains_map end_of vs v there)))) vs (All-contains_itself vs));
      exchange = subst (λ (all : Said). Contains all.exchanges exchange) full (Contains-append_left (exchange ∷ []) told.exchanges exchange (Contains-push [] exchange));
    }

-- as much is reported as before
told_more : (n device : ℕ) (p : PduParts) (datagram : List ℕ) (before : List Happening) → HasAll (told_in n before) (told_in n (answered n device p datagram ∷ before))
told_more n device p datagram before =
    let told = told_in n before in
    record {
      variables = λ v there. subst (λ (b : Bool). Contains (cond b (more_said (open_ask n before) p told) told).variables v) (sym (same_number n))
          (Contains-append_right (said_by (open_ask n before) p) told.variables v there);
      exchanges = λ e there. subst (λ (b : Bool). Contains (cond b (more_said (open_ask n before) p told) told).exchanges e) (sym (same_number n))
          (Contains-append_right (exchange_in (open_ask n before) p) told.exchanges e there);
    }

after_stands : (tables : Tables) (devices : List Device) (before : List Happening) (n : ℕ) (q : Question) (o : OpenRequest) (w : Work) → IsDeviceOf devices q.context o.device
    → HoldsAt (λ (d : Device). most_repetitions o.task.task ≤ d.repetitions) devices o.device → AllCameFrom before n o.timer.began → asks_since n before ≡ 0 → WorkAfter tables q (told_in n before) o w
    → WorkStands tables devices before n q w
after_stands tables devices before n q o (Open new) device few came since after = record {
  task = after.0;
  device = subst (IsDeviceOf devices q.context) (sym after.1) device;
  repetitions = subst (λ (at : ℕ). HoldsAt (λ (d : Device). most_repetitions new.task.task ≤ d.repetitions) devices at) (sym after.1) (λ d. let most = few d in omega (arith, most, after.5));
  asked = λ id is. absurd (let none : None ≡ Some id = sym after.2 ∙ is in cc);
  set_once = λ set none was. after.3 set;
  came = subst (AllCameFrom before n) (sym after.4) came;
  unasked = λ none. since;
  tried = omega (arith, since);
}
after_stands tables devices before n q o (Ends e) device few came since after = after

pub group_in : (tables : Tables) (devices : List Device) (before : List Happening) (next : ℕ) (gs : List Waiting) (place : ℕ) (g : Waiting) → IsAt gs place g → GroupsStand tables devices before next gs → GroupStands tables devices before g
group_in tables devices before next gs place g at stands = subst (GroupStands tables devices before) (sym at.group_is) (stands.all place g at.within)

pub answered_all : (tables : Tables) (devices : List Device) (before : List Happening) (next : ℕ) (rs : List (WaitingRequest WaitingMessage Work)) (place : ℕ) (r : WaitingRequest WaitingMessage Work) (w : Work)
    (device id : ℕ) (answer : Pdu) (datagram community : List ℕ) → place < length rs → r ≡ slice_index_or rs place r → WaitsFor device id r.work → answer.id ≡ pos id → IsDeviceAnswer datagram community (pdu_of answer)
    → HoldsAt (λ (d : Device). IsCommunityOfWork d community r.work) devices device
    → ((o : OpenRequest) (q : Question) (told : Said) → question_in r.first ≡ Some q → r.work ≡ Open o → SaysAll (request_of_task q o.task.task) answer told → TaskStands tables q told o.task.task → WorkAfter tables q told o w)
    → GroupsStand tables devices before next (groups_of rs)
    → IsAnswerOf devices before r.number device (pdu_of answer) datagram
    × GroupsStand tables devices (answered r.number device (pdu_of answer) datagram ∷ before) next (groups_of (slice_set rs place (record { number = r.number; first = r.first; others = r.others; work = w })))
answered_all tables devices before next rs place r w device id answer datagram community within is waits id_is response pays after stands =
    let at = group_at rs place r within is in
    let group = group_in tables devices before next (groups_of rs) place (group_of r) at stands in
    let q = group.question in
    let n = r.number in
    let open_is = open_of device id r.work waits in
    let o = open_is.0 in
    let open_stands : OpenStands tables devices before n q o = subst (λ (x : Work). WorkStands tables devices before n q x) open_is.1 group.work in
    let now = answered n device (pdu_of answer) datagram in
    let asks = open_stands.asked id open_is.3 in
    let first = All-head (λ (m : WaitingMessage). question_in m ≡ Some q) r.first r.others.items group.asks in
    let told = told_in n (now ∷ before) in
    let after_now = after o q told first open_is.1 (says_all n o.device id (request_of_task q o.task.task) answer datagram before asks)
    (task_more tables q (told_in n before) told o.task.task (told_more n device (pdu_of answer) datagram before) open_stands.task) in
    let new : WaitingRequest WaitingMessage Work = record { number = n; first = r.first; others = r.others; work = w } in
    let new_stands : GroupStands tables devices (now ∷ before) (group_of new) = record {
      question = q;
      asks = group.asks;
      are_accepted = All-weaker (IsAccepted before n) (IsAccepted (now ∷ before) n) (later now before n) (group_of r).messages group.are_accepted;
      wait = group.wait;
      one = ask_later now before n q (λ at w m same. absurd (answered_not_accepted n device (pdu_of answer) datagram n at w m same)) group.one;
      work = after_stands tables devices (now ∷ before) n q o w open_stands.device open_stands.repetitions
          (came_later now before n o.timer.began (λ at v m same. absurd (answered_not_accepted n device (pdu_of answer) datagram n at v m same)) open_stands.came)
          (chosen n 0 (asks_since n before)) after_now;
    } in (
      record {
        ask = record { device = o.device; id = id; request = request_of_task q o.task.task };
        is_open = asks;
        device_is = open_is.2;
        id_is = id_is;
        community = community;
        is_answer = response;
        question = q;
        is_asked = asked_by tables devices before r group;
        is_community = λ d. community_for tables q (told_in n before) o.task.task (slice_index_or devices device d) community open_stands.task
            (subst (IsCommunityOfWork (slice_index_or devices device d) community) open_is.1 (pays d));
      },
      record {
        all = subst (λ (gs : List Waiting). All (GroupStands tables devices (now ∷ before)) gs) (sym (groups_set rs place new))
            (all_set (GroupStands tables devices before) (GroupStands tables devices (now ∷ before)) (groups_of rs) place (group_of r) (group_of new) stands.numbered.rise at stands.all new_stands
            (λ x other known. others_later tables devices now before x other known));
        numbered = subst (λ (gs : List Waiting). AreNumbered next gs) (sym (groups_set rs place new)) (numbered_set next (groups_of rs) place (group_of r) (group_of new) at refl stands.numbered);
        past = past_later now before next (below_next next (groups_of rs) place (group_of r) at stands.numbered) stands.past;
        gone = λ k none. stands.gone k (numbers_back k (groups_of rs) place (group_of r) (group_of new) at refl (subst (All (λ (x : Waiting). x.number ≢ k)) (groups_set rs place new) none)).0;
      },
    )

-- ---- an ask

one_head : {A : Type 0} (a b : A) (xs ys : List A) → a ∷ xs ≡ b ∷ ys → a ≡ b
one_head a b xs ys is = cc

same_some : {A : Type 0} (a b : A) → Some a ≡ Some b → a ≡ b
same_some a b is = cc

-- as much is reported as before
asked_has : (n device id : ℕ) (what : RequestPdu) (datagram : List ℕ) (before : List Happening) → HasAll (told_in n before) (told_in n (asked n device id what datagram ∷ before))
asked_has n device id what datagram before =
    let told = told_in n before in
    record {
      variables = λ v there. subst (λ (b : Bool). Contains (cond b (asked_more what told) told).variables v) (sym (same_number n)) there;
      exchanges = λ e there. subst (λ (b : Bool). Contains (cond b (asked_more what told) told).exchanges e) (sym (same_number n)) there;
    }

pub record AsksAll (agent : AgentState) (devices : List Device) (before : List Happening) (next number device id : ℕ) (datagram : List ℕ) (gs : List Waiting) : Type 0 where
  pub request : RequestPdu
  pub mediated : IsMediated agent devices before (asked number device id request datagram)
  pub stands : GroupsStand agent.tables devices (asked number device id request datagram ∷ before) next gs

-- what is known of a request that may be asked
pub record AskedSoFar (before : List Happening) (number place : ℕ) (rs : Requests) : Type 0 where
  pub waits : OpenRequest
  pub is_there : HoldsAt (λ (x : WaitingRequest WaitingMessage Work). x.work ≡ Open waits) rs place
  pub unasked : waits.asked ≡ None → asks_since number before ≡ 0
  pub tried : min (asks_since number before) (2 ^ 32 - 1) ≤ times_asked waits.timer.turn

pub asked_so_far : (tables : Tables) (devices : List Device) (before : List Happening) (next : ℕ) (rs : Requests) (place device number : ℕ) (r : WaitingRequest WaitingMessage Work) → place < length rs → r ≡ slice_index_or rs place r
    → IsOpenAt rs place device number → GroupsStand tables devices before next (groups_of rs) → AskedSoFar before number place rs
asked_so_far tables devices before next rs place device number r within is opened stands =
    let group = group_in tables devices before next (groups_of rs) place (group_of r) (group_at rs place r within is) stands in
    let is_open = subst (λ (x : WaitingRequest WaitingMessage Work). (x.number ≡ number) × ((o : OpenRequest) × (x.work ≡ Open o) × (o.device ≡ device))) (sym is) (opened r) in
    let o = is_open.1.0 in
    let open_stands : OpenStands tables devices before r.number group.question o = subst (λ (x : Work). WorkStands tables devices before r.number group.question x) is_open.1.1 group.work in
    subst (λ (n : ℕ). AskedSoFar before n place rs) is_open.0 (record {
      waits = o;
      is_there = at_read rs (λ (x : WaitingRequest WaitingMessage Work). x.work ≡ Open o) place r within is is_open.1.1;
      unasked = open_stands.unasked;
      tried = open_stands.tried;
    })

pub asked_all : (agent : AgentState) (devices : List Device) (before : List Happening) (next : ℕ) (rs new : Requests) (place device number id : ℕ) (datagram : Vec ℕ) → place < length rs → IsOpenAt rs place device number
    → MayAskAt agent.tables devices rs place device id datagram → SetsAsked rs place id new → GroupsStand agent.tables devices before next (groups_of rs) → AsksAll agent devices before next number device id datagram.items (groups_of new)
unfolding asked_by
asked_all agent devices before next rs new place device number id datagram within opened may sets stands =
    let r = sets.request in
    let tables = agent.tables in
    let at = group_at rs place r within sets.is in
    let group = group_in tables devices before next (groups_of rs) place (group_of r) at stands in
    let q = group.question in
    let is_open = subst (λ (x : WaitingRequest WaitingMessage Work). (x.number ≡ number) × ((o : OpenRequest) × (x.work ≡ Open o) × (o.device ≡ device))) (sym sets.is) (opened r) in
    let o = is_open.1.0 in
    let work_is = is_open.1.1 in
    let on = is_open.1.2 in
    let open_stands : OpenStands tables devices before r.number q o = subst (λ (x : Work). WorkStands tables devices before r.number q x) work_is group.work in
    let by = asked_by tables devices before r group in
    let what = request_of_task q o.task.task in
    let may_ask = subst (λ (x : WaitingRequest WaitingMessage Work). (p : OpenRequest) (c : Question) (told : Said) → x.work ≡ Open p → question_in x.first ≡ Some c → TaskStands tables c told p.task.task
    → HoldsAt (λ (d : Device). IsAskFor tables d c told id (request_of_task c p.task.task) datagram.items) devices device) (sym sets.is) (may r) in
    let now = asked r.number device id what datagram.items in
    let a = sets.asked o work_is in
    let task : request_of_task q a.0.task.task ≡ what = ap (λ (t : NamedTask). request_of_task q t.task) a.2 in
    let a_stands : OpenStands tables devices (now ∷ before) r.number q a.0 = record {
      task = subst (λ (t : NamedTask). TaskStands tables q (told_in r.number (now ∷ before)) t.task) (sym a.2)
          (task_more tables q (told_in r.number before) (told_in r.number (now ∷ before)) o.task.task (asked_has r.number device id what datagram.items before) open_stands.task);
      device = subst (IsDeviceOf devices q.context) (sym a.3) open_stands.device;
      repetitions = subst (λ (at : ℕ). HoldsAt (λ (d : Device). most_repetitions a.0.task.task ≤ d.repetitions) devices at) (sym a.3)
          (subst (λ (t : NamedTask). HoldsAt (λ (d : Device). most_repetitions t.task ≤ d.repetitions) devices o.device) (sym a.2) open_stands.repetitions);
      asked = λ other is.
          let one = same_some id other (sym a.4 ∙ is) in
          let first : open_ask r.number (now ∷ before) ≡ Some (record { device = device; id = id; request = what }) =
          ap (λ (b : Bool). cond b (Some (record { device = device; id = id; request = what })) (open_ask r.number before)) (same_number r.number) in
          first ∙ (λ i. Some (record { device = sym (a.3 ∙ on) i; id = one i; request = sym task i }));
      set_once = λ set none was. absurd (none_is_some id (sym none ∙ a.4));
      came = came_later now before r.number a.0.timer.began (λ at w m same. absurd (asked_not_accepted r.number device id what datagram.items r.number at w m same))
          (subst (AllCameFrom before r.number) (sym a.5) open_stands.came);
      unasked = λ none. absurd (none_is_some id (sym none ∙ a.4));
      tried =
          let one_more = chosen r.number (1 + asks_since r.number before) (asks_since r.number before) in
          omega (arith, one_more, a.6, open_stands.tried);
    } in
    let h : WaitingRequest WaitingMessage Work = record { number = r.number; first = r.first; others = r.others; work = sets.work } in
    let h_stands : GroupStands tables devices (now ∷ before) (group_of h) = record {
      question = q;
      asks = group.asks;
      are_accepted = All-weaker (IsAccepted before r.number) (IsAccepted (now ∷ before) r.number) (later now before r.number) (group_of r).messages group.are_accepted;
      wait = group.wait;
      one = ask_later now before r.number q (λ at w m same. absurd (asked_not_accepted r.number device id what datagram.items r.number at w m same)) group.one;
      work = subst (λ (x : Work). WorkStands tables devices (now ∷ before) r.number q x) (sym a.1) a_stands;
    } in
    let groups_are : groups_of new ≡ slice_set (groups_of rs) place (group_of h) = ap (λ (xs : Requests). groups_of xs) sets.new_is ∙ groups_set rs place h in
    subst (λ (n : ℕ). AsksAll agent devices before next n device id datagram.items (groups_of new)) is_open.0 (record {
      request = what;
      mediated = (
        q,
        by,
        subst (IsDeviceOf devices q.context) on open_stands.device,
        λ d. (
          may_ask o q (told_in r.number before) work_is by.asks open_stands.task d,
          (let few = subst (HoldsAt (λ (x : Device). most_repetitions o.task.task ≤ x.repetitions) devices) on open_stands.repetitions d in
              omega (arith, few, task_repeats tables q (told_in r.number before) o.task.task open_stands.task)),
        ),
      );
      stands = record {
        all = subst (λ (gs : List Waiting). All (GroupStands tables devices (now ∷ before)) gs) (sym groups_are)
            (all_set (GroupStands tables devices before) (GroupStands tables devices (now ∷ before)) (groups_of rs) place (group_of r) (group_of h) stands.numbered.rise at stands.all h_stands
            (λ x other known. others_later tables devices now before x other known));
        numbered = subst (λ (gs : List Waiting). AreNumbered next gs) (sym groups_are) (numbered_set next (groups_of rs) place (group_of r) (group_of h) at refl stands.numbered);
        past = past_later now before next (below_next next (groups_of rs) place (group_of r) at stands.numbered) stands.past;
        gone = λ k none. stands.gone k (numbers_back k (groups_of rs) place (group_of r) (group_of h) at refl (subst (All (λ (x : Waiting). x.number ≢ k)) groups_are none)).0;
      };
    })

-- ---- an end, and a message that is answered

pub ended_all : (tables : Tables) (devices : List Device) (before : List Happening) (next : ℕ) (gs new : List Waiting) (place : ℕ) (was : Work) (e : RequestEnd) → ((q : Question) (told : Said) → EndingStands tables q told e)
    → IsWorked gs place was (Ends e) new → GroupsStand tables devices before next gs → GroupsStand tables devices before next new
ended_all tables devices before next gs new place was e ends worked stands = record {
  all = all_worked (GroupStands tables devices before) gs new place was (Ends e) worked (λ g known. record {
    question = known.question;
    asks = known.asks;
    are_accepted = known.are_accepted;
    wait = known.wait;
    one = known.one;
    work = ends known.question (told_in g.number before);
  }) stands.all;
  numbered = subst (λ (xs : List Waiting). AreNumbered next xs) (sym worked.new_is) (numbered_set next gs place worked.group (with_work worked.group (Ends e)) worked.at refl stands.numbered);
  past = stands.past;
  gone = λ n none. stands.gone n (numbers_back n gs place worked.group (with_work worked.group (Ends e)) worked.at refl (subst (All (λ (x : Waiting). x.number ≢ n)) worked.new_is none)).0;
}

given_up_not_accepted : (n device : ℕ) (k at : ℕ) (v : List ℕ) (m : WaitingMessage) → given_up n device ≡ accepted k at v m → ⊥
given_up_not_accepted n device k at v m is = cc

-- the request at the place is given up
pub given_up_all : (tables : Tables) (devices : List Device) (before : List Happening) (next : ℕ) (gs new : List Waiting) (place number device : ℕ) (was : Work) (e : RequestEnd) → ((q : Question) (told : Said) → EndingStands tables q told e)
    → (worked : IsWorked gs place was (Ends e) new) → worked.group.number ≡ number → GroupsStand tables devices before next gs → GroupsStand tables devices (given_up number device ∷ before) next new
given_up_all tables devices before next gs new place number device was e ends worked same stands =
    let now = given_up number device in
    let g = worked.group in
    let h = with_work g (Ends e) in
    let known = group_in tables devices before next gs place g worked.at stands in
    let own : GroupStands tables devices (now ∷ before) h = record {
      question = known.question;
      asks = known.asks;
      are_accepted = All-weaker (IsAccepted before g.number) (IsAccepted (now ∷ before) g.number) (later now before g.number) g.messages known.are_accepted;
      wait = known.wait;
      one = ask_later now before g.number known.question (λ at w m is. absurd (given_up_not_accepted number device g.number at w m is)) known.one;
      work = ends known.question (told_in g.number before);
    } in record {
      all = subst (All (GroupStands tables devices (now ∷ before))) (sym worked.new_is)
          (all_set (GroupStands tables devices before) (GroupStands tables devices (now ∷ before)) gs place g h stands.numbered.rise worked.at stands.all own
          (λ x other it. others_later tables devices now before x (λ is. other (is ∙ sym same)) it));
      numbered = subst (λ (xs : List Waiting). AreNumbered next xs) (sym worked.new_is) (numbered_set next gs place g h worked.at refl stands.numbered);
      past = past_later now before next (subst (λ (n : ℕ). n < next) same (below_next next gs place g worked.at stands.numbered)) stands.past;
      gone = λ n none. stands.gone n (numbers_back n gs place g h worked.at refl (subst (All (λ (x : Waiting). x.number ≢ n)) worked.new_is none)).0;
    }

numbered_answered : (next : ℕ) (gs new : List Waiting) (place : ℕ) (m : WaitingMessage) → IsAnswered gs place m new → AreNumbered next gs → AreNumbered next new
numbered_answered next gs new place m answer numbered =
    let is = numbered_left (λ (x : WaitingMessage). x) 0 0 next place gs new answer.group answer.others answer.at answer.left (record { below = numbered.less; rise = numbered.rise }) in
    record { rise = is.rise; less = is.below }

-- a happening by which the first message of a request waits no longer
pub record TakesOne (e : Happening) (before : List Happening) (n : ℕ) : Type 0 where
  pub number : n ≡ number_of e
  pub wait : waiting_in n (e ∷ before) ≡ drop 1 (waiting_in n before)
  pub told : told_in n (e ∷ before) ≡ told_in n before
  pub ask : open_ask n (e ∷ before) ≡ open_ask n before
  pub since : asks_since n (e ∷ before) ≡ asks_since n before
  pub was : WasAsked (e ∷ before) n → WasAsked before n
  pub none : (k at : ℕ) (v : List ℕ) (m : WaitingMessage) → e ≡ accepted k at v m → ⊥

fewer : (tables : Tables) (devices : List Device) (e : Happening) (before : List Happening) (m : WaitingMessage) (g : Waiting) (next : WaitingMessage) (rest : List WaitingMessage) → TakesOne e before g.number → g.messages ≡ m ∷ next ∷ rest
    → GroupStands tables devices before g → GroupStands tables devices (e ∷ before) (with_messages g (next ∷ rest))
fewer tables devices e before m g next rest takes were known = record {
  question = known.question;
  asks = All-tail (λ (x : WaitingMessage). question_in x ≡ Some known.question) m (next ∷ rest) (subst (All (λ (x : WaitingMessage). question_in x ≡ Some known.question)) were known.asks);
  are_accepted = All-weaker (IsAccepted before g.number) (IsAccepted (e ∷ before) g.number) (later e before g.number) (next ∷ rest)
      (All-tail (IsAccepted before g.number) m (next ∷ rest) (subst (All (IsAccepted before g.number)) were known.are_accepted));
  wait = takes.wait ∙ ap (λ (ms : List WaitingMessage). drop 1 ms) (known.wait ∙ were);
  one = ask_later e before g.number known.question (λ at v x is. absurd (takes.none g.number at v x is)) known.one;
  work = work_later tables devices e before g.number known.question g.work takes.told takes.ask takes.since takes.was (λ at v x is. absurd (takes.none g.number at v x is)) known.work;
}

all_gone : (tables : Tables) (devices : List Device) (e : Happening) (before : List Happening) (next : ℕ) (gs new : List Waiting) (place : ℕ) (m : WaitingMessage) (g : Waiting) (others : List WaitingMessage) → TakesOne e before g.number
    → IsAt gs place g → g.messages ≡ m ∷ others → IsLeft gs place g others new → GroupsStand tables devices before next gs → All (GroupStands tables devices (e ∷ before)) new
all_gone tables devices e before next gs new place m g [] takes at were left stands = subst (All (GroupStands tables devices (e ∷ before))) (sym left)
    (all_out (GroupStands tables devices before) (GroupStands tables devices (e ∷ before)) gs place g stands.numbered.rise at stands.all
    (λ x other it. others_later tables devices e before x (λ is. other (is ∙ sym takes.number)) it))
all_gone tables devices e before next gs new place m g (x ∷ rest) takes at were left stands = subst (All (GroupStands tables devices (e ∷ before))) (sym left)
    (all_set (GroupStands tables devices before) (GroupStands tables devices (e ∷ before)) gs place g (with_messages g (x ∷ rest)) stands.numbered.rise at stands.all
    (fewer tables devices e before m g x rest takes were (group_in tables devices before next gs place g at stands))
    (λ y other it. others_later tables devices e before y (λ is. other (is ∙ sym takes.number)) it))

-- no message waits for a request that isn't left
none_waits_out : (tables : Tables) (devices : List Device) (e : Happening) (before : List Happening) (next : ℕ) (gs new : List Waiting) (place : ℕ) (m : WaitingMessage) (g : Waiting) (others : List WaitingMessage) → TakesOne e before g.number
    → IsAt gs place g → g.messages ≡ m ∷ others → IsLeft gs place g others new → GroupsStand tables devices before next gs → (n : ℕ) → All (λ (x : Waiting). x.number ≢ n) new → waiting_in n (e ∷ before) ≡ []
none_waits_out tables devices e before next gs new place m g [] takes at were left stands n none = elim (eqb_tells n g.number) [
  | inl (test, own) ↦
      let known = group_in tables devices before next gs place g at stands in
      ap (λ (i : ℕ). waiting_in i (e ∷ before)) own ∙ takes.wait ∙ ap (λ (ms : List WaitingMessage). drop 1 ms) (known.wait ∙ were)
  | inr (test, other) ↦
      wait_other e before n (λ is. other (is ∙ sym takes.number))
      ∙ stands.gone n (numbers_out n gs place g at other (subst (All (λ (x : Waiting). x.number ≢ n)) left none))
]
none_waits_out tables devices e before next gs new place m g (x ∷ rest) takes at were left stands n none =
    let back = numbers_back n gs place g (with_messages g (x ∷ rest)) at refl (subst (All (λ (y : Waiting). y.number ≢ n)) left none) in
    wait_other e before n (λ is. back.1 (is ∙ sym takes.number)) ∙ stands.gone n back.0

pub message_gone : (tables : Tables) (devices : List Device) (e : Happening) (before : List Happening) (next : ℕ) (gs new : List Waiting) (place : ℕ) (m : WaitingMessage) → (answer : IsAnswered gs place m new) → TakesOne e before answer.group.number
    → GroupsStand tables devices before next gs → GroupsStand tables devices (e ∷ before) next new
message_gone tables devices e before next gs new place m answer takes stands = record {
  all = all_gone tables devices e before next gs new place m answer.group answer.others takes answer.at answer.messages_are answer.left stands;
  numbered = numbered_answered next gs new place m answer stands.numbered;
  past = past_later e before next (subst (λ (n : ℕ). n < next) takes.number (below_next next gs place answer.group answer.at stands.numbered)) stands.past;
  gone = none_waits_out tables devices e before next gs new place m answer.group answer.others takes answer.at answer.messages_are answer.left stands;
}

sent_takes : (n : ℕ) (m : WaitingMessage) (by : Answering) (w : ClientAnswer) (before : List Happening) → TakesOne (sent n m by w) before n
sent_takes n m by w before = record {
  number = refl;
  wait = chosen n (drop 1 (waiting_in n before)) (waiting_in n before);
  told = refl;
  ask = refl;
  since = refl;
  was = was_before (sent n m by w) before n (λ d id vs v is. let same : sent n m by w ≡ asked n d id vs v = is in cc);
  none = λ k at v x is. let same : sent n m by w ≡ accepted k at v x = is in cc;
}

unanswered_takes : (n : ℕ) (m : WaitingMessage) (by : Answering) (why : Option Refusal) (before : List Happening) → TakesOne (unanswered n m by why) before n
unanswered_takes n m by why before = record {
  number = refl;
  wait = chosen n (drop 1 (waiting_in n before)) (waiting_in n before);
  told = refl;
  ask = refl;
  since = refl;
  was = was_before (unanswered n m by why) before n (λ d id vs v is. let same : unanswered n m by why ≡ asked n d id vs v = is in cc);
  none = λ k at v x is. let same : unanswered n m by why ≡ accepted k at v x = is in cc;
}

-- the same, with what is equal
pub moved : (tables other_tables : Tables) (devices others : List Device) (before : List Happening) (next after : ℕ) (gs new : List Waiting) → other_tables ≡ tables → others ≡ devices → after ≡ next → new ≡ gs
    → GroupsStand tables devices before next gs → GroupsStand other_tables others before after new
moved tables other_tables devices others before next after gs new t d n g stands =
    subst (λ (x : Tables). GroupsStand x others before after new) (sym t)
    (subst (λ (x : List Device). GroupsStand tables x before after new) (sym d)
    (subst (λ (x : ℕ). GroupsStand tables devices before x new) (sym n)
    (subst (λ (x : List Waiting). GroupsStand tables devices before next x) (sym g) stands)))

-- ---- what goes out of what becomes of a message

-- what becomes of a message is that a client is sent this
abbrev pub IsReplyWith : Reply → ClientAnswer → Type 0
IsReplyWith (reply.Responds says datagram) answer = answer ≡ answer_with (Some says) datagram
IsReplyWith (reply.Reports datagram) answer = answer ≡ answer_with None datagram
IsReplyWith _ answer = ⊥

-- the report of an end is for a cause that holds
ended_law : (limits : GateLimits) (agent : AgentState) (devices : List Device) (before : List Happening) (n seconds : ℕ) (salt : List ℕ) (q : Question) (g : Given) (e : RequestEnd) (answer : ClientAnswer)
    → IsAnswerTo (record { agent = agent; now = seconds; salt = salt }) agent.tables q (told_in n before) (again_of e) (IsWhyOf e) g answer → EndsNow limits agent.engine agent.tables devices before n q (Ends e)
    → IsAnswerTo (record { agent = agent; now = seconds; salt = salt }) agent.tables q (told_in n before) (again_of e) (IsCauseFor agent.engine agent.tables devices before n q) g answer
ended_law limits agent devices before n seconds salt q g e answer is ends =
    let Cause = IsCauseFor agent.engine agent.tables devices before n q in
    answer_weaker (IsWhyOf e) Cause (record { agent = agent; now = seconds; salt = salt }) agent.tables q (told_in n before) (again_of e) g answer (λ why. why_cause Cause (IsSilent limits before n q) e why ends) is

answer_law : (limits : GateLimits) (agent : AgentState) (devices : List Device) (before : List Happening) (n seconds : ℕ) (salt : List ℕ) (q : Question) (g : Given) (w : Work) (r : Reply) (answer : ClientAnswer) → IsReplyWith r answer
    → RepliesTo agent seconds salt q (told_in n before) g w r → WorkStands agent.tables devices before n q w → EndsNow limits agent.engine agent.tables devices before n q w
    → IsAnswerTo (record { agent = agent; now = seconds; salt = salt }) agent.tables q (told_in n before) (again_in w) (IsCauseFor agent.engine agent.tables devices before n q) g answer
answer_law limits agent devices before n seconds salt q g (Ends e) (reply.Responds says datagram) answer is replies stands ends =
    ended_law limits agent devices before n seconds salt q g e answer (subst (λ (a : ClientAnswer). IsAnswerTo (record { agent = agent; now = seconds; salt = salt }) agent.tables q (told_in n before) (again_of e) (IsWhyOf e) g a) (sym is) (replies stands)) ends
answer_law limits agent devices before n seconds salt q g (Ends e) (reply.Reports datagram) answer is replies stands ends =
    ended_law limits agent devices before n seconds salt q g e answer (subst (λ (a : ClientAnswer). IsAnswerTo (record { agent = agent; now = seconds; salt = salt }) agent.tables q (told_in n before) (again_of e) (IsWhyOf e) g a) (sym is) (replies stands)) ends
answer_law limits agent devices before n seconds salt q g (Ends e) reply.Nothing answer is replies stands ends = absurd is
answer_law limits agent devices before n seconds salt q g (Ends e) reply.SilentDrop answer is replies stands ends = absurd is
answer_law limits agent devices before n seconds salt q g (Ends e) (reply.Refused why) answer is replies stands ends = absurd is
answer_law limits agent devices before n seconds salt q g (Open o) r answer is replies stands ends = absurd replies

-- what is left of a gateway is this, where a message was answered
pub record IsLeftAfter (old : Gate) (place : ℕ) (m : WaitingMessage) (new : Gate) : Type 0 where
  pub engine : new.agent.engine ≡ old.agent.engine
  pub tables : new.agent.tables ≡ old.agent.tables
  pub devices : new.devices ≡ old.devices
  pub limits : new.limits ≡ old.limits
  pub next : new.requests.next ≡ old.requests.next
  pub answer : IsAnswered (groups_of old.requests.list.items) place m (groups_of new.requests.list.items)

left_stands : (old new : Gate) (e : Happening) (before : List Happening) (place : ℕ) (m : WaitingMessage) (left : IsLeftAfter old place m new) → TakesOne e before left.answer.group.number → RequestsStand before old → RequestsStand (e ∷ before) new
left_stands old new e before place m left takes stands =
    moved old.agent.tables new.agent.tables old.devices.list.items new.devices.list.items (e ∷ before) old.requests.next new.requests.next (groups_of new.requests.list.items) (groups_of new.requests.list.items)
    left.tables (ap (λ (d : Devices). d.list.items) left.devices) left.next refl
    (message_gone old.agent.tables old.devices.list.items e before old.requests.next (groups_of old.requests.list.items) (groups_of new.requests.list.items) place m left.answer takes stands)

-- by this happening the first message of the request at the place waits no longer, and that is lawful
pub record IsEnd (old : Gate) (before : List Happening) (e : Happening) (new : Gate) : Type 0 where
  pub mediated : IsMediated old.agent old.devices.list.items before e
  pub in_turn : IsInTurn before e
  pub requests : RequestsStand (e ∷ before) new

-- what is known of the message that is answered
record IsFirstAt (old : Gate) (before : List Happening) (r : WaitingRequest WaitingMessage Work) (m : WaitingMessage) (number : ℕ) : Type 0 where
  pub group : GroupStands old.agent.tables old.devices.list.items before (group_of r)
  pub first : r.first ≡ m
  pub number_is : r.number ≡ number
  pub turn : IsNext before r.number m

first_at : (old new : Gate) (before : List Happening) (place : ℕ) (r : WaitingRequest WaitingMessage Work) (m : WaitingMessage) → place < length old.requests.list.items → r ≡ slice_index_or old.requests.list.items place r
    → (left : IsLeftAfter old place m new) → RequestsStand before old → IsFirstAt old before r m left.answer.group.number
first_at old new before place r m within is left stands =
    let rs = old.requests.list.items in
    let at = group_at rs place r within is in
    let group = group_in old.agent.tables old.devices.list.items before old.requests.next (groups_of rs) place (group_of r) at stands in
    let same : group_of r ≡ left.answer.group = at.group_is ∙ get_or_default (groups_of rs) place (group_of r) left.answer.group at.within ∙ sym left.answer.at.group_is in
    let messages : r.first ∷ r.others.items ≡ m ∷ left.answer.others = ap (λ (x : Waiting). x.messages) same ∙ left.answer.messages_are in record {
      group = group;
      first = one_head r.first m r.others.items left.answer.others messages;
      number_is = ap (λ (x : Waiting). x.number) same;
      turn = (left.answer.others, group.wait ∙ messages);
    }

pub first_of : (old new : Gate) (before : List Happening) (place : ℕ) (r : WaitingRequest WaitingMessage Work) (m : WaitingMessage) → place < length old.requests.list.items → r ≡ slice_index_or old.requests.list.items place r
    → IsLeftAfter old place m new → RequestsStand before old → r.first ≡ m
first_of old new before place r m within is left stands = (first_at old new before place r m within is left stands).first

-- the request at a place ends by its cause
pub by_its_cause : (old : Gate) (before : List Happening) (place : ℕ) (r : WaitingRequest WaitingMessage Work) (q : Question) → place < length old.requests.list.items → r ≡ slice_index_or old.requests.list.items place r → question_in r.first ≡ Some q
    → CausesStand before old → EndsNow old.limits old.agent.engine old.agent.tables old.devices.list.items before r.number q r.work
by_its_cause old before place r q within is asks causes =
    let rs = old.requests.list.items in
    at_place (EndsByCause old.limits old.agent.engine old.agent.tables old.devices.list.items before) (groups_of rs) place (group_of r) (group_at rs place r within is) causes r.first q
    (Contains-append_left (r.first ∷ []) r.others.items r.first (Contains-push [] r.first)) asks

pub sent_all : (old new : Gate) (before : List Happening) (place seconds : ℕ) (salt : List ℕ) (r : WaitingRequest WaitingMessage Work) (m : WaitingMessage) (replied : Reply) (answer : ClientAnswer) → place < length old.requests.list.items
    → r ≡ slice_index_or old.requests.list.items place r → IsLeftAfter old place m new → IsReplyWith replied answer
    → ((q : Question) (said : Said) → question_in r.first ≡ Some q → RepliesTo old.agent seconds salt q said r.first.kept r.work replied)
    → IfSome (again_in r.work) (IsToldAgain before r.number m) → RequestsStand before old → CausesStand before old → IsEnd old before (sent r.number m (record { agent = old.agent; now = seconds; salt = salt }) answer) new
sent_all old new before place seconds salt r m replied answer within is left with_this replies may stands causes =
    let by : Answering = record { agent = old.agent; now = seconds; salt = salt } in
    let at = first_at old new before place r m within is left stands in
    let group = at.group in
    let first = at.first in
    let asks = All-head (λ (x : WaitingMessage). question_in x ≡ Some group.question) r.first r.others.items group.asks in
    let again = again_in r.work in
    let law = answer_law old.limits old.agent old.devices.list.items before r.number seconds salt group.question r.first.kept r.work replied answer with_this (replies group.question (told_in r.number before) asks) group.work
    (by_its_cause old before place r group.question within is asks causes) in
    let accepted_first = All-head (IsAccepted before r.number) r.first r.others.items group.are_accepted in record {
      mediated = (
        subst (λ (x : WaitingMessage). IsAccepted before r.number x) first accepted_first,
        (
          again,
          may,
          λ q asked.
              let one = same_some group.question q (sym asks ∙ ap question_in first ∙ asked) in
              subst (λ (x : WaitingMessage). IsAnswerTo by old.agent.tables q (told_in r.number before) again (IsCauseFor old.agent.engine old.agent.tables old.devices.list.items before r.number q) x.kept answer) first
              (subst (λ (x : Question). IsAnswerTo by old.agent.tables x (told_in r.number before) again (IsCauseFor old.agent.engine old.agent.tables old.devices.list.items before r.number x) r.first.kept answer) one law),
        ),
      );
      in_turn = at.turn;
      requests = left_stands old new (sent r.number m by answer) before place m left (subst (TakesOne (sent r.number m by answer) before) at.number_is (sent_takes r.number m by answer before)) stands;
    }

pub unanswered_all : (old new : Gate) (before : List Happening) (place : ℕ) (r : WaitingRequest WaitingMessage Work) (m : WaitingMessage) (by : Answering) (why : Option Refusal) → place < length old.requests.list.items
    → r ≡ slice_index_or old.requests.list.items place r → IsLeftAfter old place m new → RequestsStand before old → IsEnd old before (unanswered r.number m by why) new
unanswered_all old new before place r m by why within is left stands =
    let at = first_at old new before place r m within is left stands in record {
      mediated = subst (λ (x : WaitingMessage). IsAccepted before r.number x) at.first (All-head (IsAccepted before r.number) r.first r.others.items at.group.are_accepted);
      in_turn = at.turn;
      requests = left_stands old new (unanswered r.number m by why) before place m left (subst (TakesOne (unanswered r.number m by why) before) at.number_is (unanswered_takes r.number m by why before)) stands;
    }

pub given_up_ends : (tables : Tables) (limits : GateLimits) (w : Work) (e : RequestEnd) → IsGivenUp limits w e → (q : Question) (told : Said) → EndingStands tables q told e
given_up_ends tables limits w ending.Silent is q told = tt
given_up_ends tables limits w (ending.Unhandled why) is q told = tt
given_up_ends tables limits w _ is q told = absurd is

-- tooBig may be told of any request
pub too_long : (tables : Tables) (q : Question) (told : Said) → EndingStands tables q told (ending.Own (record { status = TOO_BIG; index = pos 0 }))
too_long tables q told = record { read = λ no_set. too_big_error refl refl; no_error = λ is. absurd (false≢true ((Decides-int_eq TOO_BIG NO_ERROR).1 is)); set = λ is_set. inl refl }

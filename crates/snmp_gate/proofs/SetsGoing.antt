-- Which Sets go out, as the requests change.
use Rattle.std.specs.Prelude.{◌≡◌, ◌≢◌, ◌∷◌, [], ◌/◌, ◌<◌, ◌≤◌, ℕ, List, All, Contains, IfSome, Option, Some, None, length, slice_index_or, slice_set}
use Rattle.std.specs.Global.{Vec}
use Rattle.std.specs.List.{HoldsAt}
use Rattle.std.proofs.Common.{refl, sym, ap, subst, ◌∙◌, inl, inr, arith}
use Rattle.std.proofs.lemmas.Bool.Decides.{eqb_tells}
use Rattle.std.proofs.lemmas.List.Elements.{All-contains, All-set, Contains-append_left, Contains-get_or, Contains-push}
use Rattle.snmp_message.specs.declared.refusal.Refusal.{Refusal}
use Rattle.snmp_msg.specs.Pdu.{PduParts}
use Rattle.snmp_msg.specs.PduTypes.{pdu_tag}
use Rattle.snmp_msg.specs.declared.pdu_type.PduType.TheVariants.{GetRequest, GetNextRequest, SetRequest}
use Rattle.vacm_core.specs.Tables.{Tables}
use Rattle.snmp_agent.specs.Agent.{AgentState}
use Rattle.snmp_walk.specs.declared.operation.ReadOperation.TheVariants.{Get, GetNext}
use Rattle.gateway_laws.specs.Requests.{RequestPdu}
use Rattle.snmp_gate.specs.Said.{Said}
use Rattle.snmp_gate.specs.Groups.{Group, IsAnswered, IsAt, IsWorked, group_of, groups_of}
use Rattle.snmp_gate.specs.History.{Happening, IsToldAgain, WasTold, accepted, answered, asked, given_up, open_ask, sent, told_in, unanswered}
use Rattle.snmp_gate.specs.Limits.{IsShortFor, IsShortReplyFor, MayBeLeft}
use Rattle.snmp_gate.specs.Lawful.{IsOnce, IsSetRequest, WasAsked}
use Rattle.snmp_gate.specs.Messages.{question_in}
use Rattle.snmp_gate.specs.Noting.{AsksSet, IsToldOf}
use Rattle.snmp_gate.specs.Question.{Question}
use Rattle.snmp_gate.specs.Sending.{IsAskedAt, IsOpenAt, IsSentBy, IsUnasked, LeavesBy, RepliesTo, Requests, SetsAsked, again_in}
use Rattle.snmp_gate.specs.Taking.{WorkSaysSame}
use Rattle.snmp_gate.specs.Waiting.{AsksStand, CausesStand, EndsByCause, Fresh, GateStands, GoesOut, GroupStands, GroupsStand, OpenStands, OutcomesStand, SendHappens, SetsStand, WorkStands, answering_at, asks_in}
use Rattle.snmp_gate.specs.Work.{IsToldFirst, TaskStands, request_of_task}
use Rattle.snmp_gate.specs.declared.asks.DeviceAsks.{DeviceAsks}
use Rattle.snmp_gate.specs.declared.devices.Device.{Device}
use Rattle.snmp_gate.specs.declared.devices.Devices.{Devices}
use Rattle.snmp_gate.specs.declared.gate.Gate.{Gate}
use Rattle.snmp_gate.specs.declared.gate.Sent.{Sent}
use Rattle.snmp_gate.specs.declared.gate.Sent.TheVariants as out
use Rattle.snmp_gate.specs.declared.limits.GateLimits.{GateLimits}
use Rattle.snmp_gate.specs.declared.named_task.NamedTask.{NamedTask}
use Rattle.snmp_gate.specs.declared.reply.Reply.{Reply}
use Rattle.snmp_gate.specs.declared.reply.Reply.TheVariants as reply
use Rattle.snmp_gate.specs.declared.requests.WaitingRequest.{WaitingRequest}
use Rattle.snmp_gate.specs.declared.set_answer.ResponseStatus.{ResponseStatus}
use Rattle.snmp_gate.specs.declared.sets.RememberedSet.{RememberedSet}
use Rattle.snmp_gate.specs.declared.sets.RememberedSets.{RememberedSets}
use Rattle.snmp_gate.specs.declared.task.Task.{Task}
use Rattle.snmp_gate.specs.declared.task.Task.TheVariants as task
use Rattle.snmp_gate.specs.declared.waiting_message.WaitingMessage.{WaitingMessage}
use Rattle.snmp_gate.specs.declared.work.OpenRequest.{OpenRequest}
use Rattle.snmp_gate.specs.declared.work.EndedBy.{EndedBy}
use Rattle.snmp_gate.specs.declared.work.RequestEnd.{RequestEnd}
use Rattle.snmp_gate.specs.declared.work.RequestEnd.TheVariants as ending
use Rattle.snmp_gate.specs.declared.work.Work.{Work}
use Rattle.snmp_gate.specs.declared.work.Work.TheVariants.{Open, Ends}
use Rattle.snmp_gate.specs.Beginning.{MayBeJoined}
use Rattle.snmp_gate.proofs.Asked.{none_is_some}
use Rattle.snmp_gate.proofs.Causing.{causes_answered, causes_asked, causes_later, causes_moved, causes_same}
use Rattle.snmp_gate.proofs.AsksKept.{asks_same}
use Rattle.snmp_gate.proofs.Endings.{one_open}
use Rattle.snmp_gate.proofs.GroupSteps.{group_at, groups_set}
use Rattle.snmp_gate.specs.Replies.{answer_with, says_of}
use Rattle.snmp_gate.proofs.Histories.{IsLeftAfter, IsReplyWith, by_its_cause, first_of, group_in, moved, sent_all, unanswered_all}
use Rattle.snmp_gate.proofs.Leaving.{IsReplyWithout, left_allowed}
use Rattle.snmp_gate.proofs.Others.{contains_cons, was_before, was_other}
use Rattle.snmp_gate.proofs.Questions.{all_answered, all_worked, at_place}
use Rattle.snmp_gate.proofs.Repeating.{WereAgain, again_answered, again_same, again_set, again_worked, from_kept, from_said, not_again, outcomes_kept, outcomes_other, sent_told}
use Rattle.snmp_gate.proofs.Same.{all_stand_same, work_set_same}
use Rattle.snmp_gate.proofs.SetsKept.{IsOpenSet, KeepsKnown, WereSets, goes_before, keeps_same, keeps_told, set_request_before, sets_step, were_sets}

abbrev Gs : Type 0
Gs = List (Group WaitingMessage Work)

-- nothing happens
goes_on : (before : List Happening) (gs new : Gs) (n : ℕ) → WereSets gs new → GoesOut before new n → GoesOut before gs n
goes_on before gs new n were out = elim out [
  | inl both ↦ inl both
  | inr (g, there, number, set) ↦ inr (subst (IsOpenSet gs) number (All-contains (λ (x : Group WaitingMessage Work). AsksSet x.work → IsOpenSet gs x.number) new g were there set))
]

at_contains : (gs : Gs) (place : ℕ) (g : Group WaitingMessage Work) → IsAt gs place g → Contains gs g
at_contains gs place g at = subst (Contains gs) (sym at.group_is) (Contains-get_or gs place g at.within)

-- the groups, of which one has other work
set_were : (rs : Requests) (place : ℕ) (r s : WaitingRequest WaitingMessage Work) → place < length rs → r ≡ slice_index_or rs place r → s.number ≡ r.number → (AsksSet s.work → AsksSet r.work) → WereSets (groups_of rs) (groups_of (slice_set rs place s))
set_were rs place r s within is number set =
    let P : Group WaitingMessage Work → Type 0 = λ g. AsksSet g.work → IsOpenSet (groups_of rs) g.number in
    let all : All P (groups_of rs) = were_sets (groups_of rs) in
    let here = at_place P (groups_of rs) place (group_of r) (group_at rs place r within is) all in
    subst (All P) (sym (groups_set rs place s)) (All-set P (groups_of rs) place (group_of s) (λ asks. subst (IsOpenSet (groups_of rs)) (sym number) (here (set asks))) all)

-- a happening by which nothing is accepted and nothing asked
pub sets_other : (now then : ℕ) (e : Happening) (before : List Happening) (gs new : Gs) (old sets : List RememberedSet) → now ≤ then → ((n at : ℕ) (w : List ℕ) (m : WaitingMessage) → e ≢ accepted n at w m)
    → ((n : ℕ) → WasAsked (e ∷ before) n → WasAsked before n) → WereSets gs new → KeepsKnown then old sets → SetsStand now before gs old → SetsStand then (e ∷ before) new sets
sets_other now then e before gs new old sets later isnt was were keeps stands =
    sets_step now then before (e ∷ before) gs new old sets later
    (λ n at w m there. elim (contains_cons e before (accepted n at w m) there) [ inl is ↦ absurd (isnt n at w m is) | inr rest ↦ rest ])
    (λ n out. goes_before e before gs new n (was n) (isnt n) were out) keeps stands

pub answered_sets : (now then n device : ℕ) (p : PduParts) (v : List ℕ) (before : List Happening) (rs : Requests) (place : ℕ) (r s : WaitingRequest WaitingMessage Work) (sets : List RememberedSet) → now ≤ then → place < length rs → r ≡ slice_index_or rs place r
    → s.number ≡ r.number → (AsksSet s.work → ⊥) → SetsStand now before (groups_of rs) sets → SetsStand then (answered n device p v ∷ before) (groups_of (slice_set rs place s)) sets
answered_sets now then n device p v before rs place r s sets later within is number no_set stands =
    sets_other now then (answered n device p v) before (groups_of rs) (groups_of (slice_set rs place s)) sets sets later
    (λ k at w m same. let wrong : answered n device p v ≡ accepted k at w m = same in cc)
    (λ k was. was_before (answered n device p v) before k (λ d id what w same. let wrong : answered n device p v ≡ asked k d id what w = same in cc) was)
    (set_were rs place r s within is number (λ set. absurd (no_set set))) (keeps_same then sets sets refl) stands

-- a request whose work says the same
pub kept_stands : (now : ℕ) (old new : Gate) (place : ℕ) (r : WaitingRequest WaitingMessage Work) (w : Work) → new.limits ≡ old.limits → new.agent ≡ old.agent → new.devices ≡ old.devices → new.asks ≡ old.asks → new.sets ≡ old.sets → new.requests.next ≡ old.requests.next
    → new.requests.list.items ≡ slice_set old.requests.list.items place (record { number = r.number; first = r.first; others = r.others; work = w }) → place < length old.requests.list.items → r ≡ slice_index_or old.requests.list.items place r
    → WorkSaysSame r.work w → (since : ℕ) (before : List Happening) → since ≤ now → GateStands since before old → GateStands now before new
kept_stands now old new place r w limits agent devices asks sets next items within is same since before later stands =
    let rs = old.requests.list.items in
    let s : WaitingRequest WaitingMessage Work = record { number = r.number; first = r.first; others = r.others; work = w } in
    let groups : groups_of new.requests.list.items ≡ groups_of (slice_set rs place s) = ap (λ (xs : Requests). groups_of xs) items in record {
      requests = moved old.agent.tables new.agent.tables old.devices.list.items new.devices.list.items before old.requests.next new.requests.next (groups_of (slice_set rs place s)) (groups_of new.requests.list.items)
          (ap (λ (a : AgentState). a.tables) agent) (ap (λ (d : Devices). d.list.items) devices) next groups
          (all_stand_same old.agent.tables old.devices.list.items before old.requests.next rs place r w within is same stands.requests);
      asks = subst (λ (v : Vec DeviceAsks). AsksStand before (asks_in v.items)) (sym asks) stands.asks;
      sets = subst (λ (gs : Gs). SetsStand now before gs new.sets.sets.items) (sym groups)
          (sets_step since now before before (groups_of rs) (groups_of (slice_set rs place s)) old.sets.sets.items new.sets.sets.items later (λ n at v m there. there)
          (λ n out. goes_on before (groups_of rs) (groups_of (slice_set rs place s)) n (set_were rs place r s within is refl (work_set_same r.work w same)) out)
          (keeps_same now old.sets.sets.items new.sets.sets.items (ap (λ (x : RememberedSets). x.sets.items) sets)) stands.sets);
      outcomes = subst (λ (gs : Gs). OutcomesStand before gs new.sets.sets.items) (sym groups)
          (outcomes_kept before (groups_of rs) (groups_of (slice_set rs place s)) old.sets.sets.items new.sets.sets.items (from_kept before now old.sets.sets.items new.sets.sets.items (inl (ap (λ (x : RememberedSets). x.sets.items) sets)))
          (again_set rs place r s within is (again_same r.work w (groups_of rs) r.number (r.first ∷ r.others.items) same)) stands.outcomes);
      causes = causes_moved old new before (groups_of (slice_set rs place s)) limits (ap (λ (a : AgentState). a.engine) agent) (ap (λ (a : AgentState). a.tables) agent) devices groups
          (causes_same old.limits old.agent.engine old.agent.tables old.devices.list.items before rs place r w within is same stands.causes);
    }

-- ---- a message that is answered

-- what is left of the groups, where a message was answered
answered_were : (gs new : Gs) (place : ℕ) (m : WaitingMessage) → IsAnswered gs place m new → WereSets gs new
answered_were gs new place m answer = all_answered (λ (g : Group WaitingMessage Work). AsksSet g.work → IsOpenSet gs g.number) gs new place m answer (λ g next rest were known. known) (were_sets gs)

-- what is left of the causes
causes_left : (old new : Gate) (before : List Happening) (e : Happening) (place : ℕ) (m : WaitingMessage) → IsLeftAfter old place m new → CausesStand before old → CausesStand (e ∷ before) new
causes_left old new before e place m left stand =
    let engine = old.agent.engine in
    let limits = old.limits in
    let tables = old.agent.tables in
    let devices = old.devices.list.items in
    let news = groups_of new.requests.list.items in
    causes_moved old new (e ∷ before) news left.limits left.engine left.tables left.devices refl
    (causes_later limits engine tables devices e before news (causes_answered limits engine tables devices before (groups_of old.requests.list.items) news place m left.answer stand))

-- what is left of a gateway
record LeavesIt (old : Gate) (since now : ℕ) (before : List Happening) (e : Happening) (m : WaitingMessage) (place : ℕ) (new : Gate) : Type 0 where
  pub asks : AsksStand (e ∷ before) (asks_in new.asks.items)
  pub sets : SetsStand now (e ∷ before) (groups_of new.requests.list.items) new.sets.sets.items
  pub outcomes : OutcomesStand (e ∷ before) (groups_of new.requests.list.items) new.sets.sets.items

leaves : (old new : Gate) (since now : ℕ) (before : List Happening) (e : Happening) (m : WaitingMessage) (said : Option ResponseStatus) (place : ℕ) → since ≤ now → ((k : ℕ) → open_ask k (e ∷ before) ≡ open_ask k before)
    → ((n at : ℕ) (w : List ℕ) (x : WaitingMessage) → e ≢ accepted n at w x) → ((n : ℕ) → WasAsked (e ∷ before) n → WasAsked before n) → IsAnswered (groups_of old.requests.list.items) place m (groups_of new.requests.list.items)
    → new.asks ≡ old.asks → IsToldOf m said old.sets.sets.items new.sets.sets.items → ((d : List ℕ) (says : ResponseStatus) → m.digest ≡ Some d → said ≡ Some says → WasTold (e ∷ before) d says) → GateStands since before old → LeavesIt old since now before e m place new
leaves old new since now before e m said place later same isnt was answer asks told tells stands = record {
  outcomes = outcomes_other e before (groups_of old.requests.list.items) (groups_of new.requests.list.items) old.sets.sets.items new.sets.sets.items isnt
      (from_said (e ∷ before) m said old.sets.sets.items new.sets.sets.items told tells) (again_answered (groups_of old.requests.list.items) (groups_of new.requests.list.items) place m answer) stands.outcomes;
  asks = asks_same e before (asks_in new.asks.items) same (subst (λ (v : Vec DeviceAsks). AsksStand before (asks_in v.items)) (sym asks) stands.asks);
  sets = sets_other since now e before (groups_of old.requests.list.items) (groups_of new.requests.list.items) old.sets.sets.items new.sets.sets.items later isnt was
      (answered_were (groups_of old.requests.list.items) (groups_of new.requests.list.items) place m answer) (keeps_told now m said old.sets.sets.items new.sets.sets.items told) stands.sets;
}

unanswered_happens : (old new : Gate) (since now : ℕ) (before : List Happening) (place : ℕ) (f : Fresh) (r : WaitingRequest WaitingMessage Work) (m own : WaitingMessage) (replied : Reply) (why : Option Refusal) (ended : EndedBy) → since ≤ now
    → place < length old.requests.list.items → r ≡ slice_index_or old.requests.list.items place r → IsLeftAfter old place m new → own ≡ m → new.asks ≡ old.asks → IsToldOf m None old.sets.sets.items new.sets.sets.items → IsReplyWithout replied why
    → LeavesBy old.limits old.agent (now / 1000) f.salt r.first r.work replied → GateStands since before old → SendHappens old now before f (out.Unanswered r.number own why ended) new
unanswered_happens old new since now before place f r m own replied why ended later within is left from asks told none leaves_it stands =
    let by = answering_at old now f.salt in
    let e = unanswered r.number m by why in
    let ends = unanswered_all old new before place r m by why within is left stands.requests in
    let first = first_of old new before place r m within is left stands.requests in
    let rest = leaves old new since now before e m None place later (λ k. refl) (λ n at w x same. let wrong : unanswered r.number m by why ≡ accepted n at w x = same in cc)
    (λ n. was_before e before n (λ d id what w same. let wrong : unanswered r.number m by why ≡ asked n d id what w = same in cc)) left.answer asks told (λ d says own is. absurd (none_is_some says is)) stands in (
      m,
      from,
      record {
        lawful = record { mediated = ends.mediated; in_turn = ends.in_turn; own_id = tt; once = tt };
        allowed = λ q asked. subst (λ (x : WaitingMessage). MayBeLeft old.limits old.devices.list.items before r.number q x by why) first
            (left_allowed old.limits old.devices.list.items before r.number q r.first old.agent (now / 1000) f.salt why r.work replied none leaves_it (by_its_cause old before place r q within is (ap question_in first ∙ asked) stands.causes));
        stands = record { requests = ends.requests; asks = rest.asks; sets = rest.sets; outcomes = rest.outcomes; causes = causes_left old new before e place m left stands.causes };
      },
    )

-- what the Response says again was said before
may_tell : (old : Gate) (before : List Happening) (place : ℕ) (r : WaitingRequest WaitingMessage Work) (m : WaitingMessage) → place < length old.requests.list.items → r ≡ slice_index_or old.requests.list.items place r → r.first ≡ m
    → OutcomesStand before (groups_of old.requests.list.items) old.sets.sets.items → (w : Work) → r.work ≡ w → IfSome (again_in w) (IsToldAgain before r.number m)
may_tell old before place r m within is first stands (Ends (ending.Repeated says)) ends =
    let there = at_contains (groups_of old.requests.list.items) place (group_of r) (group_at old.requests.list.items place r within is) in
    stands.again (group_of r) says m there ends (subst (Contains (r.first ∷ r.others.items)) first (Contains-append_left (r.first ∷ []) r.others.items r.first (Contains-push [] r.first)))
may_tell old before place r m within is first stands (Ends (ending.Own says)) ends = tt
may_tell old before place r m within is first stands (Ends (ending.RoundsUsedUp says)) ends = tt
may_tell old before place r m within is first stands (Ends (ending.Columns whole)) ends = tt
may_tell old before place r m within is first stands (Ends (ending.Front d)) ends = tt
may_tell old before place r m within is first stands (Ends (ending.Unhandled why)) ends = tt
may_tell old before place r m within is first stands (Ends ending.Silent) ends = tt
may_tell old before place r m within is first stands (Open o) ends = tt

-- a client is sent this
answer_happens : (old new : Gate) (since now : ℕ) (before : List Happening) (place : ℕ) (f : Fresh) (r : WaitingRequest WaitingMessage Work) (m own : WaitingMessage) (replied : Reply) (says : Option ResponseStatus) (datagram : Vec ℕ) (ended : EndedBy) → since ≤ now
    → place < length old.requests.list.items → r ≡ slice_index_or old.requests.list.items place r → IsLeftAfter old place m new → own ≡ m → IsReplyWith replied (answer_with says datagram)
    → ((q : Question) (told : Said) → question_in r.first ≡ Some q → RepliesTo old.agent (now / 1000) f.salt q told r.first.kept r.work replied)
    → new.asks ≡ old.asks → IsToldOf m says old.sets.sets.items new.sets.sets.items → IsShortFor old.limits r.first datagram.items → GateStands since before old → SendHappens old now before f (out.ToClient r.number own says datagram ended) new
answer_happens old new since now before place f r m own replied says datagram ended later within is left from with_this replies asks told short stands =
    let by = answering_at old now f.salt in
    let answer = answer_with says datagram in
    let e = sent r.number m by answer in
    let ends = sent_all old new before place (now / 1000) f.salt r m replied answer within is left with_this replies (may_tell old before place r m within is (first_of old new before place r m within is left stands.requests) stands.outcomes r.work refl) stands.requests stands.causes in
    let came = ends.mediated.0 in
    let rest = leaves old new since now before e m says place later (λ k. refl) (λ n at w x same. let wrong : sent r.number m by answer ≡ accepted n at w x = same in cc)
    (λ n. was_before e before n (λ d id what w same. let wrong : sent r.number m by answer ≡ asked n d id what w = same in cc)) left.answer asks told
    (sent_told r.number came.now came.datagram m by answer before (groups_of old.requests.list.items) old.sets.sets.items came.there stands.outcomes) stands in (
      m,
      from,
      record {
        lawful = record { mediated = ends.mediated; in_turn = ends.in_turn; own_id = tt; once = tt };
        allowed = subst (λ (x : WaitingMessage). IsShortFor old.limits x datagram.items) (first_of old new before place r m within is left stands.requests) short;
        stands = record { requests = ends.requests; asks = rest.asks; sets = rest.sets; outcomes = rest.outcomes; causes = causes_left old new before e place m left stands.causes };
      },
    )

pub reply_happens : (old new : Gate) (since now : ℕ) (before : List Happening) (place : ℕ) (f : Fresh) (r : WaitingRequest WaitingMessage Work) (m own : WaitingMessage) (ended : EndedBy) (replied : Reply) (output : Sent) → since ≤ now
    → place < length old.requests.list.items → r ≡ slice_index_or old.requests.list.items place r → IsLeftAfter old place m new → own ≡ m
    → ((q : Question) (told : Said) → question_in r.first ≡ Some q → RepliesTo old.agent (now / 1000) f.salt q told r.first.kept r.work replied)
    → IsSentBy r.number own ended replied output → new.asks ≡ old.asks → IsToldOf m (says_of replied) old.sets.sets.items new.sets.sets.items
    → LeavesBy old.limits old.agent (now / 1000) f.salt r.first r.work replied → IsShortReplyFor old.limits r.first replied → GateStands since before old → SendHappens old now before f output new
reply_happens old new since now before place f r m own ended (reply.Responds says datagram) output later within is left from replies sends asks told leaves_it short stands =
    subst (λ (o : Sent). SendHappens old now before f o new) (sym sends)
    (answer_happens old new since now before place f r m own (reply.Responds says datagram) (Some says) datagram ended later within is left from refl replies asks told short stands)
reply_happens old new since now before place f r m own ended (reply.Reports datagram) output later within is left from replies sends asks told leaves_it short stands =
    subst (λ (o : Sent). SendHappens old now before f o new) (sym sends)
    (answer_happens old new since now before place f r m own (reply.Reports datagram) None datagram ended later within is left from refl replies asks told short stands)
reply_happens old new since now before place f r m own ended reply.Nothing output later within is left from replies sends asks told leaves_it short stands =
    subst (λ (o : Sent). SendHappens old now before f o new) (sym sends) (unanswered_happens old new since now before place f r m own reply.Nothing None ended later within is left from asks told refl leaves_it stands)
reply_happens old new since now before place f r m own ended reply.SilentDrop output later within is left from replies sends asks told leaves_it short stands =
    subst (λ (o : Sent). SendHappens old now before f o new) (sym sends) (unanswered_happens old new since now before place f r m own reply.SilentDrop None ended later within is left from asks told refl leaves_it stands)
reply_happens old new since now before place f r m own ended (reply.Refused why) output later within is left from replies sends asks told leaves_it short stands =
    subst (λ (o : Sent). SendHappens old now before f o new) (sym sends) (unanswered_happens old new since now before place f r m own (reply.Refused why) (Some why) ended later within is left from asks told refl leaves_it stands)

-- ---- a request that ends

worked_were : (gs new : Gs) (place : ℕ) (was : Work) (e : RequestEnd) → IsWorked gs place was (Ends e) new → WereSets gs new
worked_were gs new place was e worked = all_worked (λ (g : Group WaitingMessage Work). AsksSet g.work → IsOpenSet gs g.number) gs new place was (Ends e) worked (λ g known set. absurd set) (were_sets gs)

pub ended_sets : (since now : ℕ) (before : List Happening) (gs new : Gs) (place : ℕ) (was : Work) (e : RequestEnd) (sets : List RememberedSet) → since ≤ now → IsWorked gs place was (Ends e) new → SetsStand since before gs sets → SetsStand now before new sets
ended_sets since now before gs new place was e sets later worked stands =
    sets_step since now before before gs new sets sets later (λ n at v m there. there) (λ n out. goes_on before gs new n (worked_were gs new place was e worked) out) (keeps_same now sets sets refl) stands

pub given_up_sets : (since now number device : ℕ) (before : List Happening) (gs new : Gs) (place : ℕ) (was : Work) (e : RequestEnd) (sets : List RememberedSet) → since ≤ now → IsWorked gs place was (Ends e) new → SetsStand since before gs sets
    → SetsStand now (given_up number device ∷ before) new sets
given_up_sets since now number device before gs new place was e sets later worked stands =
    sets_other since now (given_up number device) before gs new sets sets later (λ n at w x same. let wrong : given_up number device ≡ accepted n at w x = same in cc)
    (λ n. was_before (given_up number device) before n (λ d id what w same. let wrong : given_up number device ≡ asked n d id what w = same in cc)) (worked_were gs new place was e worked) (keeps_same now sets sets refl) stands

pub ended_outcomes : (before : List Happening) (gs new : Gs) (place : ℕ) (was : Work) (e : RequestEnd) (sets : List RememberedSet) → IsToldFirst e → IsWorked gs place was (Ends e) new → OutcomesStand before gs sets → OutcomesStand before new sets
ended_outcomes before gs new place was e sets first worked stands = outcomes_kept before gs new sets sets (from_kept before 0 sets sets (inl refl)) (again_worked gs new place was (Ends e) first worked) stands

pub given_up_outcomes : (number device : ℕ) (before : List Happening) (gs new : Gs) (place : ℕ) (was : Work) (e : RequestEnd) (sets : List RememberedSet) → IsToldFirst e → IsWorked gs place was (Ends e) new → OutcomesStand before gs sets
    → OutcomesStand (given_up number device ∷ before) new sets
given_up_outcomes number device before gs new place was e sets first worked stands =
    let now_up = given_up number device in
    outcomes_other now_up before gs new sets sets (λ n at w x same. let wrong : given_up number device ≡ accepted n at w x = same in cc) (from_kept (now_up ∷ before) 0 sets sets (inl refl)) (again_worked gs new place was (Ends e) first worked) stands

pub answered_outcomes : (n device : ℕ) (p : PduParts) (v : List ℕ) (before : List Happening) (rs : Requests) (place : ℕ) (r s : WaitingRequest WaitingMessage Work) (sets : List RememberedSet) → place < length rs → r ≡ slice_index_or rs place r
    → MayBeJoined s.work → OutcomesStand before (groups_of rs) sets → OutcomesStand (answered n device p v ∷ before) (groups_of (slice_set rs place s)) sets
answered_outcomes n device p v before rs place r s sets within is may stands =
    let e = answered n device p v in
    outcomes_other e before (groups_of rs) (groups_of (slice_set rs place s)) sets sets (λ k at w m same. let wrong : answered n device p v ≡ accepted k at w m = same in cc) (from_kept (e ∷ before) 0 sets sets (inl refl))
    (again_set rs place r s within is (λ was. not_again (groups_of rs) (group_of s) may)) stands

-- ---- an ask

pub task_is_set : (tables : Tables) (q : Question) (told : Said) (t : Task) → TaskStands tables q told t → q.tag ≡ pdu_tag SetRequest → t ≡ task.Set
task_is_set tables q told (task.Read Get d) stands set = absurd (let tag : q.tag ≡ pdu_tag GetRequest = stands.tag in omega (arith, set, tag))
task_is_set tables q told (task.Read GetNext d) stands set = absurd (let tag : q.tag ≡ pdu_tag GetNextRequest = stands.tag in omega (arith, set, tag))
task_is_set tables q told (task.Bulk by d) stands set = absurd (omega (arith, set, stands.dialogue.tag))
task_is_set tables q told task.Set stands set = refl

one_some : {A : Type 0} (a b : A) → Some a ≡ Some b → a ≡ b
one_some a b is = cc

-- a request whose messages ask a Set asks one of its device
open_set : (tables : Tables) (devices : List Device) (before : List Happening) (g : Group WaitingMessage Work) (o : OpenRequest) → GroupStands tables devices before g → g.work ≡ Open o → IsSetRequest before g.number → o.task.task ≡ task.Set
open_set tables devices before g o stands is set =
    let asked = set.is_asked.is_accepted in
    let same = one_some stands.question set.question (sym (stands.one asked.now asked.datagram set.is_asked.message asked.there) ∙ set.is_asked.asks) in
    let opened : OpenStands tables devices before g.number stands.question o = subst (λ (w : Work). WorkStands tables devices before g.number stands.question w) is stands.work in
    task_is_set tables stands.question (told_in g.number before) o.task.task opened.task (ap (λ (q : Question). q.tag) same ∙ set.tag)

set_of : (o : OpenRequest) (w : Work) → w ≡ Open o → o.task.task ≡ task.Set → AsksSet w
set_of o w is set = subst AsksSet (sym is) set

-- the device of the request at a place is asked
module _ (tables : Tables) (devices : List Device) (before : List Happening) (next : ℕ) (rs new : Requests) (place device number id : ℕ) (v : List ℕ) (what : RequestPdu) (within : place < length rs) (opened : IsOpenAt rs place device number) (sets : SetsAsked rs place id new)
    (stands : GroupsStand tables devices before next (groups_of rs)) where
  asked_group : GroupStands tables devices before (group_of sets.request)
  asked_group = group_in tables devices before next (groups_of rs) place (group_of sets.request) (group_at rs place sets.request within sets.is) stands

  asked_open : (sets.request.number ≡ number) × ((o : OpenRequest) × (sets.request.work ≡ Open o) × (o.device ≡ device))
  asked_open = subst (λ (x : WaitingRequest WaitingMessage Work). (x.number ≡ number) × ((o : OpenRequest) × (x.work ≡ Open o) × (o.device ≡ device))) (sym sets.is) (opened sets.request)

  -- its request is one to be asked, if it is a Set
  pub asked_goes : IsSetRequest before number → IsOpenSet (groups_of rs) number
  asked_goes set =
      let is = asked_open in
      let own = subst (IsSetRequest before) (sym is.0) set in
      let task_set = open_set tables devices before (group_of sets.request) is.1.0 asked_group is.1.1 own in
      (group_of sets.request, at_contains (groups_of rs) place (group_of sets.request) (group_at rs place sets.request within sets.is), is.0, set_of is.1.0 sets.request.work is.1.1 task_set)

  asked_were : WereSets (groups_of rs) (groups_of new)
  asked_were =
      let is = asked_open in
      let a = sets.asked is.1.0 is.1.1 in
      let s : WaitingRequest WaitingMessage Work = record { number = sets.request.number; first = sets.request.first; others = sets.request.others; work = sets.work } in
      subst (λ (xs : Requests). WereSets (groups_of rs) (groups_of xs)) (sym sets.new_is)
      (set_were rs place sets.request s within sets.is refl
      (λ set. set_of is.1.0 sets.request.work is.1.1 (sym (ap (λ (t : NamedTask). t.task) a.2) ∙ subst AsksSet a.1 set)))

  pub asked_sets : (since now : ℕ) (known : List RememberedSet) → since ≤ now → SetsStand since before (groups_of rs) known → SetsStand now (asked number device id what v ∷ before) (groups_of new) known
  asked_sets since now known later stood =
      let e = asked number device id what v in
      let isnt : (n at : ℕ) (w : List ℕ) (x : WaitingMessage) → e ≢ accepted n at w x = λ n at w x same. let wrong : asked number device id what v ≡ accepted n at w x = same in cc in
      sets_step since now before (e ∷ before) (groups_of rs) (groups_of new) known known later
      (λ n at w m there. elim (contains_cons e before (accepted n at w m) there) [ inl is ↦ absurd (isnt n at w m is) | inr rest ↦ rest ])
      (λ n out. elim out [
        | inl both ↦
            let set = set_request_before e before n (isnt n) both.1 in
            elim (eqb_tells n number) [
              | inl (test, same) ↦ inr (subst (IsOpenSet (groups_of rs)) (sym same) (asked_goes (subst (IsSetRequest before) same set)))
              | inr (test, other) ↦ inl (was_other e before n other both.0, set)
            ]
        | inr (g, there, is, set) ↦ inr (subst (IsOpenSet (groups_of rs)) is (All-contains (λ (x : Group WaitingMessage Work). AsksSet x.work → IsOpenSet (groups_of rs) x.number) (groups_of new) g asked_were there set))
      ])
      (keeps_same now known known refl) stood

  pub asked_outcomes : (known : List RememberedSet) → OutcomesStand before (groups_of rs) known → OutcomesStand (asked number device id what v ∷ before) (groups_of new) known
  asked_outcomes known stood =
      let e = asked number device id what v in
      let is = asked_open in
      let a = sets.asked is.1.0 is.1.1 in
      let s : WaitingRequest WaitingMessage Work = record { number = sets.request.number; first = sets.request.first; others = sets.request.others; work = sets.work } in
      let were : WereAgain (groups_of rs) (groups_of new) = subst (λ (xs : Requests). WereAgain (groups_of rs) (groups_of xs)) (sym sets.new_is)
      (again_set rs place sets.request s within sets.is (λ was. not_again (groups_of rs) (group_of s) (subst MayBeJoined (sym a.1) tt))) in
      outcomes_other e before (groups_of rs) (groups_of new) known known (λ n at w m same. let wrong : asked number device id what v ≡ accepted n at w m = same in cc) (from_kept (e ∷ before) 0 known known (inl refl)) were stood

  -- a Set goes out once
  pub asked_once : (since : ℕ) (known : List RememberedSet) → (IsSetRequest before number → ¬ WasAsked before number) → SetsStand since before (groups_of rs) known → IsOnce before (asked number device id what v)
  asked_once since known never stood set = (
    never set,
    λ other was other_set. stood.apart number other (λ same. never set (subst (WasAsked before) (sym same) was)) (inr (asked_goes set)) (inl (was, other_set)),
  )

  -- a Set that isn't asked now never was
  pub unasked_never : HoldsAt (λ (r : WaitingRequest WaitingMessage Work). IsUnasked r.work) rs place → IsSetRequest before number → ¬ WasAsked before number
  unasked_never unasked set =
      let is = asked_open in
      let own = subst (IsSetRequest before) (sym is.0) set in
      let task_set = open_set tables devices before (group_of sets.request) is.1.0 asked_group is.1.1 own in
      let none = subst IsUnasked is.1.1 (subst (λ (x : WaitingRequest WaitingMessage Work). IsUnasked x.work) (sym sets.is) (unasked sets.request)) in
      let here : OpenStands tables devices before sets.request.number asked_group.question is.1.0 = subst (λ (w : Work). WorkStands tables devices before sets.request.number asked_group.question w) is.1.1 asked_group.work in
      subst (λ (n : ℕ). ¬ WasAsked before n) is.0 (here.set_once task_set none)

  -- what isn't a Set may be asked again
  pub no_set_never : HoldsAt (λ (r : WaitingRequest WaitingMessage Work). ¬ AsksSet r.work) rs place → IsSetRequest before number → ¬ WasAsked before number
  no_set_never no_set set =
      let is = asked_open in
      let own = subst (IsSetRequest before) (sym is.0) set in
      let task_set = open_set tables devices before (group_of sets.request) is.1.0 asked_group is.1.1 own in
      absurd (subst (λ (x : WaitingRequest WaitingMessage Work). ¬ AsksSet x.work) (sym sets.is) (no_set sets.request) (set_of is.1.0 sets.request.work is.1.1 task_set))

  -- its device was asked with this request-id
  pub asked_before : (i : ℕ) → IsAskedAt rs place i → (old : RequestPdu) × (open_ask number before ≡ Some (record { device = device; id = i; request = old }))
  asked_before i asks =
      let is = asked_open in
      let o = subst (λ (x : WaitingRequest WaitingMessage Work). (p : OpenRequest) × (x.work ≡ Open p) × (p.asked ≡ Some i)) (sym sets.is) (asks sets.request) in
      let here : OpenStands tables devices before sets.request.number asked_group.question o.0 = subst (λ (w : Work). WorkStands tables devices before sets.request.number asked_group.question w) o.1 asked_group.work in
      let same = one_open sets.request.work o.0 is.1.0 o.1 is.1.1 in
      let on : o.0.device ≡ device = ap (λ (p : OpenRequest). p.device) same ∙ is.1.2 in (
        request_of_task asked_group.question o.0.task.task,
        subst (λ (n : ℕ). open_ask n before ≡ Some (record { device = device; id = i; request = request_of_task asked_group.question o.0.task.task })) is.0
            (here.asked i o.2 ∙ (λ j. Some (record { device = on j; id = i; request = request_of_task asked_group.question o.0.task.task }))),
      )

  -- and what has no Response has its cause
  pub asked_causes : (limits : GateLimits) (engine : List ℕ) → All (EndsByCause limits engine tables devices before) (groups_of rs) → All (EndsByCause limits engine tables devices (asked number device id what v ∷ before)) (groups_of new)
  asked_causes limits engine stood =
      let is = asked_open in
      causes_asked limits engine tables devices (asked number device id what v) before rs new place id is.1.0 sets is.1.1 stood

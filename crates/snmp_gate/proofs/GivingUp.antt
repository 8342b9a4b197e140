-- A request that is given up.
use Rattle.std.specs.Prelude.{◌≡◌, ◌≢◌, ◌∷◌, ◌<◌, ◌≤◌, ℕ, suc, zero, List, [], All, Contains, Option, Some, None, IfSome, length, slice_index_or}
use Rattle.std.specs.List.{HoldsAt}
use Rattle.std.proofs.Common.{refl, sym, ap, subst, ◌∙◌, arith, inl, inr}
use Rattle.std.proofs.lemmas.List.Elements.{All-contains, Contains-append_left, Contains-push}
use Rattle.snmp_msg.specs.PduTypes.{pdu_tag}
use Rattle.snmp_msg.specs.declared.pdu_type.PduType.TheVariants.{SetRequest}
use Rattle.vacm_core.specs.Tables.{Tables}
use Rattle.gateway_laws.specs.Requests.{RequestPdu}
use Rattle.snmp_gate.specs.Devices.{IsDeviceOf}
use Rattle.snmp_gate.specs.Groups.{Group, IsWorked, group_of, groups_of, with_work}
use Rattle.snmp_gate.specs.History.{AskedBy, Happening, given_up, open_ask, told_in}
use Rattle.snmp_gate.specs.Messages.{question_in}
use Rattle.snmp_gate.specs.Noting.{AsksSet}
use Rattle.snmp_gate.specs.Question.{Question}
use Rattle.snmp_gate.specs.Sending.{IsAskedAt, IsGivenUp, IsOpenAt}
use Rattle.snmp_gate.specs.Waiting.{EndsAsk, EndsByCause, GateStands, GroupStands, Happens, OpenStands, OutcomesStand, SetsStand, WorkStands, asks_in}
use Rattle.snmp_gate.specs.Said.{Said}
use Rattle.snmp_gate.specs.Work.{IsToldFirst, SetStands, TaskStands, request_of_task}
use Rattle.snmp_gate.specs.declared.asks.TheConstants.{REQUEST_IDS}
use Rattle.snmp_gate.specs.declared.devices.Device.{Device}
use Rattle.snmp_gate.specs.declared.devices.Devices.{Devices}
use Rattle.snmp_gate.specs.declared.gate.Gate.{Gate}
use Rattle.snmp_gate.specs.declared.limits.GateLimits.{GateLimits}
use Rattle.snmp_gate.specs.declared.requests.WaitingRequest.{WaitingRequest}
use Rattle.snmp_gate.specs.declared.sets.RememberedSets.{RememberedSets}
use Rattle.snmp_gate.specs.declared.task.Task.{Task}
use Rattle.snmp_gate.specs.declared.task.Task.TheVariants as task
use Rattle.snmp_gate.specs.declared.waiting_message.WaitingMessage.{WaitingMessage}
use Rattle.snmp_gate.specs.declared.work.OpenRequest.{OpenRequest}
use Rattle.snmp_gate.specs.declared.work.RequestEnd.{RequestEnd}
use Rattle.snmp_gate.specs.declared.work.RequestEnd.TheVariants as ending
use Rattle.snmp_gate.specs.declared.work.Work.{Work}
use Rattle.snmp_gate.specs.declared.work.Work.TheVariants.{Open, Ends}
use Rattle.snmp_gate.proofs.Asked.{none_is_some}
use Rattle.snmp_gate.proofs.AsksKept.{asks_ended}
use Rattle.snmp_gate.proofs.Causing.{EndsNow, causes_at, causes_later, causes_moved}
use Rattle.snmp_gate.proofs.Endings.{one_open}
use Rattle.snmp_gate.proofs.GroupSteps.{group_at}
use Rattle.snmp_gate.proofs.Histories.{asked_by, given_up_all, given_up_ends, group_in, moved}
use Rattle.snmp_gate.proofs.Others.{chosen, open_other}
use Rattle.snmp_gate.proofs.SetsGoing.{given_up_outcomes, given_up_sets, task_is_set}
use Rattle.std.proofs.lemmas.List.{get_or_default}

-- what is known of the request at the place
record IsKnownAt (old : Gate) (before : List Happening) (place number device : ℕ) : Type 0 where
  pub request : WaitingRequest WaitingMessage Work
  pub is : request ≡ slice_index_or old.requests.list.items place request
  pub group : GroupStands old.agent.tables old.devices.list.items before (group_of request)
  pub number_is : request.number ≡ number
  pub waits : OpenRequest
  pub opened : OpenStands old.agent.tables old.devices.list.items before request.number group.question waits
  pub work_is : request.work ≡ Open waits
  pub device_is : waits.device ≡ device

known_at : (old : Gate) (since : ℕ) (before : List Happening) (place number device : ℕ) (r : WaitingRequest WaitingMessage Work) → r ≡ slice_index_or old.requests.list.items place r → place < length old.requests.list.items
    → IsOpenAt old.requests.list.items place device number → GateStands since before old → IsKnownAt old before place number device
known_at old since before place number device r is within opened stands =
    let rs = old.requests.list.items in
    let group = group_in old.agent.tables old.devices.list.items before old.requests.next (groups_of rs) place (group_of r) (group_at rs place r within is) stands.requests in
    let at = subst (λ (x : WaitingRequest WaitingMessage Work). (x.number ≡ number) × ((o : OpenRequest) × (x.work ≡ Open o) × (o.device ≡ device))) (sym is) (opened r) in record {
      request = r;
      is = is;
      group = group;
      number_is = at.0;
      waits = at.1.0;
      opened = subst (λ (w : Work). WorkStands old.agent.tables old.devices.list.items before r.number group.question w) at.1.1 group.work;
      work_is = at.1.1;
      device_is = at.1.2;
    }

-- if it is asked with a request-id, that is open
asked_open : (old : Gate) (before : List Happening) (place number device : ℕ) (known : IsKnownAt old before place number device) (asked : Option ℕ) → IfSome asked (λ id. (id < REQUEST_IDS) × IsAskedAt old.requests.list.items place id) → (i : ℕ) → asked ≡ Some i
    → (what : RequestPdu) × (open_ask number before ≡ Some (record { device = device; id = i; request = what }))
asked_open old before place number device known None asks i is = absurd (none_is_some i is)
asked_open old before place number device known (Some id) asks i is =
    let r = known.request in
    let o = subst (λ (x : WaitingRequest WaitingMessage Work). (p : OpenRequest) × (x.work ≡ Open p) × (p.asked ≡ Some id)) (sym known.is) (asks.1 r) in
    let same = one_open r.work o.0 known.waits o.1 known.work_is in
    let asked_is : known.waits.asked ≡ Some i = ap (λ (p : OpenRequest). p.asked) (sym same) ∙ o.2 ∙ is in
    let what = request_of_task known.group.question known.waits.task.task in (
      what,
      subst (λ (n : ℕ). open_ask n before ≡ Some (record { device = device; id = i; request = what })) known.number_is
          (known.opened.asked i asked_is ∙ (λ j. Some (record { device = known.device_is j; id = i; request = what }))),
    )

-- what stands at a place
pub pick : {X : Type 0} (xs : List X) (i : ℕ) → i < length xs → (x : X) × (x ≡ slice_index_or xs i x)
pick [] i within = absurd (omega (arith, within))
pick (x ∷ xs) zero within = (x, refl)
pick (x ∷ xs) (suc i) within = pick xs i (omega (arith, within))

given_up_first : (limits : GateLimits) (w : Work) (e : RequestEnd) → IsGivenUp limits w e → IsToldFirst e
given_up_first limits w ending.Silent is = tt
given_up_first limits w (ending.Unhandled why) is = tt
given_up_first limits w _ is = absurd is

one_some : {A : Type 0} (a b : A) → Some a ≡ Some b → a ≡ b
one_some a b is = cc

-- the cause of how a request ends that is given up
given_up_cause : (engine : List ℕ) (tables : Tables) (devices : List Device) (before : List Happening) (n device : ℕ) (q : Question) (limits : GateLimits) (w : Work) (e : RequestEnd) → IsGivenUp limits w e → (AsksSet w → q.tag ≡ pdu_tag SetRequest) → ((¬ AsksSet w) → q.tag ≢ pdu_tag SetRequest)
    → EndsNow limits engine tables devices (given_up n device ∷ before) n q (Ends e)
given_up_cause engine tables devices before n device q limits w ending.Silent is set read =
    ((device, Contains-append_left (given_up n device ∷ []) before (given_up n device) (Contains-push [] (given_up n device))), elim is [ inl off ↦ inl off | inr asks ↦ inr (set asks) ])
given_up_cause engine tables devices before n device q limits w (ending.Unhandled why) is set read = inr (is.0, (device, Contains-append_left (given_up n device ∷ []) before (given_up n device) (Contains-push [] (given_up n device))), read is.2)
given_up_cause engine tables devices before n device q limits w _ is set read = absurd is

-- what is no Set asks none of its device
given_up_read : (old : Gate) (before : List Happening) (place number device : ℕ) (known : IsKnownAt old before place number device) (m : WaitingMessage) (q : Question) → Contains (group_of known.request).messages m → question_in m ≡ Some q
    → (¬ AsksSet known.request.work) → q.tag ≢ pdu_tag SetRequest
given_up_read old before place number device known m q there asks no_set set =
    let own = known.group.question in
    let one : own ≡ q = one_some own q (sym (All-contains (λ (x : WaitingMessage). question_in x ≡ Some own) (group_of known.request).messages m known.group.asks there) ∙ asks) in
    let task_set = task_is_set old.agent.tables own (told_in known.request.number before) known.waits.task.task known.opened.task (ap (λ (x : Question). x.tag) one ∙ set) in
    no_set (subst AsksSet (sym known.work_is) task_set)

set_asked : (tables : Tables) (q : Question) (told : Said) (t : Task) → TaskStands tables q told t → t ≡ task.Set → q.tag ≡ pdu_tag SetRequest
set_asked tables q told t stands is = let set : SetStands tables q = subst (TaskStands tables q told) is stands in set.tag

-- and what asks one of its device is a Set
given_up_set : (old : Gate) (before : List Happening) (place number device : ℕ) (known : IsKnownAt old before place number device) (m : WaitingMessage) (q : Question) → Contains (group_of known.request).messages m → question_in m ≡ Some q
    → AsksSet known.request.work → q.tag ≡ pdu_tag SetRequest
given_up_set old before place number device known m q there asks set =
    let own = known.group.question in
    let one : own ≡ q = one_some own q (sym (All-contains (λ (x : WaitingMessage). question_in x ≡ Some own) (group_of known.request).messages m known.group.asks there) ∙ asks) in
    subst (λ (x : Question). x.tag ≡ pdu_tag SetRequest) one (set_asked old.agent.tables own (told_in known.request.number before) known.waits.task.task known.opened.task (subst AsksSet known.work_is set))

pub gives_up : (old new : Gate) (since now : ℕ) (before : List Happening) (place number device : ℕ) (asked : Option ℕ) (was : Work) (e : RequestEnd) → since ≤ now
    → place < length old.requests.list.items → IsOpenAt old.requests.list.items place device number
    → IfSome asked (λ id. (id < REQUEST_IDS) × IsAskedAt old.requests.list.items place id) → HoldsAt (λ (x : WaitingRequest WaitingMessage Work). IsGivenUp old.limits x.work e) old.requests.list.items place
    → new.limits ≡ old.limits → new.agent.engine ≡ old.agent.engine → new.agent.tables ≡ old.agent.tables → new.devices ≡ old.devices → new.requests.next ≡ old.requests.next → new.sets ≡ old.sets
    → IsWorked (groups_of old.requests.list.items) place was (Ends e) (groups_of new.requests.list.items) → EndsAsk device asked (asks_in old.asks.items) (asks_in new.asks.items) → GateStands since before old → Happens old now before (given_up number device) new
gives_up old new since now before place number device asked was e later within opened asks given limits engine tables devices next sets worked ended stands =
    let rs = old.requests.list.items in
    let one = pick rs place within in
    let r = one.0 in
    let is = one.1 in
    let gs = groups_of rs in
    let news = groups_of new.requests.list.items in
    let known = known_at old since before place number device r is within opened stands in
    let ends = subst (λ (x : WaitingRequest WaitingMessage Work). IsGivenUp old.limits x.work e) (sym known.is) (given known.request) in
    let up = known.request.work in
    let at = group_at rs place r within is in
    let same : group_of known.request ≡ worked.group = (group_at rs place known.request within known.is).group_is ∙ get_or_default gs place (group_of known.request) worked.group at.within ∙ sym worked.at.group_is in
    let by = asked_by old.agent.tables old.devices.list.items before known.request known.group in
    let now_up = given_up number device in record {
      lawful = record {
        mediated = (known.group.question, subst (λ (n : ℕ). AskedBy before n known.group.question) known.number_is by, subst (IsDeviceOf old.devices.list.items known.group.question.context) known.device_is known.opened.device);
        in_turn = tt;
        own_id = tt;
        once = tt;
      };
      allowed = tt;
      stands = record {
        requests = moved old.agent.tables new.agent.tables old.devices.list.items new.devices.list.items (now_up ∷ before) old.requests.next new.requests.next news news tables (ap (λ (d : Devices). d.list.items) devices) next refl
            (given_up_all old.agent.tables old.devices.list.items before old.requests.next gs news place number device was e (given_up_ends old.agent.tables old.limits up e ends) worked (sym (ap (λ (g : Group WaitingMessage Work). g.number) same) ∙ known.number_is) stands.requests);
        asks = asks_ended now_up before number device (chosen number None (open_ask number before)) (λ k other. open_other now_up before k other) asked (asks_in old.asks.items) (asks_in new.asks.items)
            ended (asked_open old before place number device known asked asks) stands.asks;
        sets = subst (λ (s : RememberedSets). SetsStand now (now_up ∷ before) news s.sets.items) (sym sets) (given_up_sets since now number device before gs news place was e old.sets.sets.items later worked stands.sets);
        outcomes = subst (λ (s : RememberedSets). OutcomesStand (now_up ∷ before) news s.sets.items) (sym sets) (given_up_outcomes number device before gs news place was e old.sets.sets.items (given_up_first old.limits up e ends) worked stands.outcomes);
        causes = causes_moved old new (now_up ∷ before) news limits engine tables devices refl
            (subst (All (EndsByCause old.limits old.agent.engine old.agent.tables old.devices.list.items (now_up ∷ before))) (sym worked.new_is)
            (causes_at old.limits old.agent.engine old.agent.tables old.devices.list.items (now_up ∷ before) gs place (with_work worked.group (Ends e))
            (subst (λ (g : Group WaitingMessage Work). EndsByCause old.limits old.agent.engine old.agent.tables old.devices.list.items (now_up ∷ before) (with_work g (Ends e))) same
            (λ m q there asks_q.
            subst (λ (n : ℕ). EndsNow old.limits old.agent.engine old.agent.tables old.devices.list.items (given_up number device ∷ before) n q (Ends e)) (sym known.number_is)
            (given_up_cause old.agent.engine old.agent.tables old.devices.list.items before number device q old.limits up e ends
            (given_up_set old before place number device known m q there asks_q) (given_up_read old before place number device known m q there asks_q))))
            (causes_later old.limits old.agent.engine old.agent.tables old.devices.list.items now_up before gs stands.causes)));
      };
    }

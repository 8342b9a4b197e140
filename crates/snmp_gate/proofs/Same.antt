-- Requests that stay what they were, where memory runs out.
use Rattle.std.specs.Prelude.{◌≤◌, ◌-◌, ◌^◌, min, ◌≡◌, ◌<◌, ◌∷◌, ◌++◌, ℕ, zero, suc, List, [], All, Some, drop, length, map, slice_index_or, slice_set, take}
use Rattle.std.specs.List.{flat_map, HoldsAt}
use Rattle.std.proofs.Common.{refl, sym, ap, arith, inl, inr, subst, ◌∙◌}
use Rattle.std.proofs.lemmas.List.{length-append}
use Rattle.std.proofs.Math.Seq.{map-set_same}
use Rattle.snmp_msg.specs.Variables.{Variable, variables_of}
use Rattle.vacm_core.specs.Tables.{Tables}
use Rattle.snmp_walk.specs.BulkAnswer.{AllSaySame}
use Rattle.snmp_walk.specs.BulkAsk.{IsAskOf, asked_of}
use Rattle.snmp_walk.specs.BulkDialogue.{IsCountOf, bulk_requests_of}
use Rattle.snmp_walk.specs.Turns.{turn_in}
use Rattle.snmp_walk.specs.declared.bulk_ask.BulkAsk.{BulkAsk}
use Rattle.snmp_walk.specs.declared.bulk_ask.BulkAsk.TheVariants as way
use Rattle.gateway_laws.proofs.BulkTrueRuns.{all_say}
use Rattle.snmp_walk.specs.BulkColumn.{BulkStands}
use Rattle.snmp_walk.specs.declared.bulk_column.BulkColumn.{BulkColumn}
use Rattle.snmp_walk.specs.declared.bulk_dialogue.BulkDialogue.{BulkDialogue}
use Rattle.snmp_walk.specs.Bindings.{given_says}
use Rattle.snmp_walk.specs.BulkColumn.{StandsInBulk, given_in}
use Rattle.snmp_walk.specs.BulkSteps.{SaysSame}
use Rattle.snmp_walk.specs.declared.column.Progress.{Progress}
use Rattle.snmp_walk.specs.declared.given.GivenVariable.{GivenVariable}
use Rattle.snmp_gate.specs.Said.{Said}
use Rattle.snmp_gate.specs.Devices.{IsDeviceOf}
use Rattle.snmp_gate.specs.Groups.{Group, group_of, groups_of}
use Rattle.snmp_gate.specs.History.{Happening, told_in}
use Rattle.snmp_gate.specs.Messages.{seen_in}
use Rattle.snmp_gate.specs.Noting.{AsksSet}
use Rattle.snmp_gate.specs.Question.{Question}
use Rattle.snmp_gate.specs.ReadAsks.{bulk_type, bulk_variables_asked, max_repetitions_in, non_repeaters_in, variables_in}
use Rattle.snmp_gate.specs.Sending.{Requests}
use Rattle.snmp_gate.specs.Taking.{AllWorkSaysSame, BulkSaysSame, OpenSaysSame, TaskSaysSame, WorkSaysSame}
use Rattle.snmp_gate.specs.Waiting.{AllCameFrom, GroupStands, GroupsStand, OpenStands, WorkStands, messages_in}
use Rattle.snmp_gate.specs.Work.{BulkStandsFor, IsAskedBy, TaskStands, most_repetitions, request_of_task}
use Rattle.snmp_gate.specs.declared.devices.Device.{Device}
use Rattle.snmp_gate.specs.declared.requests.WaitingRequest.{WaitingRequest}
use Rattle.snmp_gate.specs.declared.task.Task.{Task}
use Rattle.snmp_gate.specs.declared.task.Task.TheVariants as task
use Rattle.snmp_gate.specs.declared.waiting_message.WaitingMessage.{WaitingMessage}
use Rattle.snmp_gate.specs.declared.work.OpenRequest.{OpenRequest}
use Rattle.snmp_gate.specs.Limits.{asks_since}
use Rattle.snmp_gate.specs.Time.{times_asked}
use Rattle.snmp_gate.specs.declared.timer.Timer.{Timer}
use Rattle.snmp_gate.specs.declared.work.Work.{Work}
use Rattle.snmp_gate.specs.declared.work.Work.TheVariants.{Open, Ends}
use Rattle.snmp_gate.proofs.GroupSteps.{group_at, groups_set}
use Rattle.snmp_gate.proofs.Histories.{Waiting, all_set, group_in, numbered_set, numbers_back}
use Rattle.std.proofs.lemmas.List.Elements.{All-cons, All-head, All-nil, All-tail}

column_stands : (Seen : List ℕ → Type 0) (told : List Variable) (old new : BulkColumn) → SaysSame old new → BulkStands Seen told old → BulkStands Seen told new
column_stands Seen told old new says stands =
    subst (λ (p : Progress). StandsInBulk Seen told new.first (given_in new) p) (sym says.progress)
    (subst (λ (gs : List GivenVariable). StandsInBulk Seen told new.first (map given_says gs) old.progress) (sym says.given)
    (subst (λ (r : List ℕ × ℕ). StandsInBulk Seen told r.0 (given_in old) old.progress) (sym says.same) stands))

columns_stand : (Seen : List ℕ → Type 0) (told : List Variable) (olds news : List BulkColumn) → AllSaySame olds news → All (BulkStands Seen told) olds → All (BulkStands Seen told) news
columns_stand Seen told olds [] zip all = All-nil (BulkStands Seen told)
columns_stand Seen told [] (n ∷ ns) zip all = absurd zip
columns_stand Seen told (o ∷ os) (n ∷ ns) zip all = All-cons (BulkStands Seen told) n ns (column_stands Seen told o n zip.0 (All-head (BulkStands Seen told) o os all))
    (columns_stand Seen told os ns zip.1 (All-tail (BulkStands Seen told) o os all))

columns_ask : (olds news : List BulkColumn) → AllSaySame olds news → bulk_variables_asked news ≡ bulk_variables_asked olds
columns_ask [] [] zip = refl
columns_ask [] (n ∷ ns) zip = absurd zip
columns_ask (o ∷ os) [] zip = absurd zip
columns_ask (o ∷ os) (n ∷ ns) zip = λ i. variables_in (zip.0.progress i) ++ columns_ask os ns zip.1 i

bulk_stands_same : (tables : Tables) (q : Question) (told : Said) (old new : BulkDialogue) → BulkSaysSame old new → BulkStandsFor tables q told old → BulkStandsFor tables q told new
bulk_stands_same tables q told old new same stands =
    let limits = same.says.limits in record {
      tag = stands.tag;
      first = subst (IsCountOf q.second) (sym limits.non_repeaters) stands.first;
      most = subst (IsCountOf q.third) (sym limits.max_repetitions) stands.most;
      requests_are = same.requests ∙ stands.requests_are ∙ (λ i. bulk_requests_of (sym limits.non_repeaters i) (sym limits.max_repetitions i) (variables_of q.list));
      few = stands.few;
      stand = columns_stand (seen_in tables q) told.variables old.columns.items new.columns.items same.says.columns stands.stand;
      tracks = λ device plain truly. all_say device (seen_in tables q) old.columns.items new.columns.items same.says.columns (stands.tracks device plain truly);
    }

-- as many columns are asked
first_asked : (n : ℕ) (olds news : List BulkColumn) → AllSaySame olds news → asked_of (take n news) ≡ asked_of (take n olds)
first_asked zero olds news zip = refl
first_asked (suc n) [] [] zip = refl
first_asked (suc n) [] (new ∷ news) zip = absurd zip
first_asked (suc n) (old ∷ olds) [] zip = absurd zip
first_asked (suc n) (old ∷ olds) (new ∷ news) zip =
    let rest = first_asked n olds news zip.1 in
    let turns : BulkColumn → List ℕ = λ c. turn_in 0 c.progress in
    omega (
      arith,
      length-append (turn_in 0 new.progress) (flat_map turns (take n news)),
      length-append (turn_in 0 old.progress) (flat_map turns (take n olds)),
      ap (λ (p : Progress). length (turn_in 0 p)) zip.0.progress,
      rest,
    )

all_asked : (olds news : List BulkColumn) → AllSaySame olds news → asked_of news ≡ asked_of olds
all_asked [] [] zip = refl
all_asked [] (new ∷ news) zip = absurd zip
all_asked (old ∷ olds) [] zip = absurd zip
all_asked (old ∷ olds) (new ∷ news) zip =
    let rest = all_asked olds news zip.1 in
    let turns : BulkColumn → List ℕ = λ c. turn_in 0 c.progress in
    omega (
      arith,
      length-append (turn_in 0 new.progress) (flat_map turns news),
      length-append (turn_in 0 old.progress) (flat_map turns olds),
      ap (λ (p : Progress). length (turn_in 0 p)) zip.0.progress,
      rest,
    )

others_asked : (n : ℕ) (olds news : List BulkColumn) → AllSaySame olds news → asked_of (drop n news) ≡ asked_of (drop n olds)
others_asked zero [] [] zip = refl
others_asked zero [] (new ∷ news) zip = absurd zip
others_asked zero (old ∷ olds) [] zip = absurd zip
others_asked zero (old ∷ olds) (new ∷ news) zip = all_asked (old ∷ olds) (new ∷ news) zip
others_asked (suc n) [] [] zip = refl
others_asked (suc n) [] (new ∷ news) zip = absurd zip
others_asked (suc n) (old ∷ olds) [] zip = absurd zip
others_asked (suc n) (old ∷ olds) (new ∷ news) zip = others_asked n olds news zip.1

ask_same : (n due : ℕ) (olds news : List BulkColumn) (by : BulkAsk) → AllSaySame olds news → IsAskOf n due olds by → IsAskOf n due news by
ask_same n due olds news way.GetNext zip (inl none) = inl (others_asked n olds news zip ∙ none)
ask_same n due olds news way.GetNext zip (inr one) = inr one
ask_same n due olds news (way.GetBulk singles repetitions) zip asks = (omega (arith, others_asked n olds news zip, asks.0), asks.1, asks.2 ∙ sym (first_asked n olds news zip), asks.3)

asked_by_same : (old new : BulkDialogue) (by : BulkAsk) → BulkSaysSame old new → IsAskedBy old by → IsAskedBy new by
asked_by_same old new by same asked = record {
  ask = same.says.ask ∙ asked.ask;
  repetitions = asked.repetitions;
  few = omega (arith, asked.few, same.says.limits.repetitions);
  columns = subst (λ (n : ℕ). IsAskOf n asked.repetitions new.columns.items by) (sym same.says.limits.non_repeaters) (ask_same old.non_repeaters asked.repetitions old.columns.items new.columns.items by same.says.columns asked.columns);
}

task_stands_same : (tables : Tables) (q : Question) (told : Said) (old new : Task) → TaskSaysSame old new → TaskStands tables q told old → TaskStands tables q told new
task_stands_same tables q told (task.Read o d) new same stands = subst (TaskStands tables q told) (sym same) stands
task_stands_same tables q told task.Set new same stands = subst (TaskStands tables q told) (sym same) stands
task_stands_same tables q told (task.Bulk by old) (task.Bulk other new) same stands = record {
  dialogue = bulk_stands_same tables q told old new same.1 stands.dialogue;
  asked = subst (IsAskedBy new) (sym same.0) (asked_by_same old new by same.1 stands.asked);
}
task_stands_same tables q told (task.Bulk by old) (task.Read o d) same stands = subst (TaskStands tables q told) (sym same) stands
task_stands_same tables q told (task.Bulk by old) task.Set same stands = subst (TaskStands tables q told) (sym same) stands

task_asks_same : (q : Question) (old new : Task) → TaskSaysSame old new → request_of_task q new ≡ request_of_task q old
task_asks_same q (task.Read o d) new same = ap (request_of_task q) same
task_asks_same q task.Set new same = ap (request_of_task q) same
task_asks_same q (task.Bulk by old) (task.Bulk other new) same = λ i. record {
  type = bulk_type (same.0 i);
  non_repeaters = non_repeaters_in (same.0 i);
  max_repetitions = max_repetitions_in (same.0 i);
  variables = columns_ask old.columns.items new.columns.items same.1.says.columns i;
}
task_asks_same q (task.Bulk by old) (task.Read o d) same = ap (request_of_task q) same
task_asks_same q (task.Bulk by old) task.Set same = ap (request_of_task q) same

-- a Set stays a Set
pub task_set_same : (old new : Task) → TaskSaysSame old new → new ≡ task.Set → old ≡ task.Set
task_set_same (task.Read o d) new same set = sym same ∙ set
task_set_same task.Set new same set = refl
task_set_same (task.Bulk by old) (task.Bulk other new) same set = absurd (let is : task.Bulk other new ≡ task.Set = set in cc)
task_set_same (task.Bulk by old) (task.Read o d) same set = sym same ∙ set
task_set_same (task.Bulk by old) task.Set same set = sym same ∙ set

pub work_set_same : (old new : Work) → WorkSaysSame old new → AsksSet new → AsksSet old
work_set_same (Open old) (Open new) same set = task_set_same old.task.task new.task.task same.task set
work_set_same (Open old) (Ends e) same set = absurd set
work_set_same (Ends e) new same set = subst AsksSet same set

-- it is asked for as many repetitions
task_repeats_same : (old new : Task) → TaskSaysSame old new → most_repetitions new ≡ most_repetitions old
task_repeats_same (task.Read o d) new same = ap most_repetitions same
task_repeats_same task.Set new same = ap most_repetitions same
task_repeats_same (task.Bulk by old) (task.Bulk other new) same = same.1.says.limits.repetitions
task_repeats_same (task.Bulk by old) (task.Read o d) same = ap most_repetitions same
task_repeats_same (task.Bulk by old) task.Set same = ap most_repetitions same

open_stands_same : (tables : Tables) (devices : List Device) (before : List Happening) (n : ℕ) (q : Question) (old new : OpenRequest) → OpenSaysSame old new → OpenStands tables devices before n q old → OpenStands tables devices before n q new
open_stands_same tables devices before n q old new same stands = record {
  task = task_stands_same tables q (told_in n before) old.task.task new.task.task same.task stands.task;
  device = subst (IsDeviceOf devices q.context) (sym same.device) stands.device;
  repetitions = subst (λ (at : ℕ). HoldsAt (λ (d : Device). most_repetitions new.task.task ≤ d.repetitions) devices at) (sym same.device)
      (λ d. let few = stands.repetitions d in omega (arith, few, task_repeats_same old.task.task new.task.task same.task));
  asked = λ id is. stands.asked id (sym same.asked ∙ is) ∙ (λ i. Some (record { device = sym same.device i; id = id; request = sym (task_asks_same q old.task.task new.task.task same.task) i }));
  set_once = λ set none. stands.set_once (task_set_same old.task.task new.task.task same.task set) (sym same.asked ∙ none);
  came = subst (λ (t : Timer). AllCameFrom before n t.began) (sym same.timer) stands.came;
  unasked = λ none. stands.unasked (sym same.asked ∙ none);
  tried = subst (λ (t : Timer). min (asks_since n before) (2 ^ 32 - 1) ≤ times_asked t.turn) (sym same.timer) stands.tried;
}

pub work_stands_same : (tables : Tables) (devices : List Device) (before : List Happening) (n : ℕ) (q : Question) (old new : Work) → WorkSaysSame old new → WorkStands tables devices before n q old → WorkStands tables devices before n q new
work_stands_same tables devices before n q (Open old) (Open new) same stands = open_stands_same tables devices before n q old new same stands
work_stands_same tables devices before n q (Ends e) new same stands = subst (WorkStands tables devices before n q) (sym same) stands
work_stands_same tables devices before n q (Open old) (Ends e) same stands = subst (WorkStands tables devices before n q) (sym same) stands

-- all stands as it did, where the work at a place says the same
pub all_stand_same : (tables : Tables) (devices : List Device) (before : List Happening) (next : ℕ) (rs : Requests) (place : ℕ) (r : WaitingRequest WaitingMessage Work) (w : Work) → place < length rs → r ≡ slice_index_or rs place r
    → WorkSaysSame r.work w → GroupsStand tables devices before next (groups_of rs)
    → GroupsStand tables devices before next (groups_of (slice_set rs place (record { number = r.number; first = r.first; others = r.others; work = w })))
all_stand_same tables devices before next rs place r w within is same stands =
    let at = group_at rs place r within is in
    let group = group_in tables devices before next (groups_of rs) place (group_of r) at stands in
    let new : WaitingRequest WaitingMessage Work = record { number = r.number; first = r.first; others = r.others; work = w } in
    let new_stands : GroupStands tables devices before (group_of new) = record {
      question = group.question;
      asks = group.asks;
      are_accepted = group.are_accepted;
      wait = group.wait;
      one = group.one;
      work = work_stands_same tables devices before r.number group.question r.work w same group.work;
    } in
    subst (GroupsStand tables devices before next) (sym (groups_set rs place new)) (record {
      all = all_set (GroupStands tables devices before) (GroupStands tables devices before) (groups_of rs) place (group_of r) (group_of new) stands.numbered.rise at stands.all new_stands (λ x other it. it);
      numbered = numbered_set next (groups_of rs) place (group_of r) (group_of new) at refl stands.numbered;
      past = stands.past;
      gone = λ n none. stands.gone n (numbers_back n (groups_of rs) place (group_of r) (group_of new) at refl none).0;
    })

-- the same messages ask the same requests
pub same_messages : (rs : Requests) (place : ℕ) (r s : WaitingRequest WaitingMessage Work) → place < length rs → r ≡ slice_index_or rs place r → ◌≡◌ {A = ℕ × List WaitingMessage} (s.number, s.first ∷ s.others.items) (r.number, r.first ∷ r.others.items)
    → messages_in (groups_of (slice_set rs place s)) ≡ messages_in (groups_of rs)
same_messages rs place r s within is same =
    let both : Group WaitingMessage Work → ℕ × List WaitingMessage = λ g. (g.number, g.messages) in
    ap (map both) (groups_set rs place s)
    ∙ map-set_same both (groups_of rs) place (group_of s) (group_of r)
    (same ∙ ap both (group_at rs place r within is).group_is)

-- ---- what is as it was says the same

columns_say_same : (cs : List BulkColumn) → AllSaySame cs cs
columns_say_same [] = tt
columns_say_same (c ∷ cs) = (record { same = refl; given = refl; progress = refl }, columns_say_same cs)

bulk_says_same : (d : BulkDialogue) → BulkSaysSame d d
bulk_says_same d = record {
  says = record {
    columns = columns_say_same d.columns.items;
    limits = record { non_repeaters = refl; max_repetitions = refl; repetitions = refl; at_once = refl; gathered = refl };
    rounds = refl;
    ask = refl;
  };
  requests = refl;
}

task_says_same : (t : Task) → TaskSaysSame t t
task_says_same (task.Bulk by d) = (refl, bulk_says_same d)
task_says_same (task.Read operation d) = refl
task_says_same task.Set = refl

work_says_same : (w : Work) → WorkSaysSame w w
work_says_same (Open o) = record { device = refl; timer = refl; asked = refl; task = task_says_same o.task.task }
work_says_same (Ends e) = refl

all_work_says_same : (gs : List Waiting) → AllWorkSaysSame gs gs
all_work_says_same [] = tt
all_work_says_same (g ∷ gs) = (work_says_same g.work, all_work_says_same gs)

pub work_as_before : (old new : List Waiting) → new ≡ old → AllWorkSaysSame old new
work_as_before old new is = subst (AllWorkSaysSame old) (sym is) (all_work_says_same old)

-- the work on one request says the same, and that on the others is as it was
work_set : (gs : List Waiting) (place : ℕ) (g h : Waiting) → place < length gs → g ≡ slice_index_or gs place g → WorkSaysSame g.work h.work → AllWorkSaysSame gs (slice_set gs place h)
work_set [] place g h within is same = tt
work_set (x ∷ gs) zero g h within is same = (subst (λ (y : Waiting). WorkSaysSame y.work h.work) is same, all_work_says_same gs)
work_set (x ∷ gs) (suc n) g h within is same = (work_says_same x.work, work_set gs n g h (omega (arith, within)) is same)

pub work_says_same_at : (rs : Requests) (place : ℕ) (r s : WaitingRequest WaitingMessage Work) → place < length rs → r ≡ slice_index_or rs place r → WorkSaysSame r.work s.work
    → AllWorkSaysSame (groups_of rs) (groups_of (slice_set rs place s))
work_says_same_at rs place r s within is same =
    let at = group_at rs place r within is in
    subst (AllWorkSaysSame (groups_of rs)) (sym (groups_set rs place s)) (work_set (groups_of rs) place (group_of r) (group_of s) at.within at.group_is same)

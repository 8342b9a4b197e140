-- What is to be done for a request.
use Rattle.std.specs.Prelude.{◌≡◌, ◌<◌, ◌+◌, ◌≤◌, ℕ, List, None, Some, length, max, slice_index_or, slice_set}
use Rattle.std.specs.List.{HoldsAt}
use Rattle.std.proofs.Common.{sym, ap, subst, ◌∙◌, arith}
use Rattle.std.proofs.Math.Seq.{map-set_same}
use Rattle.std.proofs.lemmas.List.{get_or-map, get_or-set_same, length-map, length-set}
use Rattle.std.proofs.lemmas.List.Elements.{All-set}
use Rattle.snmp_gate.specs.Bounds.{AreTimely, IsTimely, IsTurnOf, MayBeAsked}
use Rattle.snmp_gate.specs.Due.{HasEnded, HasRoom, IsTodo, retries_in}
use Rattle.snmp_gate.specs.Groups.{Group, IsWorked, group_of, groups_of, with_work}
use Rattle.snmp_gate.specs.Sending.{IsOpenAt, IsUnasked, Requests}
use Rattle.snmp_gate.specs.Waiting.{messages_in}
use Rattle.snmp_gate.specs.Time.{due_at, once_more, times_asked, turn_ends}
use Rattle.snmp_gate.specs.declared.asks.DeviceAsks.{DeviceAsks}
use Rattle.snmp_gate.specs.declared.limits.GateLimits.{GateLimits}
use Rattle.snmp_gate.specs.declared.named_task.NamedTask.{NamedTask}
use Rattle.snmp_gate.specs.declared.requests.WaitingRequest.{WaitingRequest}
use Rattle.snmp_gate.specs.declared.retries.Retries.{Retries}
use Rattle.snmp_gate.specs.declared.task.Task.{Task}
use Rattle.snmp_gate.specs.declared.task.Task.TheVariants as task
use Rattle.snmp_gate.specs.declared.timer.Timer.{Timer}
use Rattle.snmp_gate.specs.declared.timer.Turn.{Turn}
use Rattle.snmp_gate.specs.declared.timer.Turn.TheVariants.{Asked, ToAsk}
use Rattle.snmp_gate.specs.declared.waiting_message.WaitingMessage.{WaitingMessage}
use Rattle.snmp_gate.specs.declared.work.OpenRequest.{OpenRequest}
use Rattle.snmp_gate.specs.declared.work.Todo.TheVariants.{Answer, Ask, AskAgain, GiveUp}
use Rattle.snmp_gate.specs.declared.work.RequestEnd.{RequestEnd}
use Rattle.snmp_gate.specs.declared.work.Work.{Work}
use Rattle.snmp_gate.specs.declared.work.Work.TheVariants.{Open, Ends}
use Rattle.snmp_gate.proofs.Asked.{none_is_some}
use Rattle.snmp_gate.proofs.GivingUp.{pick}
use Rattle.snmp_gate.proofs.GroupSteps.{group_at, groups_set}
use Rattle.snmp_gate.proofs.Questions.{at_place}

module _ (limits : GateLimits) (asks : List DeviceAsks) (now : ℕ) where
  pub ends_answered : (w : Work) → IsTodo limits asks now w (Some Answer) → HasEnded w
  ends_answered (Open o) is = absurd is
  ends_answered (Ends e) is = tt

  pub open_asked : (w : Work) → IsTodo limits asks now w (Some Ask) → ¬ HasEnded w
  open_asked (Open o) is ended = ended
  open_asked (Ends e) is ended = is

  pub open_again : (w : Work) → IsTodo limits asks now w (Some AskAgain) → ¬ HasEnded w
  open_again (Open o) is ended = ended
  open_again (Ends e) is ended = is

  pub open_up : (w : Work) → IsTodo limits asks now w (Some GiveUp) → ¬ HasEnded w
  open_up (Open o) is ended = ended
  open_up (Ends e) is ended = is

  pub unasked : (w : Work) → IsTodo limits asks now w (Some Ask) → IsUnasked w
  unasked (Open o) is = is.0
  unasked (Ends e) is = absurd is

  -- the device of a request that is to be asked has room
  pub room_at : (rs : Requests) (place device number : ℕ) → place < length rs → HoldsAt (λ (r : WaitingRequest WaitingMessage Work). IsTodo limits asks now r.work (Some Ask)) rs place
      → IsOpenAt rs place device number → HasRoom asks device
  room_at rs place device number within todo opened =
      let one = pick rs place within in
      let at = opened one.0 in
      let is = subst (λ (w : Work). IsTodo limits asks now w (Some Ask)) at.1.1 (todo one.0) in
      subst (HasRoom asks) at.1.2 is.1

  pub may_ask : (w : Work) → IsTimely limits w → IsTodo limits asks now w (Some Ask) → MayBeAsked limits now w
  may_ask (Open o) timely is =
      let turn = timely.to_ask is.0 in
      let r = retries_in limits o.task.task in
      let times : times_asked o.timer.turn ≡ 0 = ap times_asked turn in
      let early : now < o.timer.began + r.last = subst (λ (t : Turn). now < turn_ends r o.timer.began t) turn is.2 in
      (early, omega (arith, times))
  may_ask (Ends e) timely is = tt

  pub may_again : (w : Work) → IsTodo limits asks now w (Some AskAgain) → MayBeAsked limits now w
  may_again (Open o) is = (is.1.early, omega (arith, is.1.tries))
  may_again (Ends e) is = tt

-- a request that is asked now
pub asked_timely : (limits : GateLimits) (now id : ℕ) (o a : OpenRequest) → MayBeAsked limits now (Open o) → a.task ≡ o.task → a.asked ≡ Some id → a.timer.began ≡ o.timer.began
    → a.timer.turn ≡ Asked now (once_more (times_asked o.timer.turn)) → IsTimely limits (Open a)
asked_timely limits now id o a may task asked began turn =
    let same : retries_in limits o.task.task ≡ retries_in limits a.task.task = ap (λ (t : NamedTask). retries_in limits t.task) (sym task) in
    let r = retries_in limits o.task.task in
    let some : once_more (times_asked o.timer.turn) ≤ times_asked o.timer.turn + 1 = omega arith in
    let early : now < a.timer.began + r.last = omega (arith, may.0, began) in
    let few : once_more (times_asked o.timer.turn) ≤ max 1 r.tries = omega (arith, some, may.1) in record {
      turn = subst (λ (t : Turn). IsTurnOf (retries_in limits a.task.task) a.timer.began t) (sym turn)
          (subst (λ (x : Retries). IsTurnOf x a.timer.began (Asked now (once_more (times_asked o.timer.turn)))) same (early, few));
      to_ask = λ none. absurd (none_is_some id (sym none ∙ asked));
    }

pub timely_set : (limits : GateLimits) (rs : Requests) (place : ℕ) (r s : WaitingRequest WaitingMessage Work) → place < length rs → r ≡ slice_index_or rs place r → (IsTimely limits r.work → IsTimely limits s.work)
    → AreTimely limits (groups_of rs) → AreTimely limits (groups_of (slice_set rs place s))
timely_set limits rs place r s within is keeps timely =
    let P : Group WaitingMessage Work → Type 0 = λ g. IsTimely limits g.work in
    subst (AreTimely limits) (sym (groups_set rs place s))
    (All-set P (groups_of rs) place (group_of s) (keeps (at_place P (groups_of rs) place (group_of r) (group_at rs place r within is) timely)) timely)

-- the request at a place ends
pub worked_ended : (rs new : Requests) (place : ℕ) (was : Work) (e : RequestEnd) → IsWorked (groups_of rs) place was (Ends e) (groups_of new) → HoldsAt (λ (r : WaitingRequest WaitingMessage Work). HasEnded r.work) new place
worked_ended rs new place was e worked r =
    let g = worked.group in
    let h = with_work g (Ends e) in
    let long : length (groups_of new) ≡ length (groups_of rs) = ap (λ (gs : List (Group WaitingMessage Work)). length gs) worked.new_is ∙ length-set (groups_of rs) place h in
    let same : length (groups_of new) ≡ length new = length-map new (λ (x : WaitingRequest WaitingMessage Work). group_of x) in
    let within : place < length new = omega (arith, worked.at.within, long, same) in
    let read : slice_index_or (groups_of new) place (group_of r) ≡ group_of (slice_index_or new place r) = get_or-map (λ (x : WaitingRequest WaitingMessage Work). group_of x) new place r (group_of r) within in
    let ended : (slice_index_or (groups_of new) place (group_of r)).work ≡ Ends e =
    ap (λ (gs : List (Group WaitingMessage Work)). (slice_index_or gs place (group_of r)).work) worked.new_is ∙ ap (λ (x : Group WaitingMessage Work). x.work) (get_or-set_same (groups_of rs) place h (group_of r) worked.at.within) in
    subst HasEnded (sym (ap (λ (x : Group WaitingMessage Work). x.work) (sym read) ∙ ended)) tt

pub worked_messages : (gs new : List (Group WaitingMessage Work)) (place : ℕ) (was after : Work) → IsWorked gs place was after new → messages_in new ≡ messages_in gs
worked_messages gs new place was after worked =
    let f : Group WaitingMessage Work → ℕ × List WaitingMessage = λ g. (g.number, g.messages) in
    ap messages_in worked.new_is ∙ map-set_same f gs place (with_work worked.group after) worked.group (ap f worked.at.group_is)

-- nothing is due for it, so it came not long ago
idle_turn : (r : Retries) (began now : ℕ) (turn : Turn) → IsTurnOf r began turn → now < turn_ends r began turn → now < began + r.last + r.again
idle_turn r began now ToAsk is idle = omega (arith, idle)
idle_turn r began now (Asked at times) is idle = omega (arith, idle, is.0)

pub idle_in_time : (r : Retries) (now : ℕ) (t : Timer) → IsTurnOf r t.began t.turn → now < due_at r t → now < t.began + r.last + r.again
idle_in_time r now t is idle = idle_turn r t.began now t.turn is idle

few_tries : (limits : GateLimits) (t : Task) → (retries_in limits t).tries ≤ max 1 limits.retries.tries
few_tries limits (task.Read o d) = omega arith
few_tries limits (task.Bulk by d) = omega arith
few_tries limits task.Set = omega arith

module _ (limits : GateLimits) (asks : List DeviceAsks) (now : ℕ) (rs : Requests) (place : ℕ) where
  pub asked_none : (o : OpenRequest) (r : WaitingRequest WaitingMessage Work) → HoldsAt (λ (x : WaitingRequest WaitingMessage Work). IsTodo limits asks now x.work (Some Ask)) rs place → (slice_index_or rs place r).work ≡ Open o → o.asked ≡ None
  asked_none o r todo is = (subst (λ (x : Work). IsTodo limits asks now x (Some Ask)) is (todo r)).0

  pub tried_less : (o : OpenRequest) (r : WaitingRequest WaitingMessage Work) → HoldsAt (λ (x : WaitingRequest WaitingMessage Work). IsTodo limits asks now x.work (Some AskAgain)) rs place → (slice_index_or rs place r).work ≡ Open o
      → times_asked o.timer.turn < max 1 limits.retries.tries
  tried_less o r todo is =
      let due = subst (λ (x : Work). IsTodo limits asks now x (Some AskAgain)) is (todo r) in
      omega (arith, due.1.tries, few_tries limits o.task.task)

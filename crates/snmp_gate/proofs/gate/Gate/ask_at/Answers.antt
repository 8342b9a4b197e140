use Rattle.std.proofs.Common.{arith, [], ◌%◌, ◌++◌, ◌≡◌, ◌<◌, ◌∷◌, ◌∙◌, ℕ, List, Some, length, slice_index_or, ap, inl, refl, subst, sym}
use Rattle.std.proofs.lemmas.List.{get_or_default, length_push}
use Rattle.std.proofs.lemmas.List.Elements.{at_read}
use Rattle.snmp_gate.specs.Bounds.{IsTimely, MayBeAsked}
use Rattle.snmp_gate.specs.Due.{IsTodo}
use Rattle.snmp_gate.specs.declared.asks.DeviceAsk.{DeviceAsk}
use Rattle.snmp_gate.specs.declared.requests.WaitingRequest.{WaitingRequest}
use Rattle.snmp_gate.specs.declared.waiting_message.WaitingMessage.{WaitingMessage}
use Rattle.snmp_gate.specs.declared.work.Todo.TheVariants.{Ask}
use Rattle.snmp_gate.specs.declared.work.Work.{Work}
use Rattle.snmp_gate.proofs.Shares.{asked_no_other}
use Rattle.snmp_gate.proofs.Bounded.{agent_same, asks_set, bounded_set, stays_of, stays_same}
use Rattle.snmp_gate.proofs.Questions.{at_place}
use Rattle.snmp_gate.proofs.Todos.{asked_none, may_ask, open_asked, room_at, unasked}
use Rattle.snmp_gate.specs.declared.asks.DeviceAsks.{DeviceAsks}
use Rattle.snmp_gate.specs.Asks.{IsNextFree, ask_of}
use Rattle.snmp_gate.specs.Groups.{Group, group_of, groups_of}
use Rattle.snmp_gate.specs.History.{asked}
use Rattle.std.proofs.Math.Seq.{map-set_same}
use Rattle.snmp_gate.proofs.GroupSteps.{group_at, on_err}
use Rattle.snmp_gate.proofs.AsksKept.{asks_asked, asks_of_asked, free_again, free_own, is_free_in, long_lists}
use Rattle.snmp_gate.proofs.Histories.{asked_all, asked_so_far, moved}
use Rattle.snmp_gate.proofs.Keeping.{stands_kept, stays_as_before}
use Rattle.snmp_gate.proofs.Same.{work_as_before}
use Rattle.snmp_gate.proofs.SetsGoing.{asked_causes, asked_once, asked_outcomes, asked_sets, unasked_never}
use Rattle.snmp_gate.specs.Waiting.{AsksStand, asks_in, fresh}
use Rattle.snmp_gate.specs.declared.asks.TheConstants.{REQUEST_IDS}
use Rattle.snmp_gate.proofs.Sending.{on_ok}
use Rattle.snmp_gate.proofs.Told.{unasked_before}
use Rattle.std.proofs.lemmas.Bool.{false≢true}
use Rattle.snmp_gate.proofs.gate.Gate.ask_at.Goals as goal

-- what is read twice is the same
read_same : {A : Type 0} (xs : List A) (i : ℕ) (a b : A) → i < length xs → a ≡ slice_index_or xs i a → b ≡ slice_index_or xs i b → a ≡ b
read_same xs i a b within is also = is ∙ get_or_default xs i a b within ∙ sym also

pub device_at-device-requires-clause-goes_on : goal.device_at-device-requires-clause-goes_on
device_at-device-requires-clause-goes_on c r = open_asked c.args.self.now.limits c.args.self.now.asks.items c.args.now (slice_index_or c.args.self.now.requests.list.items c.args.place r).work (c.requires.due r)

pub give_up_at-requires-clause-goes_on : goal.give_up_at-requires-clause-goes_on
give_up_at-requires-clause-goes_on c r = open_asked c.args.self.now.limits c.args.self.now.asks.items c.args.now (slice_index_or c.args.self.now.requests.list.items c.args.place r).work (c.requires.due r)

pub index-requires : goal.index-requires
index-requires c = omega (arith, (room_at c.args.self.now.limits c.args.self.now.asks.items c.args.now c.args.self.now.requests.list.items c.args.place c.device_at-device.result.0 c.device_at-device.result.1 c.requires.place c.requires.due c.device_at-device.ensures).within, c.args.self.now.asks.ok.0)

pub index_mut-requires : goal.index_mut-requires
index_mut-requires c = omega (arith, (room_at c.args.self.now.limits c.args.self.now.asks.items c.args.now c.args.self.now.requests.list.items c.args.place c.device_at-device.result.0 c.device_at-device.result.1 c.requires.place c.requires.due c.device_at-device.ensures).within, c.args.self.now.asks.ok.0)

pub free_id-id-requires-clause-room : goal.free_id-id-requires-clause-room
free_id-id-requires-clause-room c =
    subst (λ (x : DeviceAsks). length x.asks.items < x.at_once) (sym c.index.ensures)
    ((room_at c.args.self.now.limits c.args.self.now.asks.items c.args.now c.args.self.now.requests.list.items c.args.place c.device_at-device.result.0 c.device_at-device.result.1 c.requires.place c.requires.due c.device_at-device.ensures).few c.index.result.now)

pub ask-requires-clause-room : goal.ask-requires-clause-room
ask-requires-clause-room c =
    subst (λ (x : DeviceAsks). length x.asks.items < x.at_once) (sym c.index_mut.ensures.value)
    ((room_at c.args.self.now.limits c.args.self.now.asks.items c.args.now c.args.self.now.requests.list.items c.args.place c.device_at-device.result.0 c.device_at-device.result.1 c.requires.place c.requires.due c.device_at-device.ensures).few c.index_mut.result.now)

pub set_asked-requires : goal.set_asked-requires
set_asked-requires c = c.requires.place

pub returns-clause-happens : goal.returns-clause-happens
returns-clause-happens c since before later stands =
    let g = c.args.self.now in
    let rs = g.requests.list.items in
    let place = c.args.place in
    let n = c.device_at-device.result.1 in
    let device = c.device_at-device.result.0 in
    let id = c.free_id-id.result in
    let datagram = c.in-Some.datagram in
    let opened = c.device_at-device.ensures in
    let sets = c.set_asked.ensures.asked in
    let new = c.set_asked.new.requests.list.items in
    let may = rw c.in-Some.is at c.in_ok-datagram.ensures in
    let known = asked_so_far g.agent.tables g.devices.list.items before g.requests.next rs place device n sets.request c.requires.place sets.is opened stands.requests in
    let none = asked_none g.limits g.asks.items c.args.now rs place known.waits sets.request c.requires.due (known.is_there sets.request) in
    let all = asked_all g.agent g.devices.list.items before g.requests.next rs new place device n id datagram c.requires.place opened may sets stands.requests in
    let inside = (room_at g.limits g.asks.items c.args.now rs place device n c.requires.place c.requires.due opened).within in
    let lists = asks_in g.asks.items in
    let in_lists : device < length lists = omega (arith, inside, long_lists g.asks.items) in
    let free = is_free_in g.asks.items device c.index.result.now (c.args.ask_id % REQUEST_IDS) id inside c.index.ensures c.free_id-id.ensures.free in
    let asks = asks_asked before n device id (c.args.ask_id % REQUEST_IDS) all.request datagram.items lists in_lists stands.asks free in
    let here = subst (λ (x : DeviceAsks). IsNextFree x.asks.items (c.args.ask_id % REQUEST_IDS) id) (read_same g.asks.items device c.index.result.now c.index_mut.result.now inside c.index.ensures c.index_mut.ensures.value) c.free_id-id.ensures.free in
    let again = free_again c.index_mut.result.now.asks.items (c.args.ask_id % REQUEST_IDS) id c.in_ok-ask.field-0 c.free_id-id.ensures.small here c.in_ok-ask.ensures.ok.0 in
    let now_in = asks_of_asked g.asks.items device c.index_mut.result.now c.ask.new.self id n inside c.index_mut.ensures.value
    (c.in_ok-ask.ensures.ok.1 ∙ ap (λ (i : ℕ). c.index_mut.result.now.asks.items ++ ask_of i n ∷ []) again) in (
      id,
      all.request,
      inl free,
      record {
        lawful = record {
          mediated = all.mediated;
          in_turn = tt;
          own_id = free_own before n device id (c.args.ask_id % REQUEST_IDS) all.request datagram.items lists in_lists stands.asks free;
          once = asked_once g.agent.tables g.devices.list.items before g.requests.next rs new place device n id datagram.items all.request c.requires.place opened sets stands.requests since g.sets.sets.items
              (unasked_never g.agent.tables g.devices.list.items before g.requests.next rs new place device n id datagram.items all.request c.requires.place opened sets stands.requests (λ r. unasked g.limits g.asks.items c.args.now (slice_index_or rs place r).work (c.requires.due r))) stands.sets;
        };
        allowed = let none_asked = known.unasked none in omega (arith, none_asked);
        stands = record {
          requests = moved g.agent.tables g.agent.tables g.devices.list.items g.devices.list.items (asked n device id all.request datagram.items ∷ before) g.requests.next c.set_asked.new.requests.next (groups_of new) (groups_of new)
              refl refl c.set_asked.ensures.next refl all.stands;
          asks = subst (AsksStand (asked n device id all.request datagram.items ∷ before)) (sym now_in) asks;
          sets = asked_sets g.agent.tables g.devices.list.items before g.requests.next rs new place device n id datagram.items all.request c.requires.place opened sets stands.requests since c.args.now g.sets.sets.items later stands.sets;
          outcomes = asked_outcomes g.agent.tables g.devices.list.items before g.requests.next rs new place device n id datagram.items all.request c.requires.place opened sets stands.requests g.sets.sets.items stands.outcomes;
          causes = asked_causes g.agent.tables g.devices.list.items before g.requests.next rs new place device n id datagram.items all.request c.requires.place opened sets stands.requests g.limits g.agent.engine stands.causes;
        };
      },
    )

pub returns-in_default-clause-happens : goal.returns-in_default-clause-happens
returns-in_default-clause-happens c =
    on_ok c.answer_too_long.result _ _ (λ sent happens since before later stands. happens since c.args.ask_id before later stands) c.answer_too_long.ensures.happens

pub returns-clause-stays : goal.returns-clause-stays
returns-clause-stays c =
    let g = c.args.self.now in
    let rs = g.requests.list.items in
    let place = c.args.place in
    let due = c.requires.due in
    let sets = c.set_asked.ensures.asked in
    let r = sets.request in
    let s : WaitingRequest WaitingMessage Work = record { number = r.number; first = r.first; others = r.others; work = sets.work } in
    let a = c.index_mut.result.now in
    let room = room_at g.limits g.asks.items c.args.now rs place c.device_at-device.result.0 c.device_at-device.result.1 c.requires.place due c.device_at-device.ensures in
    let few = subst (λ (x : DeviceAsks). length x.asks.items < x.at_once) (sym c.index_mut.ensures.value) (room.few a) in
    let long = ap (λ (xs : List DeviceAsk). length xs) c.in_ok-ask.ensures.ok.1 ∙ length_push a.asks.items (ask_of c.in_ok-ask.field-0 c.device_at-device.result.1) in
    stays_of g _ (agent_same g.agent g.agent refl) refl refl
    (λ b. bounded_set g.limits g.requests c.set_asked.new.requests c.set_asked.ensures.most c.set_asked.ensures.most_messages place r s c.requires.place sets.is sets.new_is refl
    (asked_no_other rs c.set_asked.new.requests.list.items place _ c.device_at-device.result.0 c.device_at-device.result.1 sets c.device_at-device.ensures)
    (c.set_asked.ensures.timely g.limits
    (at_read rs (λ (x : WaitingRequest WaitingMessage Work). MayBeAsked g.limits c.args.now x.work) place r c.requires.place sets.is
    (may_ask g.limits g.asks.items c.args.now r.work
    (at_place (λ (x : Group WaitingMessage Work). IsTimely g.limits x.work) (groups_of rs) place (group_of r) (group_at rs place r c.requires.place sets.is) b.timely)
    (subst (λ (x : WaitingRequest WaitingMessage Work). IsTodo g.limits g.asks.items c.args.now x.work (Some Ask)) (sym sets.is) (due r))))) b)
    (asks_set g.devices.list.items g.asks.items c.device_at-device.result.0 a c.ask.new.self room.within c.index_mut.ensures.value c.ask.ensures.at_once (λ was. omega (arith, long, few, c.ask.ensures.at_once)))

pub returns-in_err-ask-clause-stays : goal.returns-in_err-ask-clause-stays
returns-in_err-ask-clause-stays c =
    let g = c.args.self.now in
    let a = c.index_mut.result.now in
    let room = room_at g.limits g.asks.items c.args.now g.requests.list.items c.args.place c.device_at-device.result.0 c.device_at-device.result.1 c.requires.place c.requires.due c.device_at-device.ensures in
    stays_of g _ (agent_same g.agent g.agent refl) refl refl (λ b. b)
    (asks_set g.devices.list.items g.asks.items c.device_at-device.result.0 a c.ask.new.self room.within c.index_mut.ensures.value c.ask.ensures.at_once
    (λ was. omega (arith, was, c.ask.ensures.at_once, ap (λ (xs : List DeviceAsk). length xs) c.in_err-ask.ensures.err)))

pub returns-in_err-datagram-clause-stays : goal.returns-in_err-datagram-clause-stays
returns-in_err-datagram-clause-stays c = stays_same c.args.self.now

pub returns-then-device-len-clause-happens : goal.returns-then-device-len-clause-happens
returns-then-device-len-clause-happens c since before later stands = c.give_up_at.ensures.happens since c.args.now before (fresh c.args.salt c.args.ask_id) later stands

pub returns-in_err-ask-clause-err : goal.returns-in_err-ask-clause-err
returns-in_err-ask-clause-err c =
    let asks = c.args.self.now.asks.items in
    on_err c.from_residual-in_err-ask.result _ (record {
      agent = refl;
      devices = refl;
      limits = refl;
      asks = map-set_same (λ (a : DeviceAsks). a.asks.items) asks c.device_at-device.result.0 c.ask.new.self c.index_mut.result.now
          (c.in_err-ask.ensures.err ∙ ap (λ (a : DeviceAsks). a.asks.items) c.index_mut.ensures.value);
      messages = refl;
      work = work_as_before (groups_of c.args.self.now.requests.list.items) (groups_of c.args.self.now.requests.list.items) refl;
      next = refl;
      sets = inl refl;
      stands = stands_kept c.args.now c.args.self.now _ refl refl refl refl
          (map-set_same (λ (a : DeviceAsks). a.asks.items) asks c.device_at-device.result.0 c.ask.new.self c.index_mut.result.now
          (c.in_err-ask.ensures.err ∙ ap (λ (a : DeviceAsks). a.asks.items) c.index_mut.ensures.value))
          refl refl (inl refl);
    })

pub returns-in_err-datagram-clause-err : goal.returns-in_err-datagram-clause-err
returns-in_err-datagram-clause-err c = on_err c.from_residual.result _ (stays_as_before c.args.now c.args.self.now)

pub returns-clause-told : goal.returns-clause-told
returns-clause-told c r =
    (sym (c.device_at-device.ensures r).0, (λ is. absurd (false≢true is), λ asked. absurd (unasked_before c.args.self.now.limits c.args.self.now.asks.items c.args.now (slice_index_or c.args.self.now.requests.list.items c.args.place r).work (c.requires.due r) asked)))

pub answer_too_long-requires-clause-goes_on : goal.answer_too_long-requires-clause-goes_on
answer_too_long-requires-clause-goes_on c r = open_asked c.args.self.now.limits c.args.self.now.asks.items c.args.now (slice_index_or c.args.self.now.requests.list.items c.args.place r).work (c.requires.due r)

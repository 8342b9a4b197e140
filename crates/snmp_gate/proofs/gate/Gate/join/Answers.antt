use Rattle.std.proofs.Common.{arith, ap, HoldsAt, refl, subst, sym, ◌∙◌}
use Rattle.std.specs.Prelude.{All, List, ◌∷◌, ◌≡◌, ◌<◌, length}
use Rattle.snmp_gate.specs.Beginning.{MayBeJoined}
use Rattle.snmp_gate.specs.Groups.{Group, group_of, groups_of}
use Rattle.snmp_gate.specs.History.{accepted}
use Rattle.snmp_gate.specs.Messages.{question_in}
use Rattle.snmp_agent.specs.Agent.{AgentState}
use Rattle.snmp_gate.specs.declared.devices.Devices.{Devices}
use Rattle.snmp_gate.specs.declared.requests.WaitingRequests.{WaitingRequests}
use Rattle.snmp_gate.specs.declared.requests.WaitingRequest.{WaitingRequest}
use Rattle.snmp_gate.specs.declared.waiting_message.WaitingMessage.{WaitingMessage}
use Rattle.snmp_gate.specs.declared.work.Work.{Work}
use Rattle.std.specs.Global.{Vec}
use Rattle.snmp_gate.specs.Waiting.{AsksStand, EndsByCause, OutcomesStand, SetsStand, asks_in}
use Rattle.snmp_gate.specs.declared.asks.DeviceAsks.{DeviceAsks}
use Rattle.snmp_gate.proofs.AsksKept.{asks_same}
use Rattle.snmp_gate.proofs.Causing.{causes_joined, causes_later, causes_moved}
use Rattle.snmp_gate.proofs.GroupSteps.{group_at, on_err}
use Rattle.std.proofs.lemmas.List.{get_or_default}
use Rattle.snmp_gate.proofs.Histories.{moved}
use Rattle.snmp_gate.specs.declared.gate.Gate.{Gate}
use Rattle.snmp_gate.specs.declared.requests.Joined.TheVariants.{Joined}
use Rattle.snmp_gate.proofs.Bounded.{agent_same, bounded_joined, stays_forgotten, stays_noted, stays_on, stays_requests}
use Rattle.snmp_gate.proofs.Keeping.{forgotten, keeps_no_room, keeps_repeated, same_before, stands_noted}
use Rattle.snmp_gate.proofs.SetsComing.{joined_sets}
use Rattle.snmp_gate.proofs.Repeating.{joined_outcomes}
use Rattle.snmp_gate.proofs.Joining.{joined_all, joins_in_turn, request_asks}
use Rattle.snmp_gate.specs.Untaken.{AsksIn}
use Rattle.snmp_gate.proofs.Untaken.{again_before, again_full, full_of_messages}
use Rattle.snmp_gate.proofs.gate.Gate.join.Goals as goal

pub returns-in-Ok-Joined-clause-takes : goal.returns-in-Ok-Joined-clause-takes
returns-in-Ok-Joined-clause-takes c since before datagram later digest stands =
    let g = c.args.self.now in
    let n = c.note_again.new.self in
    let m = c.args.message in
    let place = c.args.place in
    let rs = n.requests.list.items in
    let r = c.index.result.now in
    let note = c.note_again.ensures.same in
    let new = groups_of c.join.new.self.list.items in
    let same = subst (λ (x : List (WaitingRequest WaitingMessage Work)). HoldsAt (λ (y : WaitingRequest WaitingMessage Work). (question_in y.first ≡ question_in m) × MayBeJoined y.work) x place)
    (sym (ap (λ (x : WaitingRequests WaitingMessage Work). x.list.items) note.requests)) c.requires.same in
    let within = subst (λ (x : WaitingRequests WaitingMessage Work). place < length x.list.items) (sym note.requests) c.requires.place in
    let asks = subst (λ (x : WaitingRequest WaitingMessage Work). question_in x.first ≡ question_in m) (sym c.index.ensures) (same r).0 in
    let requests = moved g.agent.tables n.agent.tables g.devices.list.items n.devices.list.items before g.requests.next n.requests.next (groups_of g.requests.list.items) (groups_of rs)
    (ap (λ (x : AgentState). x.tables) note.agent)
    (ap (λ (x : Devices). x.list.items) note.devices)
    (ap (λ (x : WaitingRequests WaitingMessage Work). x.next) note.requests)
    (ap (λ (x : WaitingRequests WaitingMessage Work). groups_of x.list.items) note.requests)
    stands.requests in
    let joins = rw c.in-Ok-Joined.field-0-is at c.in-Ok-Joined.ensures.joined in
    let all = joined_all n.agent.tables n.devices.list.items before n.requests.next n.requests.most_messages rs place r m new c.args.now datagram within c.index.ensures asks joins (λ k then v x there. let by = stands.sets.past k then v x there in omega (arith, by, later)) requests in
    let known = subst (λ (x : WaitingRequests WaitingMessage Work). SetsStand since before (groups_of x.list.items) g.sets.sets.items) (sym note.requests) stands.sets in (
      joins_in_turn n.agent.tables n.devices.list.items before n.requests.next rs place r m c.args.now datagram within c.index.ensures asks requests,
      record {
        requests = moved n.agent.tables n.agent.tables n.devices.list.items n.devices.list.items (accepted r.number c.args.now datagram m ∷ before) n.requests.next c.join.new.self.next new new
            refl refl c.join.ensures.next refl all;
        asks = asks_same (accepted r.number c.args.now datagram m) before (asks_in n.asks.items) (λ k. refl) (subst (λ (v : Vec DeviceAsks). AsksStand before (asks_in v.items)) (sym note.asks) stands.asks);
        sets = joined_sets n.agent.tables n.devices.list.items before n.requests.next rs place n.requests.most_messages r m new since c.args.now datagram g.sets.sets.items n.sets.sets.items within c.index.ensures
            (request_asks n.agent.tables n.devices.list.items before n.requests.next rs place r within c.index.ensures requests) asks joins digest later (rw c.in-New.is at c.in_ok-note_again.ensures.noted) requests known;
        outcomes = joined_outcomes n.requests.most_messages r.number c.args.now place datagram m before (groups_of rs) new g.sets.sets.items n.sets.sets.items digest (rw c.in-New.is at c.in_ok-note_again.ensures.noted) joins
            (λ y at. subst (λ (x : Group WaitingMessage Work). MayBeJoined x.work) (sym (at.group_is ∙ get_or_default (groups_of rs) place y (group_of r) at.within ∙ sym (group_at rs place r within c.index.ensures).group_is)) (subst (λ (x : WaitingRequest WaitingMessage Work). MayBeJoined x.work) (sym c.index.ensures) (same r).1))
            (subst (λ (x : WaitingRequests WaitingMessage Work). OutcomesStand before (groups_of x.list.items) g.sets.sets.items) (sym note.requests) stands.outcomes);
        causes = (let e = accepted r.number c.args.now datagram m in
            let here = causes_moved g n before (groups_of rs) note.limits (ap (λ (x : AgentState). x.engine) note.agent) (ap (λ (x : AgentState). x.tables) note.agent) note.devices refl
            (subst (λ (x : WaitingRequests WaitingMessage Work). All (EndsByCause g.limits g.agent.engine g.agent.tables g.devices.list.items before) (groups_of x.list.items)) (sym note.requests) stands.causes) in
            causes_later n.limits n.agent.engine n.agent.tables n.devices.list.items e before new
            (causes_joined n.limits n.agent.engine n.agent.tables n.devices.list.items before n.requests.most_messages rs place r m new within c.index.ensures asks joins here));
      },
    )

pub returns-in_err-note_again-clause-err : goal.returns-in_err-note_again-clause-err
returns-in_err-note_again-clause-err c = on_err c.from_residual.result _ (same_before c.args.now c.args.self.now c.note_again.new.self c.note_again.ensures.same c.in_err-note_again.ensures.err)

pub returns-in-Repeated-clause-takes : goal.returns-in-Repeated-clause-takes
returns-in-Repeated-clause-takes c since before datagram later digest stands =
    stands_noted c.args.now c.args.self.now c.note_again.new.self c.note_again.ensures.same
    (keeps_repeated c.args.now c.args.message.digest c.args.self.now.sets.sets.items c.note_again.new.self.sets.sets.items _ (rw c.in-Repeated.is at c.in_ok-note_again.ensures.noted)) since before later stands

pub returns-in-NoRoom-clause-takes : goal.returns-in-NoRoom-clause-takes
returns-in-NoRoom-clause-takes c since before datagram later digest stands =
    stands_noted c.args.now c.args.self.now c.note_again.new.self c.note_again.ensures.same
    (keeps_no_room c.args.now c.args.message.digest c.args.self.now.sets.sets.items c.note_again.new.self.sets.sets.items (rw c.in-NoRoom.is at c.in_ok-note_again.ensures.noted)) since before later stands

pub returns-in-Ok-NoRoom-clause-takes : goal.returns-in-Ok-NoRoom-clause-takes
returns-in-Ok-NoRoom-clause-takes c since before datagram later digest stands =
    let g = c.args.self.now in
    let n = c.note_again.new.self in
    let u = c.unnote.new.self in
    let joins = rw c.in-Ok-NoRoom.field-0-is at c.in-Ok-NoRoom.ensures.joined in
    (forgotten c.args.now g n c.join.new.self u c.args.message.digest c.noted_again.result c.note_again.ensures.same c.unnote.ensures.same joins.3 c.join.ensures.next
    (rw c.in-New.is at c.in_ok-note_again.ensures.noted) c.noted_again.ensures c.unnote.ensures.sets).stands since before later stands

pub returns-in-Ok-NoRoom-clause-untaken : goal.returns-in-Ok-NoRoom-clause-untaken
returns-in-Ok-NoRoom-clause-untaken c untaken =
    let joins = rw c.in-Ok-NoRoom.field-0-is at c.in-Ok-NoRoom.ensures.joined in
    forgotten c.args.now c.args.self.now c.note_again.new.self c.join.new.self c.unnote.new.self c.args.message.digest c.noted_again.result c.note_again.ensures.same c.unnote.ensures.same joins.3 c.join.ensures.next
    (rw c.in-New.is at c.in_ok-note_again.ensures.noted) c.noted_again.ensures c.unnote.ensures.sets

pub returns-in-Ok-Joined-clause-untaken : goal.returns-in-Ok-Joined-clause-untaken
returns-in-Ok-Joined-clause-untaken c untaken = absurd untaken

pub returns-in-Repeated-clause-untaken : goal.returns-in-Repeated-clause-untaken
returns-in-Repeated-clause-untaken c untaken =
    let g = c.args.self.now in
    same_before c.args.now g c.note_again.new.self c.note_again.ensures.same
    (keeps_repeated c.args.now c.args.message.digest g.sets.sets.items c.note_again.new.self.sets.sets.items _ (rw c.in-Repeated.is at c.in_ok-note_again.ensures.noted))

pub returns-in-NoRoom-clause-untaken : goal.returns-in-NoRoom-clause-untaken
returns-in-NoRoom-clause-untaken c untaken =
    let g = c.args.self.now in
    same_before c.args.now g c.note_again.new.self c.note_again.ensures.same
    (keeps_no_room c.args.now c.args.message.digest g.sets.sets.items c.note_again.new.self.sets.sets.items (rw c.in-NoRoom.is at c.in_ok-note_again.ensures.noted))

pub returns-in-Repeated-clause-cause : goal.returns-in-Repeated-clause-cause
returns-in-Repeated-clause-cause c =
    again_before c.args.now c.args.message.digest c.args.self.now c.note_again.new.self.sets.sets.items _ (rw c.in-Repeated.is at c.in_ok-note_again.ensures.noted)

pub returns-in-NoRoom-clause-cause : goal.returns-in-NoRoom-clause-cause
returns-in-NoRoom-clause-cause c =
    again_full c.args.now c.args.message.digest c.args.self.now c.note_again.new.self.sets.sets.items (AsksIn c.args.message) (rw c.in-NoRoom.is at c.in_ok-note_again.ensures.noted)

pub returns-in-Ok-NoRoom-clause-cause : goal.returns-in-Ok-NoRoom-clause-cause
returns-in-Ok-NoRoom-clause-cause c =
    let joins = rw c.in-Ok-NoRoom.field-0-is at c.in-Ok-NoRoom.ensures.joined in
    full_of_messages c.args.now c.args.self.now c.note_again.new.self.requests c.args.place joins.0 (AsksIn c.args.message) c.note_again.ensures.same.requests joins.1 joins.2

pub returns-in-Err-clause-err : goal.returns-in-Err-clause-err
returns-in-Err-clause-err c =
    forgotten c.args.now c.args.self.now c.note_again.new.self c.join.new.self c.unnote-in-Err.new.self c.args.message.digest c.noted_again-in-Err.result c.note_again.ensures.same c.unnote-in-Err.ensures.same c.in-Err.ensures.err c.in-Err.ensures.next
    (rw c.in-New.is at c.in_ok-note_again.ensures.noted) c.noted_again-in-Err.ensures c.unnote-in-Err.ensures.sets

pub returns-in-Ok-Joined-clause-stays : goal.returns-in-Ok-Joined-clause-stays
returns-in-Ok-Joined-clause-stays c =
    let n = c.note_again.new.self in
    let joins = rw c.in-Ok-Joined.field-0-is at c.in-Ok-Joined.ensures.joined in
    let new : Gate = record n { requests = c.join.new.self } in
    stays_on c.args.self.now n new (stays_noted c.args.self.now n c.note_again.ensures.same)
    (stays_requests n new (agent_same n.agent n.agent refl) refl refl refl (bounded_joined n.limits n.requests c.join.new.self c.join.ensures.most c.join.ensures.most_messages c.args.place c.args.message Joined joins))

pub returns-in-Ok-NoRoom-clause-stays : goal.returns-in-Ok-NoRoom-clause-stays
returns-in-Ok-NoRoom-clause-stays c =
    let joins = rw c.in-Ok-NoRoom.field-0-is at c.in-Ok-NoRoom.ensures.joined in
    stays_forgotten c.args.self.now c.note_again.new.self c.join.new.self c.unnote.new.self c.note_again.ensures.same c.unnote.ensures.same joins.3 c.join.ensures.most c.join.ensures.most_messages

pub returns-in-Err-clause-stays : goal.returns-in-Err-clause-stays
returns-in-Err-clause-stays c =
    stays_forgotten c.args.self.now c.note_again.new.self c.join.new.self c.unnote-in-Err.new.self c.note_again.ensures.same c.unnote-in-Err.ensures.same c.in-Err.ensures.err c.in-Err.ensures.most c.in-Err.ensures.most_messages

pub returns-in_err-note_again-clause-stays : goal.returns-in_err-note_again-clause-stays
returns-in_err-note_again-clause-stays c = stays_noted c.args.self.now c.note_again.new.self c.note_again.ensures.same

pub returns-in-Repeated-clause-stays : goal.returns-in-Repeated-clause-stays
returns-in-Repeated-clause-stays c = stays_noted c.args.self.now c.note_again.new.self c.note_again.ensures.same

pub returns-in-NoRoom-clause-stays : goal.returns-in-NoRoom-clause-stays
returns-in-NoRoom-clause-stays c = stays_noted c.args.self.now c.note_again.new.self c.note_again.ensures.same

use Rattle.std.proofs.Common.{◌∷◌, inr, refl, slice_index_or, sym, arith}
use Rattle.snmp_gate.specs.Groups.{groups_of}
use Rattle.snmp_gate.specs.History.{asked}
use Rattle.snmp_gate.proofs.AsksKept.{asks_again, long_lists}
use Rattle.snmp_gate.proofs.Histories.{asked_all, asked_so_far, moved}
use Rattle.snmp_gate.proofs.Shares.{asked_no_other}
use Rattle.snmp_gate.proofs.Bounded.{agent_same, bounded_set, stays_requests, stays_same}
use Rattle.snmp_gate.proofs.GroupSteps.{on_err}
use Rattle.snmp_gate.proofs.Keeping.{stays_as_before}
use Rattle.std.proofs.lemmas.Bool.{false≢true}
use Rattle.std.proofs.lemmas.List.Elements.{at_read}
use Rattle.snmp_gate.specs.Noting.{AsksSet}
use Rattle.snmp_gate.specs.declared.requests.WaitingRequest.{WaitingRequest}
use Rattle.snmp_gate.specs.declared.waiting_message.WaitingMessage.{WaitingMessage}
use Rattle.snmp_gate.specs.declared.work.Work.{Work}
use Rattle.snmp_gate.proofs.SetsGoing.{asked_before, asked_causes, asked_once, asked_outcomes, asked_sets, no_set_never}
use Rattle.snmp_gate.proofs.Todos.{may_again, tried_less, open_again}
use Rattle.snmp_gate.proofs.Told.{asked_now}
use Rattle.snmp_gate.proofs.gate.Gate.ask_again_at.Goals as goal

pub returns-clause-happens : goal.returns-clause-happens
returns-clause-happens c since before f later stands =
    let g = c.args.self.now in
    let rs = g.requests.list.items in
    let place = c.args.place in
    let n = c.device_at-device.result.1 in
    let device = c.device_at-device.result.0 in
    let id = c.in-Some.id in
    let datagram = c.in-Some-2.datagram in
    let opened = c.device_at-device.ensures in
    let sets = c.set_asked.ensures.asked in
    let new = c.set_asked.new.requests.list.items in
    let may = rw c.in-Some-2.is at c.in_ok-datagram.ensures in
    let known = asked_so_far g.agent.tables g.devices.list.items before g.requests.next rs place device n sets.request c.requires.place sets.is opened stands.requests in
    let fewer = tried_less g.limits g.asks.items c.args.now rs place known.waits sets.request c.requires.due (known.is_there sets.request) in
    let all = asked_all g.agent g.devices.list.items before g.requests.next rs new place device n id datagram c.requires.place opened may sets stands.requests in
    let was = asked_before g.agent.tables g.devices.list.items before g.requests.next rs new place device n id datagram.items all.request c.requires.place opened sets stands.requests id c.in-Some.ensures.1 in
    let again = asks_again before n device id id all.request datagram.items _ (omega (arith, c.if-device-len.false, c.len.ensures, long_lists g.asks.items)) stands.asks was.0 was.1 in (
      id,
      all.request,
      inr was,
      record {
        lawful = record {
          mediated = all.mediated;
          in_turn = tt;
          own_id = again.1;
          once = asked_once g.agent.tables g.devices.list.items before g.requests.next rs new place device n id datagram.items all.request c.requires.place opened sets stands.requests since g.sets.sets.items
              (no_set_never g.agent.tables g.devices.list.items before g.requests.next rs new place device n id datagram.items all.request c.requires.place opened sets stands.requests
              (at_read rs (λ (x : WaitingRequest WaitingMessage Work). ¬ AsksSet x.work) place c.index.result.now c.requires.place c.index.ensures (λ set. false≢true (c.if-is_set_at.ensures.1 set)))) stands.sets;
        };
        allowed = omega (arith, known.tried, fewer, c.tries-tries.type_inv, c.tries-tries.ensures);
        stands = record {
          requests = moved g.agent.tables g.agent.tables g.devices.list.items g.devices.list.items (asked n device id all.request datagram.items ∷ before) g.requests.next c.set_asked.new.requests.next (groups_of new) (groups_of new)
              refl refl c.set_asked.ensures.next refl all.stands;
          asks = again.0;
          sets = asked_sets g.agent.tables g.devices.list.items before g.requests.next rs new place device n id datagram.items all.request c.requires.place opened sets stands.requests since c.args.now g.sets.sets.items later stands.sets;
          outcomes = asked_outcomes g.agent.tables g.devices.list.items before g.requests.next rs new place device n id datagram.items all.request c.requires.place opened sets stands.requests g.sets.sets.items stands.outcomes;
          causes = asked_causes g.agent.tables g.devices.list.items before g.requests.next rs new place device n id datagram.items all.request c.requires.place opened sets stands.requests g.limits g.agent.engine stands.causes;
        };
      },
    )

pub device_at-device-requires-clause-goes_on : goal.device_at-device-requires-clause-goes_on
device_at-device-requires-clause-goes_on c r = open_again c.args.self.now.limits c.args.self.now.asks.items c.args.now (slice_index_or c.args.self.now.requests.list.items c.args.place r).work (c.requires.due r)

pub returns-clause-stays : goal.returns-clause-stays
returns-clause-stays c =
    let g = c.args.self.now in
    let rs = g.requests.list.items in
    let place = c.args.place in
    let sets = c.set_asked.ensures.asked in
    let r = sets.request in
    let s : WaitingRequest WaitingMessage Work = record { number = r.number; first = r.first; others = r.others; work = sets.work } in
    stays_requests g _ (agent_same g.agent g.agent refl) refl refl refl
    (bounded_set g.limits g.requests c.set_asked.new.requests c.set_asked.ensures.most c.set_asked.ensures.most_messages place r s c.requires.place sets.is sets.new_is refl
    (asked_no_other rs c.set_asked.new.requests.list.items place _ c.device_at-device.result.0 c.device_at-device.result.1 sets c.device_at-device.ensures)
    (c.set_asked.ensures.timely g.limits (λ x. may_again g.limits g.asks.items c.args.now (slice_index_or rs place x).work (c.requires.due x))))

pub returns-in_err-datagram-clause-err : goal.returns-in_err-datagram-clause-err
returns-in_err-datagram-clause-err c = on_err c.from_residual.result _ (stays_as_before c.args.now c.args.self.now)

pub returns-in_err-datagram-clause-stays : goal.returns-in_err-datagram-clause-stays
returns-in_err-datagram-clause-stays c = stays_same c.args.self.now

pub returns-then-is_set_at-clause-happens : goal.returns-then-is_set_at-clause-happens
returns-then-is_set_at-clause-happens c since before f later stands = c.give_up_at.ensures.happens since c.args.now before f later stands

pub returns-in_default-clause-happens : goal.returns-in_default-clause-happens
returns-in_default-clause-happens c since before f later stands = c.give_up_at-in_default.ensures.happens since c.args.now before f later stands

pub returns-then-device-len-clause-happens : goal.returns-then-device-len-clause-happens
returns-then-device-len-clause-happens c since before f later stands = c.give_up_at-then-device-len.ensures.happens since c.args.now before f later stands

pub returns-in_default-2-clause-happens : goal.returns-in_default-2-clause-happens
returns-in_default-2-clause-happens c since before f later stands = c.give_up_at-in_default-2.ensures.happens since c.args.now before f later stands

pub returns-clause-told : goal.returns-clause-told
returns-clause-told c r =
    let asked = c.in-Some.ensures.1 r in
    (sym (c.device_at-device.ensures r).0, (λ is. asked_now (slice_index_or c.args.self.now.requests.list.items c.args.place r).work asked.0 c.in-Some.id asked.1 asked.2, λ now. refl))

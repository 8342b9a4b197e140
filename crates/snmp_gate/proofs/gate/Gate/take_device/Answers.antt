use Rattle.std.proofs.Common.{None, inl, refl, subst, sym, ℕ, ◌≡◌, ◌∙◌}
use Rattle.snmp_msg.specs.Pdu.{pdu_of}
use Rattle.vacm_core.specs.Tables.{Tables}
use Rattle.std.specs.List.{HoldsAt}
use Rattle.snmp_gate.specs.History.{answered, open_ask}
use Rattle.snmp_gate.specs.Taking.{IsCommunityOfWork, WaitsFor, WorkAfter}
use Rattle.snmp_gate.specs.declared.devices.Device.{Device}
use Rattle.snmp_gate.specs.Work.{TaskStands}
use Rattle.snmp_gate.specs.declared.requests.WaitingRequest.{WaitingRequest}
use Rattle.snmp_gate.specs.declared.waiting_message.WaitingMessage.{WaitingMessage}
use Rattle.snmp_gate.specs.declared.work.OpenRequest.{OpenRequest}
use Rattle.snmp_gate.specs.declared.work.Work.{Work}
use Rattle.snmp_gate.specs.declared.work.Work.TheVariants.{Open, Ends}
use Rattle.snmp_gate.proofs.Causing.{causes_after}
use Rattle.snmp_gate.proofs.Shares.{says_no_other}
use Rattle.snmp_gate.proofs.Bounded.{agent_same, asks_set, bounded_set, ended_few, fresh_timely, same_timely, stays_of, stays_requests}
use Rattle.snmp_gate.proofs.GroupSteps.{on_err}
use Rattle.snmp_gate.proofs.Histories.{answered_all}
use Rattle.snmp_gate.proofs.AsksKept.{answered_asks, same_id}
use Rattle.snmp_gate.proofs.Keeping.{stands_later}
use Rattle.snmp_gate.proofs.Others.{chosen, open_other}
use Rattle.snmp_gate.proofs.SetsGoing.{answered_outcomes, answered_sets, kept_stands}
use Rattle.snmp_gate.proofs.Same.{same_messages, work_says_same_at}
use Rattle.snmp_gate.proofs.Todos.{timely_set}
use Rattle.std.proofs.lemmas.List.{get_or_default}
use Rattle.snmp_gate.specs.Fits.{FitsRequest, WorkFits}
use Rattle.snmp_gate.specs.Hidden.{HidesInRequest, WorkHides}
use Rattle.snmp_gate.specs.Messages.{seen_in}
use Rattle.snmp_gate.proofs.gate.Gate.take_device.Goals as goal

-- a request whose device is asked is open
opened : (device id : ℕ) (w : Work) → WaitsFor device id w → (o : OpenRequest) × (w ≡ Open o)
opened device id (Open o) is = (o, refl)
opened device id (Ends e) is = absurd is

pub returns-clause-happens : goal.returns-clause-happens
returns-clause-happens c since before later stands =
    let g = c.args.self.now in
    let rs = g.requests.list.items in
    let place = c.in-Some-place_of.place in
    let id = c.in-Some-place_of.id in
    let at = c.in-Some-place_of.ensures.place in
    let r = c.index_mut-request.result.now in
    let w = c.take_answer.new.work in
    let waits = subst (λ (x : WaitingRequest WaitingMessage Work). WaitsFor c.args.device id x.work) (sym c.index_mut-request.ensures.value) (at.waits r) in
    let both = answered_all g.agent.tables g.devices.list.items before g.requests.next rs place r w c.args.device id c.in-Some.answer.pdu c.args.datagram.now c.in-Some.answer.community.now
    at.within c.index_mut-request.ensures.value waits
    at.id_is c.in-Some.ensures
    (subst (λ (x : WaitingRequest WaitingMessage Work). HoldsAt (λ (d : Device). IsCommunityOfWork d c.in-Some.answer.community.now x.work) g.devices.list.items c.args.device) (sym c.index_mut-request.ensures.value) (at.pays r))
    (λ o q told asked is says known. subst (λ (t : Tables). WorkAfter t q told o w) c.tables-tables.ensures
    (c.in_ok-fault.ensures.after o q told asked is says (subst (λ (t : Tables). TaskStands t q told o.task.task) (sym c.tables-tables.ensures) known)))
    stands.requests in
    let now = answered r.number c.args.device (pdu_of c.in-Some.answer.pdu) c.args.datagram.now in
    let s : WaitingRequest WaitingMessage Work = record { number = r.number; first = r.first; others = r.others; work = w } in (
      pdu_of c.in-Some.answer.pdu,
      record {
        lawful = record { mediated = both.0; in_turn = tt; own_id = tt; once = tt };
        allowed = tt;
        stands = record {
          requests = both.1;
          asks = answered_asks now before r.number c.args.device id g.asks.items c.index_mut.result.now c.end.new.self c.end.result
              (chosen r.number None (open_ask r.number before)) (λ k other. open_other now before k other) c.in-Some-place_of.ensures.asks c.index_mut.ensures.value c.end.ensures.ended
              both.0.ask both.0.is_open both.0.device_is (same_id both.0.ask.id id (sym both.0.id_is ∙ at.id_is)) stands.asks;
          sets = answered_sets since c.args.now r.number c.args.device (pdu_of c.in-Some.answer.pdu) c.args.datagram.now before rs place r s g.sets.sets.items later at.within c.index_mut-request.ensures.value refl c.in_ok-fault.ensures.no_set stands.sets;
          outcomes = answered_outcomes r.number c.args.device (pdu_of c.in-Some.answer.pdu) c.args.datagram.now before rs place r s g.sets.sets.items at.within c.index_mut-request.ensures.value
              (let o = opened c.args.device id r.work waits in c.in_ok-fault.ensures.first o.0 o.1) stands.outcomes;
          causes = causes_after g.limits g.agent.engine g.agent.tables g.devices.list.items now before rs place s
              (let o = opened c.args.device id r.work waits in c.in_ok-fault.ensures.responds o.0 o.1) stands.causes;
        };
      },
    )

pub returns-in_default-clause-happens : goal.returns-in_default-clause-happens
returns-in_default-clause-happens c = stands_later c.args.now c.args.self.now

pub returns-in_default-place_of-clause-happens : goal.returns-in_default-place_of-clause-happens
returns-in_default-place_of-clause-happens c = stands_later c.args.now c.args.self.now

pub returns-in_err-fault-clause-err : goal.returns-in_err-fault-clause-err
returns-in_err-fault-clause-err c =
    let g = c.args.self.now in
    let rs = g.requests.list.items in
    let place = c.in-Some-place_of.place in
    let r = c.index_mut-request.result.now in
    let w = c.take_answer.new.work in
    let s : WaitingRequest WaitingMessage Work = record { number = r.number; first = r.first; others = r.others; work = w } in
    on_err c.from_residual.result _ (record {
      agent = refl;
      devices = refl;
      limits = refl;
      asks = refl;
      messages = same_messages rs place r s c.in-Some-place_of.ensures.place.within c.index_mut-request.ensures.value refl;
      work = work_says_same_at rs place r s c.in-Some-place_of.ensures.place.within c.index_mut-request.ensures.value c.in_err-fault.ensures.err;
      next = refl;
      sets = inl refl;
      stands = kept_stands c.args.now g _ place r w refl refl refl refl refl refl refl c.in-Some-place_of.ensures.place.within c.index_mut-request.ensures.value c.in_err-fault.ensures.err;
    })

pub returns-clause-stays : goal.returns-clause-stays
returns-clause-stays c =
    let g = c.args.self.now in
    let rs = g.requests.list.items in
    let place = c.in-Some-place_of.place in
    let r = c.index_mut-request.result.now in
    let w = c.take_answer.new.work in
    let s : WaitingRequest WaitingMessage Work = record { number = r.number; first = r.first; others = r.others; work = w } in
    let within = c.in-Some-place_of.ensures.place.within in
    let a = c.index_mut.result.now in
    stays_of g _ (agent_same g.agent g.agent refl) refl refl
    (bounded_set g.limits g.requests _ refl refl place r s within c.index_mut-request.ensures.value refl refl c.in_ok-fault.ensures.device
    (timely_set g.limits rs place r s within c.index_mut-request.ensures.value (λ was. fresh_timely g.limits w c.in_ok-fault.ensures.fresh)))
    (asks_set g.devices.list.items g.asks.items c.args.device a c.end.new.self c.in-Some-place_of.ensures.asks c.index_mut.ensures.value c.end.ensures.at_once (ended_few a c.end.new.self c.in-Some-place_of.id c.end.result c.end.ensures.ended c.end.ensures.at_once))

pub returns-in_err-fault-clause-stays : goal.returns-in_err-fault-clause-stays
returns-in_err-fault-clause-stays c =
    let g = c.args.self.now in
    let rs = g.requests.list.items in
    let place = c.in-Some-place_of.place in
    let r = c.index_mut-request.result.now in
    let w = c.take_answer.new.work in
    let s : WaitingRequest WaitingMessage Work = record { number = r.number; first = r.first; others = r.others; work = w } in
    let within = c.in-Some-place_of.ensures.place.within in
    stays_requests g _ (agent_same g.agent g.agent refl) refl refl refl
    (bounded_set g.limits g.requests _ refl refl place r s within c.index_mut-request.ensures.value refl refl (says_no_other r.work w c.in_err-fault.ensures.err)
    (timely_set g.limits rs place r s within c.index_mut-request.ensures.value (same_timely g.limits r.work w c.in_err-fault.ensures.err)))

pub returns-clause-fits : goal.returns-clause-fits
returns-clause-fits c =
    let g = c.args.self.now in
    let rs = g.requests.list.items in
    let place = c.in-Some-place_of.place in
    let id = c.in-Some-place_of.id in
    let at = c.in-Some-place_of.ensures.place in
    let r = c.index_mut-request.result.now in
    let answer = pdu_of c.in-Some.answer.pdu in
    let fault = c.in_ok-fault.fault in
    let waits = subst (λ (x : WaitingRequest WaitingMessage Work). WaitsFor c.args.device id x.work) (sym c.index_mut-request.ensures.value) (at.waits r) in
    let fits : FitsRequest g c.args.device id r.number answer fault r =
    (refl, waits, λ q asked. subst (λ (t : Tables). WorkFits (seen_in t q) r.work answer fault) c.tables-tables.ensures (c.in_ok-fault.ensures.fits q asked)) in
    record {
      community = c.in-Some.answer.community.now;
      answer = answer;
      is_answer = c.in-Some.ensures;
      says_is = c.said_in-says.ensures;
      id = id;
      id_is = at.id_is;
      place = place;
      within = at.within;
      fits = λ d. subst (FitsRequest g c.args.device id r.number answer fault) (c.index_mut-request.ensures.value ∙ get_or_default rs place r d at.within) fits;
    }

pub returns-clause-hidden : goal.returns-clause-hidden
returns-clause-hidden c =
    let g = c.args.self.now in
    let rs = g.requests.list.items in
    let place = c.in-Some-place_of.place in
    let id = c.in-Some-place_of.id in
    let at = c.in-Some-place_of.ensures.place in
    let r = c.index_mut-request.result.now in
    let answer = pdu_of c.in-Some.answer.pdu in
    let n = c.hidden_in-hidden.result in
    let waits = subst (λ (x : WaitingRequest WaitingMessage Work). WaitsFor c.args.device id x.work) (sym c.index_mut-request.ensures.value) (at.waits r) in
    let hides : HidesInRequest g c.args.device id r.number answer n r =
    (refl, waits, λ q asked. subst (λ (t : Tables). WorkHides (seen_in t q) r.work answer n) c.tables-tables.ensures (c.hidden_in-hidden.ensures q asked)) in
    record {
      community = c.in-Some.answer.community.now;
      answer = answer;
      is_answer = c.in-Some.ensures;
      id = id;
      id_is = at.id_is;
      place = place;
      within = at.within;
      hides = λ d. subst (HidesInRequest g c.args.device id r.number answer n) (c.index_mut-request.ensures.value ∙ get_or_default rs place r d at.within) hides;
    }

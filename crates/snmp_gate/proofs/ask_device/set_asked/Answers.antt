use Rattle.std.proofs.Common.{refl, ap, subst, sym, ◌∙◌}
use Rattle.snmp_gate.specs.Bounds.{MayBeAsked}
use Rattle.snmp_gate.specs.declared.requests.WaitingRequest.{WaitingRequest}
use Rattle.snmp_gate.specs.declared.waiting_message.WaitingMessage.{WaitingMessage}
use Rattle.snmp_gate.specs.Time.{once_more, times_asked}
use Rattle.snmp_gate.specs.declared.work.OpenRequest.{OpenRequest}
use Rattle.snmp_gate.specs.declared.work.Work.{Work}
use Rattle.snmp_gate.proofs.Endings.{never_open, one_open}
use Rattle.snmp_gate.proofs.Todos.{asked_timely, timely_set}
use Rattle.snmp_gate.proofs.ask_device.set_asked.Goals as goal

pub returns-in-Open-clause-asked : goal.returns-in-Open-clause-asked
returns-in-Open-clause-asked c = record {
  request = c.index_mut-request.result.now;
  is = c.index_mut-request.ensures.value;
  work = _;
  asked = λ o is.
      let same = one_open c.index_mut-request.result.now.work c.in-Open.waiting o c.in-Open.is is in (
        _,
        refl,
        ap (λ (x : OpenRequest). x.task) same,
        ap (λ (x : OpenRequest). x.device) same,
        refl,
        c.ask.ensures.began ∙ ap (λ (x : OpenRequest). x.timer.began) same,
        ap times_asked c.ask.ensures.turn ∙ ap (λ (x : OpenRequest). once_more (times_asked x.timer.turn)) same,
      );
  new_is = refl;
}

pub returns-in-Ends-clause-asked : goal.returns-in-Ends-clause-asked
returns-in-Ends-clause-asked c = record {
  request = c.index_mut-request.result.now;
  is = c.index_mut-request.ensures.value;
  work = c.index_mut-request.result.now.work;
  asked = λ o is. absurd (never_open c.index_mut-request.result.now.work _ o c.in-Ends.is is);
  new_is = refl;
}

pub returns-in-Open-clause-timely : goal.returns-in-Open-clause-timely
returns-in-Open-clause-timely c limits may timely =
    let r = c.index_mut-request.result.now in
    let o = c.in-Open.waiting in
    let allowed = subst (MayBeAsked limits c.args.now) c.in-Open.is (subst (λ (x : WaitingRequest WaitingMessage Work). MayBeAsked limits c.args.now x.work) (sym c.index_mut-request.ensures.value) (may r)) in
    timely_set limits c.args.requests.now.list.items c.args.place r _ c.requires c.index_mut-request.ensures.value
    (λ was. asked_timely limits c.args.now c.args.id o _ allowed refl refl c.ask.ensures.began c.ask.ensures.turn) timely

pub returns-in-Ends-clause-timely : goal.returns-in-Ends-clause-timely
returns-in-Ends-clause-timely c limits may timely =
    timely_set limits c.args.requests.now.list.items c.args.place c.index_mut-request.result.now c.index_mut-request.result.now c.requires c.index_mut-request.ensures.value (λ was. was) timely

use Rattle.std.proofs.Common.{List, ap, refl, rules, subst, sym, ◌∙◌, ◌≡◌, ℕ, slice_get}
use Rattle.std.proofs.lemmas.Option.{same_Some}
use Rattle.snmp_gate.specs.declared.devices.Device.{Device}
use Rattle.snmp_forward.specs.Informs.{IsInformOf}
use Rattle.snmp_forward.specs.declared.queue.WaitingNotification.{WaitingNotification}
use Rattle.snmp_forward.specs.declared.receivers.NotifyType.TheVariants as notify
use Rattle.snmp_forward.specs.declared.receivers.Receiver.{Receiver}
use Rattle.snmp_forward.proofs.Mediating.{at_in}
use Rattle.snmp_forward.proofs.forwarder.Forwarder.first_inform.Goals as goal

pub returns : goal.returns
returns c =
    let f = c.args.self.now in
    let w = c.in-Some.first.now in
    let from = c.in-Some-get.from.now in
    let to = c.in-Some-get-2.to.now in
    let inform = c.in_ok-inform.inform in
    let at = at_in f.devices.list.items c.list-2.result.now w.device from c.list-2.ensures c.in-Some-get.ensures.lookup.3.0 c.in-Some-get.ensures.lookup.1 in
    let goes = at_in f.receivers.list.items c.list-3.result.now w.receiver to c.list-3.ensures c.in-Some-get-2.ensures.lookup.3.0 c.in-Some-get-2.ensures.lookup.1 in
    let type_is : to.notify_type ≡ notify.Inform = search rules in
    let is = subst (λ (x : List ℕ). IsInformOf w.receiver to x w.datagram.items inform) c.deref.ensures.value (subst (λ (x : List ℕ). IsInformOf w.receiver to c.deref.result.now x inform) c.deref-2.ensures.value c.in_ok-inform.ensures) in record {
      first = w;
      at = ap (λ (ws : List WaitingNotification). slice_get ws 0) (sym c.list.ensures) ∙ sym c.in-Some.ensures.value;
      number_is = refl;
      receiver_is = is.receiver;
      type_is = λ may. subst (λ (r : Receiver). r.notify_type ≡ notify.Inform) (same_Some to may.to (sym goes ∙ may.is_to)) type_is;
      inform_is = λ may.
          subst (λ (r : Receiver). IsInformOf w.receiver r may.from.context.items w.datagram.items inform) (same_Some to may.to (sym goes ∙ may.is_to))
          (subst (λ (d : Device). IsInformOf w.receiver to d.context.items w.datagram.items inform) (same_Some from may.from (sym at ∙ may.is_from)) is);
    }

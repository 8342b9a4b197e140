use Rattle.std.proofs.Common.{◌≡◌, ℕ, List, Some, ap, arith, length, refl, slice_get, subst, sym, ◌∙◌}
use Rattle.std.proofs.lemmas.Option.{same_Some, slice_get_read, slice_get_within}
use Rattle.std.specs.Prelude.{slice_index_or, ◌<◌}
use Rattle.snmp_msg.specs.Pdu.{pdu_of}
use Rattle.snmp_msg.specs.Variables.{variables_of}
use Rattle.vacm_core.specs.Tables.{Tables}
use Rattle.snmp_gate.specs.declared.devices.Device.{Device}
use Rattle.snmp_forward.specs.Notifications.{IsNotification}
use Rattle.snmp_forward.specs.Receivers.{ArePlaces, MayBeNotified}
use Rattle.snmp_forward.specs.declared.receivers.Receiver.{Receiver}
use Rattle.snmp_forward.proofs.Choices.{chosen_of}
use Rattle.snmp_forward.proofs.forwarder.Forwarder.chosen.Goals as goal

-- a device that is looked up in a list
at_of : (xs ys : List Device) (device : ℕ) (from : Device) → ys ≡ xs → device < length ys → from ≡ slice_index_or ys device from → slice_get xs device ≡ Some from
at_of xs ys device from same within is = subst (λ (ds : List Device). slice_get ds device ≡ Some from) same (slice_get_read ys (length ys) device from refl within is)

pub returns-in_default : goal.returns-in_default
returns-in_default c = record {
  community = c.in-Ok.notification.community.now;
  pdu = pdu_of c.in-Ok.notification.pdu;
  trap_oid = c.in-Ok.notification.trap_oid;
  is = c.in-Ok.ensures;
  of = λ d is same. let within = slice_get_within c.args.self.now.devices.list.items c.args.device d is in absurd (omega (arith, c.in_default.ensures.lookup.3, within, ap length c.list.ensures));
}

pub returns-then-not-has_community : goal.returns-then-not-has_community
returns-then-not-has_community c = record {
  community = c.in-Ok.notification.community.now;
  pdu = pdu_of c.in-Ok.notification.pdu;
  trap_oid = c.in-Ok.notification.trap_oid;
  is = c.in-Ok.ensures;
  of = λ d is same.
      let from = c.in-Some.from.now in
      let at = at_of c.args.self.now.devices.list.items c.list.result.now c.args.device from c.list.ensures c.in-Some.ensures.lookup.3.0 c.in-Some.ensures.lookup.1 in
      cc (c.if-not-has_community.ensures.1 (ap (λ (x : Device). x.community.items) (same_Some from d (sym at ∙ is)) ∙ same));
}

pub returns : goal.returns
returns c =
    let n = c.in-Ok.notification in
    let w = c.args.datagram.now in
    let f = c.args.self.now in
    let from = c.in-Some.from.now in
    let at = at_of f.devices.list.items c.list.result.now c.args.device from c.list.ensures c.in-Some.ensures.lookup.3.0 c.in-Some.ensures.lookup.1 in
    let same = c.if-not-has_community.ensures.0 refl in
    let is = subst (λ (x : List ℕ). IsNotification w x (pdu_of n.pdu) n.trap_oid) (sym same) c.in-Ok.ensures in
    let are =
    subst (λ (t : Tables). ArePlaces (λ (r : Receiver). MayBeNotified t r from.context.items (variables_of n.pdu.list.now) n.trap_oid) f.receivers.list.items c.in_ok-numbers.numbers.items) c.tables-tables.ensures
    (subst (λ (x : List ℕ). ArePlaces (λ (r : Receiver). MayBeNotified c.tables-tables.result.now r x (variables_of n.pdu.list.now) n.trap_oid) f.receivers.list.items c.in_ok-numbers.numbers.items) c.deref.ensures.value c.in_ok-numbers.ensures) in (
      record { community = n.community.now; pdu = pdu_of n.pdu; trap_oid = n.trap_oid; is = c.in-Ok.ensures; of = (from, at, same) },
      chosen_of c.one_notification.ensures.one f.agent.tables f.devices.list.items f.receivers.list.items c.args.device from w (pdu_of n.pdu) n.trap_oid c.in_ok-numbers.numbers.items at is are,
    )

use Rattle.std.proofs.Common.{ap, refl, subst, sym, ◌∙◌, ℕ, List, length, slice_get}
use Rattle.std.proofs.lemmas.Option.{slice_get_read}
use Rattle.std.proofs.lemmas.Result.{IfOk-weaker}
use Rattle.snmp_msg.specs.Pdu.{pdu_of}
use Rattle.snmp_forward.specs.Notifications.{IsNoNotification, IsNotification}
use Rattle.snmp_forward.specs.declared.receivers.Receiver.{Receiver}
use Rattle.snmp_forward.proofs.Choices.{written_for}
use Rattle.snmp_forward.proofs.forwarder.write_first.Goals as goal

pub returns-in_default-read_device_notification-clause-written : goal.returns-in_default-read_device_notification-clause-written
returns-in_default-read_device_notification-clause-written c = λ engine may.
    let why = c.in_default-read_device_notification.field-0 in
    absurd (c.one_notification.ensures.none c.args.first.now.datagram.items may.from.community.items may.pdu may.trap_oid why may.is (subst (λ (w : List ℕ). IsNoNotification w why) c.deref.ensures.value c.in_default-read_device_notification.ensures))

pub returns-clause-written : goal.returns-clause-written
returns-clause-written c = IfOk-weaker c.write_trap.result _ _ (λ written h engine may.
    let n = c.in-Ok.notification in
    let w = c.args.first.now.datagram.items in
    let from = c.in-Some.from.now in
    let to = c.in-Some-get.to.now in
    let at = slice_get_read c.args.devices.now (length c.args.devices.now) c.args.first.now.device from refl c.in-Some.ensures.lookup.3.0 c.in-Some.ensures.lookup.1 in
    let goes = slice_get_read c.list.result.now (length c.list.result.now) c.args.first.now.receiver to refl c.in-Some-get.ensures.lookup.3.0 c.in-Some-get.ensures.lookup.1 in
    let is = subst (λ (x : List ℕ). IsNotification x n.community.now (pdu_of n.pdu) n.trap_oid) c.deref.ensures.value c.in-Ok.ensures in
    written_for c.one_notification.ensures.one c.args.agent.now c.args.by.now c.args.devices.now c.args.receivers.now.list.items c.args.first.now.device c.args.first.now.receiver from to w c.deref-2.result.now n.community.now (pdu_of n.pdu) n.trap_oid written
    at (ap (λ (rs : List Receiver). slice_get rs c.args.first.now.receiver) (sym c.list.ensures) ∙ goes) c.deref-2.ensures.value is may (h engine)) c.write_trap.ensures.written

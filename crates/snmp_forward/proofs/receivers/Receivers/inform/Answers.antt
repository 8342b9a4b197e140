use Rattle.std.proofs.Common.{List, ℕ, refl, subst, sym}
use Rattle.snmp_msg.specs.Pdu.{pdu_of}
use Rattle.snmp_msg.specs.Variables.{variables_of}
use Rattle.snmp_forward.specs.Informs.{IsInformOf}
use Rattle.snmp_forward.specs.Receivers.{MayBeNotified}
use Rattle.snmp_forward.proofs.Mediating.{at_in, its_community, its_inform, may_notify, none_in}
use Rattle.snmp_forward.proofs.receivers.Receivers.inform.Goals as goal

pub returns-in_default : goal.returns-in_default
returns-in_default c = λ may. c.one_notification.ensures.none c.args.datagram.now may.from.community.items may.pdu may.trap_oid c.in_default.field-0 may.is c.in_default.ensures

pub returns-in_default-get : goal.returns-in_default-get
returns-in_default-get c = λ may. none_in c.args.devices.now.list.items c.list.result.now c.args.device may.from c.list.ensures c.in_default-get.ensures.lookup.3 may.is_from

pub returns-in_default-get-2 : goal.returns-in_default-get-2
returns-in_default-get-2 c = λ may. none_in c.args.self.now.list.items c.list-2.result.now c.args.receiver may.to c.list-2.ensures c.in_default-get-2.ensures.lookup.3 may.is_to

pub returns-then-not-has_community : goal.returns-then-not-has_community
returns-then-not-has_community c = λ may.
    let n = c.in-Ok.notification in
    let from = c.in-Some.from.now in
    let at = at_in c.args.devices.now.list.items c.list.result.now c.args.device from c.list.ensures c.in-Some.ensures.lookup.3.0 c.in-Some.ensures.lookup.1 in
    cc (c.if-not-has_community.ensures.1 (its_community c.one_notification.ensures.one c.args.tables.now c.args.devices.now.list.items c.args.self.now.list.items c.args.device c.args.receiver c.args.datagram.now n.community.now (pdu_of n.pdu) n.trap_oid from at c.in-Ok.ensures may))

pub returns-then-not-may_be_notified : goal.returns-then-not-may_be_notified
returns-then-not-may_be_notified c = λ may.
    let n = c.in-Ok.notification in
    let from = c.in-Some.from.now in
    let at = at_in c.args.devices.now.list.items c.list.result.now c.args.device from c.list.ensures c.in-Some.ensures.lookup.3.0 c.in-Some.ensures.lookup.1 in
    let to = c.in-Some-get.to.now in
    let goes = at_in c.args.self.now.list.items c.list-2.result.now c.args.receiver to c.list-2.ensures c.in-Some-get.ensures.lookup.3.0 c.in-Some-get.ensures.lookup.1 in
    cc (c.if-not-may_be_notified.ensures.1 (subst (λ (x : List ℕ). MayBeNotified c.args.tables.now to x (variables_of n.pdu.list.now) n.trap_oid) (sym c.deref.ensures.value) (may_notify c.one_notification.ensures.one c.args.tables.now c.args.devices.now.list.items c.args.self.now.list.items c.args.device c.args.receiver c.args.datagram.now n.community.now (pdu_of n.pdu) n.trap_oid from at c.in-Ok.ensures to goes may)))

pub returns : goal.returns
returns c =
    let n = c.in-Ok.notification in
    let from = c.in-Some.from.now in
    let at = at_in c.args.devices.now.list.items c.list.result.now c.args.device from c.list.ensures c.in-Some.ensures.lookup.3.0 c.in-Some.ensures.lookup.1 in
    let to = c.in-Some-get.to.now in
    let goes = at_in c.args.self.now.list.items c.list-2.result.now c.args.receiver to c.list-2.ensures c.in-Some-get.ensures.lookup.3.0 c.in-Some-get.ensures.lookup.1 in
    let may = subst (λ (x : List ℕ). MayBeNotified c.args.tables.now to x (variables_of n.pdu.list.now) n.trap_oid) c.deref.ensures.value (c.if-not-may_be_notified.ensures.0 refl) in
    its_inform c.one_notification.ensures.one c.args.tables.now c.args.devices.now.list.items c.args.self.now.list.items c.args.device c.args.receiver c.args.datagram.now n.community.now (pdu_of n.pdu) n.trap_oid from at c.in-Ok.ensures to goes c.in_ok-inform.inform (c.if-not-has_community.ensures.0 refl) may (subst (λ (x : List ℕ). IsInformOf c.args.receiver to x c.args.datagram.now c.in_ok-inform.inform) c.deref-2.ensures.value c.in_ok-inform.ensures)

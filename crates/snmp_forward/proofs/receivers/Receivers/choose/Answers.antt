use Rattle.std.proofs.Common.{◌≡◌, ◌≤◌, ◌<◌, ◌+◌, ℕ, List, length, refl, take, subst, sym, ap, ◌∙◌}
use Rattle.std.proofs.lemmas.List.{take_all}
use Rattle.std.specs.Prelude.{slice_index_or}
use Rattle.snmp_msg.specs.Variables.{variables_of}
use Rattle.snmp_forward.specs.Receivers.{ArePlaces, MayBeNotified}
use Rattle.snmp_forward.specs.declared.receivers.Receiver.{Receiver}
use Rattle.snmp_forward.proofs.Places.{places_at, places_past}
use Rattle.snmp_forward.proofs.receivers.Receivers.choose.Goals as goal
use Rattle.snmp_forward.proofs.receivers.Receivers.choose.Goals.{then-may_be_notified+in_ok-push, else-may_be_notified}

pub loop-number-preserved : goal.loop-number-preserved
loop-number-preserved c =
    let P : Receiver → Type 0 = λ r. MayBeNotified c.args.tables.now r c.args.context.now (variables_of c.args.notification.now.pdu.list.now) c.args.notification.now.trap_oid in
    let xs = c.args.self.now.list.items in
    let r = c.receiver-item.result in
    let i = c.loop-number.number in
    let within = subst (λ (ys : List Receiver). i < length ys) c.deref-receiver-items.ensures.value c.loop-number-test.true in
    let is = subst (λ (ys : List Receiver). r ≡ slice_index_or ys i r) c.deref-receiver-items.ensures.value c.receiver-item.is in
    elim c.if-may_be_notified.branch [
      | then-may_be_notified+in_ok-push w ↦
          subst (λ (ns : List ℕ). ArePlaces P (take (i + 1) xs) ns) (sym (ap (λ (v : _). v.items) w.numbers-is ∙ w.in_ok-push.ensures.items))
          (places_at P xs i r c.loop-number.numbers.items within is c.loop-number.invariant (w.if-may_be_notified.ensures.0 refl))
      | else-may_be_notified w ↦
          subst (λ (ns : List ℕ). ArePlaces P (take (i + 1) xs) ns) (sym (ap (λ (v : _). v.items) w.numbers-is))
          (places_past P xs i r c.loop-number.numbers.items within is c.loop-number.invariant (λ may. cc (w.if-may_be_notified.ensures.1 may)))
    ]

pub returns : goal.returns
returns c =
    let P : Receiver → Type 0 = λ r. MayBeNotified c.args.tables.now r c.args.context.now (variables_of c.args.notification.now.pdu.list.now) c.args.notification.now.trap_oid in
    let past = subst (λ (ys : List Receiver). length ys ≤ c.loop-number.number) c.deref-receiver-items.ensures.value c.loop-number-test.false in
    subst (λ (rs : List Receiver). ArePlaces P rs c.loop-number.numbers.items) (take_all c.loop-number.number c.args.self.now.list.items past) c.loop-number.invariant

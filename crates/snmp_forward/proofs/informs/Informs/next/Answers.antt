use Rattle.std.proofs.Common.{List, inl, length, refl, subst, ◌<◌}
use Rattle.std.proofs.lemmas.Option.{slice_get_read, slice_get_within}
use Rattle.std.proofs.lemmas.Result.{IfOk-weaker}
use Rattle.snmp_forward.specs.InformHistory.{tried}
use Rattle.snmp_forward.specs.declared.waiting_inform.WaitingInform.{WaitingInform}
use Rattle.snmp_forward.proofs.informs.Informs.next.Goals as goal

pub returns-in-GiveUp-clause-happens : goal.returns-in-GiveUp-clause-happens
returns-in-GiveUp-clause-happens c = λ before stands.
    let old = c.args.self.now in
    let w = c.index.result.now in
    let first = c.in-Some.ensures in
    let within = subst (λ (ws : List WaitingInform). c.in-Some.place < length ws) c.deref.ensures.value (slice_get_within c.deref.result.now c.in-Some.place first.it first.at) in
    let at = slice_get_read old.list.items (length old.list.items) c.in-Some.place w refl within c.index.ensures in
    c.give_up.ensures.happens before c.args.now c.args.first_id c.args.salt w tried stands at c.in-GiveUp.ensures.0 (inl refl) c.in-GiveUp.ensures.1

pub returns-in-Send-clause-happens : goal.returns-in-Send-clause-happens
returns-in-Send-clause-happens c = IfOk-weaker c.send.result _ _ (λ sent happens before stands.
    let old = c.args.self.now in
    let w = c.index.result.now in
    let first = c.in-Some.ensures in
    let within = subst (λ (ws : List WaitingInform). c.in-Some.place < length ws) c.deref.ensures.value (slice_get_within c.deref.result.now c.in-Some.place first.it first.at) in
    let at = slice_get_read old.list.items (length old.list.items) c.in-Some.place w refl within c.index.ensures in
    happens before w stands at c.in-Send.ensures.0) c.send.ensures.happens

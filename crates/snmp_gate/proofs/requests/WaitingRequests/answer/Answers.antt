use Rattle.std.proofs.Common.{◌<◌, ◌∙◌, ◌∷◌, length, ap, arith, refl, subst, sym, slice_set}
use Rattle.std.proofs.lemmas.Bool.{eqb-true, eqb-false}
use Rattle.std.proofs.lemmas.List.{get_or_default}
use Rattle.std.specs.Vec.{vec_len}
use Rattle.snmp_gate.specs.Groups.{IsAnswered, groups_of}
use Rattle.snmp_gate.specs.declared.requests.WaitingRequest.{WaitingRequest}
use Rattle.snmp_gate.proofs.GroupSteps.{answers_last, answers_one, first_of_some, none_left}
use Rattle.snmp_gate.proofs.requests.WaitingRequests.answer.Goals as goal

pub returns-then-is_empty-clause-answered : goal.returns-then-is_empty-clause-answered
returns-then-is_empty-clause-answered g c =
    let rs = c.args.self.now.list.items in
    let read = c.index.result.now in
    let same = c.remove.ensures.value ∙ get_or_default rs c.args.place c.remove.result read c.requires ∙ sym c.index.ensures in
    let none = none_left read.others.items (omega (arith, eqb-true (vec_len read.others) 0 (sym c.is_empty.ensures ∙ c.if-is_empty.true))) in
    answers_last rs c.args.place c.remove.result c.remove.new.self.items c.requires c.remove.ensures.value (ap (λ r. r.others.items) same ∙ none) c.remove.ensures.items

pub returns-clause-answered : goal.returns-clause-answered
returns-clause-answered g c =
    let rs = c.args.self.now.list.items in
    let read = c.index.result.now in
    let r = c.index_mut-request.result.now in
    let s : WaitingRequest g.row.M.Denot g.row.W.Denot = record { number = r.number; first = c.replace.new.dest; others = c.remove-next.new.self; work = r.work } in
    let same = c.index_mut-request.ensures.value ∙ get_or_default rs c.args.place r read c.requires ∙ sym c.index.ensures in
    let some : 0 < length r.others.items = omega (arith, ap (λ q. length q.others.items) same, eqb-false (vec_len read.others) 0 (sym c.is_empty.ensures ∙ c.if-is_empty.false)) in
    let others = first_of_some r.others.items c.remove-next.result some c.remove-next.ensures.value ∙ (λ i. sym c.replace.ensures.after i ∷ sym c.remove-next.ensures.items i) in
    subst (λ m. IsAnswered (groups_of rs) c.args.place m (groups_of (slice_set rs c.args.place s))) (sym c.replace.ensures.value)
    (answers_one rs c.args.place r s c.requires c.index_mut-request.ensures.value refl refl others)

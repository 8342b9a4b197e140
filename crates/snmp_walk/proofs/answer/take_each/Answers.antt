use Rattle.std.proofs.Common.{refl, sym, ap, subst, ◌∙◌, arith, List, ◌++◌, ◌+◌, ◌<◌, Global, length, map, drop, slice_index_or, set}
use Rattle.std.proofs.lemmas.List.{set-get_or}
use Rattle.std.specs.declared.vec.IntoIter.{IntoIter}
use Rattle.std.specs.Vec.Iter.{into_iter_items}
use Rattle.snmp_msg.specs.Variables.{Variable}
use Rattle.snmp_responder.specs.Code.{seen_by}
use Rattle.snmp_walk.specs.Bindings.{given_says}
use Rattle.snmp_walk.specs.Dialogue.{AnswersAll, asked_in, asks_of}
use Rattle.snmp_walk.specs.declared.given.GivenVariable.{GivenVariable}
use Rattle.snmp_walk.specs.declared.column.Column.{Column}
use Rattle.snmp_walk.proofs.Asked.{answered_one, name_asked}
use Rattle.snmp_walk.proofs.Each.{TakenUpTo, answers_at, one_stays, one_taken}
use Rattle.snmp_walk.proofs.answer.take_each.Goals.{then-is_asked+in-Some, else-is_asked}
use Rattle.snmp_walk.proofs.answer.take_each.Goals as goal

pub take-requires : goal.take-requires
take-requires c =
    let seen = seen_by c.args.viewer.now in
    let olds = c.deref_mut-column-items.result.now in
    let now = c.loop-column.column-items in
    let i = c.loop-column.column-index in
    let d = c.column-item.result in
    let column = slice_index_or now i d in
    let name = name_asked column.progress (c.if-is_asked.ensures.0 refl) in
    let more = asks_of (drop (i + 1) olds) in
    let v = given_says c.in-Some.given in
    let rest = map given_says (into_iter_items c.next.new.self) in
    let fits = answered_one column.operation column.progress name.0 more v rest name.1
    (subst (λ (vs : List Variable). AnswersAll (asked_in column.operation column.progress ++ more) vs) (ap (map given_says) c.in-Some.ensures.items)
    (answers_at seen olds i now (map given_says c.args.given.items) (map given_says (into_iter_items c.loop-column.left)) d (omega (arith, c.loop-column-test.true, c.loop-column.auto.column-items)) c.loop-column.invariant)) in
    (name.0, name.1, fits.0)

pub loop-column-preserved : goal.loop-column-preserved
loop-column-preserved c =
    let seen = seen_by c.args.viewer.now in
    let olds = c.deref_mut-column-items.result.now in
    let now = c.loop-column.column-items in
    let i = c.loop-column.column-index in
    let d = c.column-item.result in
    let all = map given_says c.args.given.items in
    let within : i < length now = omega (arith, c.loop-column-test.true, c.loop-column.auto.column-items) in
    elim c.if-is_asked.branch [
      | then-is_asked+in-Some w ↦
          let v = given_says w.in-Some.given in
          let rest = map given_says (into_iter_items w.next.new.self) in
          let new = w.take.new.self in
          let left = ap (λ (it : IntoIter GivenVariable Global). map given_says (into_iter_items it)) w.left-is in
          subst (λ (cs : List Column). TakenUpTo seen olds (i + 1) cs all (map given_says (into_iter_items c.if-is_asked.left))) (sym w.column-items-is)
          (subst (λ (vs : List Variable). TakenUpTo seen olds (i + 1) (set now i new) all vs) (sym left)
          (one_taken seen olds i now all v rest d new within (subst (λ (vs : List Variable). TakenUpTo seen olds i now all vs) (ap (map given_says) w.in-Some.ensures.items) c.loop-column.invariant)
          (record { asked = w.if-is_asked.ensures.0 refl; same = λ j. (w.take.ensures.operation j, w.take.ensures.first j); takes = w.take.ensures.takes })))
      | else-is_asked w ↦
          let left = ap (λ (it : IntoIter GivenVariable Global). map given_says (into_iter_items it)) w.left-is in
          subst (λ (cs : List Column). TakenUpTo seen olds (i + 1) cs all (map given_says (into_iter_items c.if-is_asked.left))) (sym (w.column-items-is ∙ set-get_or now i d))
          (subst (λ (vs : List Variable). TakenUpTo seen olds (i + 1) now all vs) (sym left)
          (one_stays seen olds i now all (map given_says (into_iter_items c.loop-column.left)) d within c.loop-column.invariant (λ is. cc (w.if-is_asked.ensures.1 is))))
    ]

use Rattle.std.proofs.Common.{refl, subst}
use Rattle.std.proofs.lemmas.List.{take_all}
use Rattle.std.proofs.lemmas.List.Elements.{All-more}
use Rattle.std.specs.Prelude.{All, List}
use Rattle.snmp_forward.specs.WaitingInforms.{IsAskedAs}
use Rattle.snmp_forward.specs.declared.waiting_inform.WaitingInform.{WaitingInform}
use Rattle.snmp_forward.proofs.waiting_inform.is_unasked.Goals as goal

pub loop-waiting-preserved : goal.loop-waiting-preserved
loop-waiting-preserved c =
    All-more (λ (x : WaitingInform). ¬ IsAskedAs c.args.receiver c.args.id x) c.args.list.now c.loop-waiting.waiting-index c.waiting-item.result c.loop-waiting-test.true c.loop-waiting.invariant
    (subst (λ (x : WaitingInform). ¬ IsAskedAs c.args.receiver c.args.id x) c.waiting-item.is (λ is. let wrong = c.if-is_asked_as.ensures.1 is in cc wrong))

pub returns : goal.returns
returns c =
    let none = subst (λ (ws : List WaitingInform). All (λ (w : WaitingInform). ¬ IsAskedAs c.args.receiver c.args.id w) ws) (take_all c.loop-waiting.waiting-index c.args.list.now c.loop-waiting-test.false) c.loop-waiting.invariant in
    ((λ is. none), (λ all. refl))

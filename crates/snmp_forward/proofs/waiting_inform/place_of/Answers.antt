use Rattle.std.proofs.Common.{length, refl, subst}
use Rattle.std.proofs.lemmas.List.{take_all}
use Rattle.std.proofs.lemmas.List.Elements.{All-more}
use Rattle.std.proofs.lemmas.Option.{slice_get_read}
use Rattle.std.specs.Prelude.{All, List}
use Rattle.snmp_forward.specs.WaitingInforms.{IsAsked}
use Rattle.snmp_forward.specs.declared.waiting_inform.WaitingInform.{WaitingInform}
use Rattle.snmp_forward.proofs.waiting_inform.place_of.Goals as goal

pub returns-then-is_asked : goal.returns-then-is_asked
returns-then-is_asked c =
    let ws = c.args.list.now in
    let w = c.index-list-place.result in record {
      it = w;
      at = slice_get_read ws (length ws) c.loop-place.place w refl c.loop-place-test.true c.index-list-place.is;
      has = c.if-is_asked.ensures.0 refl;
      before = c.loop-place.invariant;
    }

pub loop-place-preserved : goal.loop-place-preserved
loop-place-preserved c =
    let w = c.index-list-place.result in
    All-more (λ (x : WaitingInform). ¬ IsAsked c.args.receiver c.args.token x) c.args.list.now c.loop-place.place w c.loop-place-test.true c.loop-place.invariant
    (subst (λ (x : WaitingInform). ¬ IsAsked c.args.receiver c.args.token x) c.index-list-place.is (λ is. let wrong = c.if-is_asked.ensures.1 is in cc wrong))

pub returns : goal.returns
returns c = subst (λ (ws : List WaitingInform). All (λ (w : WaitingInform). ¬ IsAsked c.args.receiver c.args.token w) ws) (take_all c.loop-place.place c.args.list.now c.loop-place-test.false) c.loop-place.invariant

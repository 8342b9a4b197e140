use Rattle.std.proofs.Common.{length, refl, subst}
use Rattle.std.proofs.lemmas.List.{take_all}
use Rattle.std.proofs.lemmas.Option.{slice_get_read}
use Rattle.std.specs.Prelude.{All, List}
use Rattle.snmp_forward.specs.WaitingInforms.{IsDue}
use Rattle.snmp_forward.specs.declared.waiting_inform.WaitingInform.{WaitingInform}
use Rattle.snmp_forward.proofs.waiting_inform.first_due.Goals as goal

pub returns-then-waiting-now : goal.returns-then-waiting-now
returns-then-waiting-now c =
    let ws = c.args.list.now in
    let w = c.index-list-place.result in record {
      it = w;
      at = slice_get_read ws (length ws) c.loop-place.place w refl c.loop-place-test.true c.index-list-place.is;
      has = c.if-waiting-now.true;
      before = c.loop-place.invariant;
    }

pub returns : goal.returns
returns c = subst (λ (ws : List WaitingInform). All (λ (w : WaitingInform). ¬ IsDue c.args.now w) ws) (take_all c.loop-place.place c.args.list.now c.loop-place-test.false) c.loop-place.invariant

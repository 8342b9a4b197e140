use Rattle.std.proofs.Common.{arith, refl, subst}
use Rattle.std.proofs.lemmas.List.{take_all}
use Rattle.std.proofs.lemmas.List.Elements.{All-more}
use Rattle.std.proofs.lemmas.Option.{slice_get_read}
use Rattle.std.specs.Prelude.{All, List, length}
use Rattle.snmp_forward.specs.Receivers.{IsShort}
use Rattle.snmp_forward.specs.declared.receivers.Receiver.{Receiver}
use Rattle.snmp_forward.proofs.receivers.first_long.Goals as goal

pub returns-then-len-gt-USER_NAME_LIMIT : goal.returns-then-len-gt-USER_NAME_LIMIT
returns-then-len-gt-USER_NAME_LIMIT c =
    let xs = c.args.receivers.now in
    let r = c.index-receivers-number.result in record {
      long = (r, slice_get_read xs (length xs) c.loop-number.number r refl c.loop-number-test.true c.index-receivers-number.is, omega (arith, c.len.ensures, c.if-len-gt-USER_NAME_LIMIT.true));
      before = c.loop-number.invariant;
    }

pub loop-number-preserved : goal.loop-number-preserved
loop-number-preserved c =
    let r = c.index-receivers-number.result in
    All-more IsShort c.args.receivers.now c.loop-number.number r c.loop-number-test.true c.loop-number.invariant (subst IsShort c.index-receivers-number.is (omega (arith, c.len.ensures, c.if-len-gt-USER_NAME_LIMIT.false)))

pub returns : goal.returns
returns c = subst (λ (rs : List Receiver). All IsShort rs) (take_all c.loop-number.number c.args.receivers.now c.loop-number-test.false) c.loop-number.invariant

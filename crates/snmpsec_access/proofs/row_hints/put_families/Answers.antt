use Rattle.snmpsec_access.specs.Hints.{all_told, family_hints}
use Rattle.snmpsec_access.specs.Known.{rows_of}
use Rattle.snmpsec_access.proofs.HintWalks.{one_more, all_told_of}
use Rattle.snmpsec_access.proofs.row_hints.put_families.Goals as goal

pub loop-position-preserved : goal.loop-position-preserved
loop-position-preserved c =
    one_more (family_hints (rows_of c.args.known.now)) c.deref-row-items.result.now (rows_of c.args.known.now).families c.deref-row-items.ensures.value c.loop-position.position c.row-item.result
    (all_told c.args.hints.now.items) (all_told c.loop-position.hints.items) (all_told c.put_family.new.hints.items) c.loop-position-test.true c.row-item.is c.loop-position.invariant c.in_ok-put_family.ensures

pub returns : goal.returns
returns c =
    all_told_of (family_hints (rows_of c.args.known.now)) c.deref-row-items.result.now (rows_of c.args.known.now).families c.deref-row-items.ensures.value c.loop-position.position
    (all_told c.args.hints.now.items) (all_told c.loop-position.hints.items) c.loop-position-test.false c.loop-position.invariant

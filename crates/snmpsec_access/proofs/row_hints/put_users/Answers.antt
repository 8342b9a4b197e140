use Rattle.snmpsec_access.specs.Hints.{all_told, user_hints}
use Rattle.snmpsec_access.specs.Known.{users_of, rows_of}
use Rattle.snmpsec_access.proofs.HintWalks.{one_more, all_told_of}
use Rattle.snmpsec_access.proofs.row_hints.put_users.Goals as goal

pub loop-position-preserved : goal.loop-position-preserved
loop-position-preserved c =
    one_more (user_hints (rows_of c.args.known.now)) c.deref-row-items.result.now (users_of c.args.known.now) c.deref-row-items.ensures.value c.loop-position.position c.row-item.result
    (all_told c.args.hints.now.items) (all_told c.loop-position.hints.items) (all_told c.put_user.new.hints.items) c.loop-position-test.true c.row-item.is c.loop-position.invariant c.in_ok-put_user.ensures

pub returns : goal.returns
returns c =
    all_told_of (user_hints (rows_of c.args.known.now)) c.deref-row-items.result.now (users_of c.args.known.now) c.deref-row-items.ensures.value c.loop-position.position
    (all_told c.args.hints.now.items) (all_told c.loop-position.hints.items) c.loop-position-test.false c.loop-position.invariant

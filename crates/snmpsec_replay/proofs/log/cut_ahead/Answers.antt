use Rattle.std.proofs.Common.{◌+◌, arith, refl}
use Rattle.snmpsec_replay.proofs.Aheads.{front_lacks, feed_taken}
use Rattle.snmpsec_replay.proofs.log.cut_ahead.Goals as goal

pub returns-then-end-room-clause-cut : goal.returns-then-end-room-clause-cut
returns-then-end-room-clause-cut c =
    let f = c.find-end in
    (refl, front_lacks 10 c.args.octets.now (c.args.room + 1) (omega (arith, f.ensures.within, c.if-end-room.true)) (λ k l. f.ensures.before k (omega (arith, l, c.if-end-room.true))), refl)

pub returns-then-end-octets-clause-cut : goal.returns-then-end-octets-clause-cut
returns-then-end-octets-clause-cut c =
    let f = c.find-end in
    (front_lacks 10 c.args.octets.now f.result f.ensures.within f.ensures.before, feed_taken c.args.octets.now f.result c.if-end-octets.true (f.ensures.found c.if-end-octets.true))

pub returns-else-end-eq0-clause-cut : goal.returns-else-end-eq0-clause-cut
returns-else-end-eq0-clause-cut c =
    let f = c.find-end in
    (front_lacks 10 c.args.octets.now f.result f.ensures.within f.ensures.before, refl, omega (arith, c.if-end-eq0.false))

use Rattle.std.proofs.Common.{◌++◌, take}
use Rattle.std.proofs.KnownBytes.{Appends-trans}
use Rattle.snmpsec_io.proofs.Pieces.{resplit}
use Rattle.snmpsec_io.proofs.transfer.write_whole.Goals as goal

pub loop-rest-preserved : goal.loop-rest-preserved
loop-rest-preserved g c =
    let inv = c.loop-rest.invariant in (
      inv.0 ++ take c.in_ok-count.count c.loop-rest.rest.now,
      resplit _ _ _ _ c.in_ok-count.ensures.bound.1 inv.1,
      Appends-trans _ _ _ _ _ inv.2 c.in_ok-count.ensures.ok,
    )

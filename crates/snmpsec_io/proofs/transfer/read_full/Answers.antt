use Rattle.std.proofs.Common.{rules}
use Rattle.snmpsec_io.proofs.Fills.{filled_more}
use Rattle.snmpsec_io.proofs.transfer.read_full.Goals as goal

pub loop-count-preserved : goal.loop-count-preserved
loop-count-preserved g c =
    let inv = c.loop-count.invariant in
    record {
      room = search rules;
      within = search rules;
      read = filled_more _ _ _ _ _ _ _ _ inv.within c.in_ok-more.ensures.bound inv.read c.in_ok-more.ensures.ok;
    }

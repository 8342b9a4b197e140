use Rattle.engine_clock.specs.Marks.{pair_at, mark_at}
use Rattle.snmp_manager.specs.Knowledge.{PairsOf, knows_after_all, at_first}
use Rattle.snmp_manager.proofs.Origins.{stays, not_below_member, mark_of}
use Rattle.snmp_manager.proofs.Worlds.{greatest_pair}
use Rattle.snmp_manager.proofs.world_laws.no_pair_goes_back.Goals as goal

pub returns : goal.returns
returns c = λ users events begin world i a b engine p greatest never at_a at_b is.
    let S = (knows_after_all users events (at_first begin)).managers i engine in
    let first = mark_of (mark_at a.clocks engine) p is in
    not_below_member (PairsOf S) (pair_at b.clocks engine) p (greatest_pair S (mark_at b.clocks engine) (greatest.managers i b at_b engine))
    (first.0, stays users events (at_first begin) i engine first.0 never (a, at_a, first.1), first.2)

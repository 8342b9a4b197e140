use Rattle.snmp_manager.specs.Knowledge.{knows_after_all, at_first}
use Rattle.snmp_manager.proofs.Worlds.{equal_pairs}
use Rattle.snmp_manager.proofs.world_laws.equal_pairs_known_equal_pairs.Goals as goal

pub returns : goal.returns
returns c = λ users events begin world i j a b engine greatest at_i at_j same.
    let known = knows_after_all users events (at_first begin) in
    equal_pairs known known world world i j a b engine greatest greatest at_i at_j same

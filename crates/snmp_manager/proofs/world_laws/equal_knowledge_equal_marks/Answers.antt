use Rattle.snmp_manager.specs.Knowledge.{knows_after_all, at_first}
use Rattle.snmp_manager.proofs.Worlds.{equal_marks}
use Rattle.snmp_manager.proofs.world_laws.equal_knowledge_equal_marks.Goals as goal

pub returns : goal.returns
returns c = λ users events begin world i j a b greatest at_i at_j same.
    let known = knows_after_all users events (at_first begin) in
    equal_marks known known world world i j a b greatest greatest at_i at_j same

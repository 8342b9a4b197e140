use Rattle.snmp_manager.specs.Knowledge.{knows_after_all, at_first}
use Rattle.snmp_manager.proofs.Worlds.{equal_marks, equal_pairs}
use Rattle.snmp_manager.proofs.world_laws.equal_knowledge_in_two_worlds.Goals as goal

pub returns-clause-marks : goal.returns-clause-marks
returns-clause-marks c = λ users others events other_events begin world other_begin other i j a b greatest other_greatest at_i at_j same.
    equal_marks (knows_after_all users events (at_first begin)) (knows_after_all others other_events (at_first other_begin)) world other i j a b greatest other_greatest at_i at_j same

pub returns-clause-pairs : goal.returns-clause-pairs
returns-clause-pairs c = λ users others events other_events begin world other_begin other i j a b engine greatest other_greatest at_i at_j same.
    equal_pairs (knows_after_all users events (at_first begin)) (knows_after_all others other_events (at_first other_begin)) world other i j a b engine greatest other_greatest at_i at_j same

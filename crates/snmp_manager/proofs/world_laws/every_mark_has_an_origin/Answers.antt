use Rattle.std.proofs.Common.{inl}
use Rattle.snmp_manager.specs.Knowledge.{at_first}
use Rattle.snmp_manager.proofs.Origins.{all_events}
use Rattle.snmp_manager.proofs.world_laws.every_mark_has_an_origin.Goals as goal

pub returns : goal.returns
returns c = λ users events begin i engine mark known. all_events users events (at_first begin) engine mark (inl (i, known))

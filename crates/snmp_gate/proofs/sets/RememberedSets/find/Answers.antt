use Rattle.std.proofs.Common.{subst, List}
use Rattle.snmp_gate.specs.Sets.{IsUnknown}
use Rattle.snmp_gate.specs.declared.sets.RememberedSet.{RememberedSet}
use Rattle.snmp_gate.proofs.sets.RememberedSets.find.Goals as goal

pub returns-in-None : goal.returns-in-None
returns-in-None c = subst (λ (sets : List RememberedSet). IsUnknown c.args.digest.now sets) c.deref.ensures.value c.in-None.ensures

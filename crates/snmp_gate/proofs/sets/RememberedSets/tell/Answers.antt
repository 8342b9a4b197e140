use Rattle.std.proofs.Common.{inl, refl, subst, List}
use Rattle.snmp_gate.specs.Sets.{IsUnknown}
use Rattle.snmp_gate.specs.declared.sets.RememberedSet.{RememberedSet}
use Rattle.snmp_gate.proofs.sets.RememberedSets.tell.Goals as goal

pub returns-in_default : goal.returns-in_default
returns-in_default c = inl (subst (λ (sets : List RememberedSet). IsUnknown c.args.digest.now sets) c.deref.ensures.value c.in_default.ensures, refl)

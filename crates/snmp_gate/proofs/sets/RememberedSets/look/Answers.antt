use Rattle.std.proofs.Common.{ap, subst, length, List, arith}
use Rattle.snmp_gate.specs.Sets.{IsUnknown}
use Rattle.snmp_gate.specs.declared.sets.RememberedSet.{RememberedSet}
use Rattle.snmp_gate.proofs.sets.RememberedSets.look.Goals as goal

pub returns-in-None-clause-note : goal.returns-in-None-clause-note
returns-in-None-clause-note c =
    let is = c.forget.ensures in (
      subst (λ (sets : List RememberedSet). IsUnknown c.args.digest.now sets) is c.in-None.ensures,
      omega (arith, ap (λ (sets : List RememberedSet). length sets) is),
    )

pub returns-in-None-2-clause-note : goal.returns-in-None-2-clause-note
returns-in-None-2-clause-note c =
    let is = c.forget.ensures in (
      subst (λ (sets : List RememberedSet). IsUnknown c.args.digest.now sets) is c.in-None-2.ensures,
      omega (arith, ap (λ (sets : List RememberedSet). length sets) is),
    )

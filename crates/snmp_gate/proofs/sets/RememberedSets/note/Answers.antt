use Rattle.std.proofs.Common.{ap, subst, length, ◌∙◌, ◌++◌, ◌∷◌, [], List, arith}
use Rattle.snmp_gate.specs.Sets.{IsUnknown, new_set}
use Rattle.snmp_gate.specs.declared.sets.RememberedSet.{RememberedSet}
use Rattle.snmp_gate.proofs.sets.RememberedSets.note.Goals as goal

pub returns-then-len-ge-SETS_LIMIT-clause-noted : goal.returns-then-len-ge-SETS_LIMIT-clause-noted
returns-then-len-ge-SETS_LIMIT-clause-noted c =
    let is = c.forget.ensures in (
      subst (λ (sets : List RememberedSet). IsUnknown c.args.digest.now sets) is c.in_default.ensures,
      omega (arith, ap (λ (sets : List RememberedSet). length sets) is),
      is,
    )

pub returns-clause-noted : goal.returns-clause-noted
returns-clause-noted c =
    let is = c.forget.ensures in (
      subst (λ (sets : List RememberedSet). IsUnknown c.args.digest.now sets) is c.in_default.ensures,
      omega (arith, ap (λ (sets : List RememberedSet). length sets) is),
      c.in_ok-push.ensures.items ∙ ap (λ (sets : List RememberedSet). sets ++ new_set c.args.now c.args.digest.now ∷ []) is,
    )

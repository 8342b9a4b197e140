use Rattle.std.proofs.Common.{rules, ◌≡◌, ◌∙◌, ◌∷◌, ◌++◌, [], ap, sym, append_assoc, arith}
use Rattle.snmp_msg.specs.Variables.{variable_of, bindings_left}
use Rattle.diagnose_text.specs.Facts.{IsVariableRead}
use Rattle.diagnose_text.proofs.Firsts.{one_told, one_counted}
use Rattle.diagnose_text.proofs.reading.first_values.Goals as goal

pub loop-binding-preserved-in-Continue-branch-2 : goal.loop-binding-preserved-in-Continue-branch-2
loop-binding-preserved-in-Continue-branch-2 c =
    let held = c.loop-binding.invariant in
    let v = variable_of c.in-Some.binding in
    let left : bindings_left c.loop-binding.binding-iterator ≡ v ∷ bindings_left c.next.new.self = search rules in (
      held.0 ++ v ∷ [],
      held.1 ∙ ap (λ t. held.0 ++ t) left ∙ sym (append_assoc held.0 (v ∷ []) (bindings_left c.next.new.self)),
      one_told IsVariableRead held.0 c.loop-binding.values.items c.push.new.self.items c.loop-binding.more v c.in_ok-value.value (omega (arith, c.if-len-lt-VARIABLES.true, c.len.ensures)) held.2 c.in_ok-value.ensures
          c.in_ok-push.ensures.items,
    )

pub loop-binding-preserved : goal.loop-binding-preserved
loop-binding-preserved c =
    let held = c.loop-binding.invariant in
    let v = variable_of c.in-Some.binding in
    let left : bindings_left c.loop-binding.binding-iterator ≡ v ∷ bindings_left c.next.new.self = search rules in (
      held.0 ++ v ∷ [],
      held.1 ∙ ap (λ t. held.0 ++ t) left ∙ sym (append_assoc held.0 (v ∷ []) (bindings_left c.next.new.self)),
      one_counted IsVariableRead held.0 c.loop-binding.values.items c.loop-binding.more c.saturating_add-more.result v (λ room. absurd (omega (arith, room, c.if-len-lt-VARIABLES.false, c.len.ensures))) held.2
          c.saturating_add-more.ensures,
    )

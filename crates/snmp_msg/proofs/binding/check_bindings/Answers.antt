use Rattle.std.proofs.Common.{◌≡◌, ◌<◌, length, None, sym, ap, ◌∙◌, rules, arith, slice_range}
use Rattle.std.proofs.lemmas.List.Edits.{length-between}
use Rattle.snmp_msg.specs.Variables.{binding_in, after_variables}
use Rattle.snmp_msg.proofs.Variables.{no_variable, more_variables, nothing_after, none_skipped, one_skipped}
use Rattle.snmp_msg.proofs.binding.check_bindings.Goals as goal

pub returns-in_err-binding-clause-err : goal.returns-in_err-binding-clause-err
returns-in_err-binding-clause-err c =
    let w = c.args.bytes.now in
    let rest = slice_range w c.loop-place.place c.args.end in
    let none : binding_in rest ≡ None = none_skipped (binding_in rest) c.in_err-binding.ensures.after in
    let after : after_variables (slice_range w c.args.at c.args.end) ≡ rest = sym c.loop-place.invariant.same ∙ (no_variable rest none).1 in
    let size : 0 < length (after_variables (slice_range w c.args.at c.args.end)) = omega (arith, ap length after, length-between w c.loop-place.place c.args.end c.requires.within) in
    search rules

pub loop-place-preserved : goal.loop-place-preserved
loop-place-preserved c =
    let w = c.args.bytes.now in
    let rest = slice_range w c.loop-place.place c.args.end in
    let after = slice_range w c.in_ok-binding.binding.end c.args.end in
    let begun = one_skipped (binding_in rest) after c.in_ok-binding.ensures.after in
    record { within = c.in_ok-binding.ensures.ordered.2; same = sym (more_variables rest (begun.0, after) begun.1).1 ∙ c.loop-place.invariant.same }

pub returns-clause-ok : goal.returns-clause-ok
returns-clause-ok c =
    let w = c.args.bytes.now in
    let rest = slice_range w c.loop-place.place c.args.end in
    sym c.loop-place.invariant.same ∙ nothing_after rest (omega (arith, length-between w c.loop-place.place c.args.end c.requires.within))

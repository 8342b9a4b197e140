use Rattle.std.proofs.Common.{refl, sym, ap, subst, ◌∙◌, ◌≡◌, length, arith}
use Rattle.snmp_msg.specs.Variables.{bound_variable, variables_left, variables_of}
use Rattle.snmp_responder.specs.Code.{seen_by}
use Rattle.snmp_gate.proofs.Counts.{counts_all, counts_begun, counts_hidden, counts_seen, few_variables}
use Rattle.snmp_gate.proofs.hidden.count_hidden.Goals as goal

pub loop-binding-init : goal.loop-binding-init
loop-binding-init c =
    let list = c.args.answer.now.list.now in
    let left = variables_left c.into_iter-binding-iterator.result in
    let begun : left ≡ variables_of list = ap variables_left c.into_iter-binding-iterator.ensures.into_iter_gives ∙ c.variable_bindings-binding-items.ensures.first in
    record {
      ready = tt;
      ends = tt;
      counts = counts_begun (seen_by c.args.viewer.now) (variables_of list) left begun;
      few = omega (arith, ap length begun, few_variables list);
    }

pub loop-binding-preserved : goal.loop-binding-preserved
loop-binding-preserved c =
    let inv = c.loop-binding.invariant in
    let Seen = seen_by c.args.viewer.now in
    let all = variables_of c.args.answer.now.list.now in
    let left = variables_left c.loop-binding.binding-iterator in
    let rest = variables_left c.next.new.self in
    let sees = subst Seen c.oid.ensures (c.if-not-sees.ensures.0 refl) in
    record {
      ready = tt;
      ends = tt;
      counts = counts_seen Seen all left rest (bound_variable c.in-Some.binding) c.loop-binding.hidden c.in-Some.ensures.steps sees inv.counts;
      few = omega (arith, inv.few, ap length c.in-Some.ensures.steps);
    }

pub loop-binding-preserved-then-not-sees : goal.loop-binding-preserved-then-not-sees
loop-binding-preserved-then-not-sees c =
    let inv = c.loop-binding.invariant in
    let Seen = seen_by c.args.viewer.now in
    let all = variables_of c.args.answer.now.list.now in
    let left = variables_left c.loop-binding.binding-iterator in
    let rest = variables_left c.next.new.self in
    let hides : ¬ Seen c.in-Some.binding.name = λ sees. cc (c.if-not-sees.ensures.1 (subst Seen (sym c.oid.ensures) sees)) in
    record {
      ready = tt;
      ends = tt;
      counts = counts_hidden Seen all left rest (bound_variable c.in-Some.binding) c.loop-binding.hidden c.in-Some.ensures.steps hides inv.counts;
      few = omega (arith, inv.few, ap length c.in-Some.ensures.steps);
    }

pub returns : goal.returns
returns c = counts_all (seen_by c.args.viewer.now) (variables_of c.args.answer.now.list.now) (variables_left c.loop-binding.binding-iterator) c.loop-binding.hidden c.in-None.ensures.steps.0 c.loop-binding.invariant.counts

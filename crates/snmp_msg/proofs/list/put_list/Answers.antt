use Rattle.std.proofs.Common.{◌≡◌, ◌++◌, ℕ, List, length, [], ◌∷◌, ap, sym, subst, ◌∙◌, append_assoc, arith, rules}
use Rattle.std.proofs.lemmas.List.{append-nil}
use Rattle.snmp_msg.specs.Variables.{Variable, AllFit, variables_of, bound_variable, variable_text, variables_left, variables_text}
use Rattle.snmp_msg.proofs.Variables.{list_fits, variable_text-longer}
use Rattle.snmp_ber.proofs.Oids.{octets_from}
use Rattle.snmp_msg.proofs.Written.{no_text, first_text, left_length}
use Rattle.snmp_msg.proofs.list.put_list.Goals as goal

pub loop-binding-init : goal.loop-binding-init
loop-binding-init c =
    let begun : variables_left c.into_iter-binding-iterator.result ≡ variables_of c.args.list.now = search rules in
    let fit : AllFit (variables_of c.args.list.now) = list_fits c.args.list.now (octets_from c.args.list.now (λ i. omega (arith, c.type_inv.list i))) c.requires.all in
    record {
      ready = tt;
      ends = tt;
      so_far = ap (λ (vs : List Variable). c.args.out.now.items ++ variables_text vs) begun;
      short = omega (arith, ap (λ (vs : List Variable). length (variables_text vs)) begun, c.requires.short);
      fit = subst AllFit (sym begun) fit;
    }

pub put_binding-requires-clause-short : goal.put_binding-requires-clause-short
put_binding-requires-clause-short c =
    let left = left_length (variables_left c.loop-binding.binding-iterator) (bound_variable c.in-Some.binding) (variables_left c.next.new.self) c.in-Some.ensures.steps in
    let longer = variable_text-longer (bound_variable c.in-Some.binding) in
    omega (arith, left, longer.0, longer.1, c.loop-binding.invariant.short)

pub loop-binding-preserved : goal.loop-binding-preserved
loop-binding-preserved c =
    let v = bound_variable c.in-Some.binding in
    let vs = variables_left c.next.new.self in
    let step = c.in-Some.ensures.steps in
    let left = left_length (variables_left c.loop-binding.binding-iterator) v vs step in
    let fit : AllFit (v ∷ vs) = subst AllFit step c.loop-binding.invariant.fit in
    record {
      ready = tt;
      ends = tt;
      so_far = ap (λ (t : List ℕ). t ++ variables_text vs) c.in_ok-put_binding.ensures.ok
          ∙ append_assoc c.loop-binding.out.items (variable_text v) (variables_text vs)
          ∙ ap (λ (t : List ℕ). c.loop-binding.out.items ++ t) (sym (first_text v vs) ∙ ap variables_text (sym step))
          ∙ c.loop-binding.invariant.so_far;
      short = omega (arith, left, c.loop-binding.invariant.short);
      fit = fit.1;
    }

pub returns : goal.returns
returns c =
    let none : variables_left c.loop-binding.binding-iterator ≡ [] = search rules in
    record { ok = sym (append-nil c.loop-binding.out.items) ∙ ap (λ (t : List ℕ). c.loop-binding.out.items ++ t) (sym (ap variables_text none ∙ no_text)) ∙ c.loop-binding.invariant.so_far }

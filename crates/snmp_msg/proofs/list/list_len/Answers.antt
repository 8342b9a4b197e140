use Rattle.std.proofs.Common.{◌≡◌, ◌<◌, List, length, [], ◌∷◌, ap, sym, subst, arith, rules}
use Rattle.snmp_msg.specs.Variables.{Variable, AllFit, variables_of, bound_variable, variables_left, variables_text}
use Rattle.snmp_msg.proofs.Variables.{list_fits}
use Rattle.snmp_ber.proofs.Oids.{octets_from}
use Rattle.snmp_msg.proofs.Written.{no_text, left_length}
use Rattle.snmp_msg.proofs.list.list_len.Goals as goal

pub loop-binding-init : goal.loop-binding-init
loop-binding-init c =
    let begun : variables_left c.into_iter-binding-iterator.result ≡ variables_of c.args.list.now = search rules in
    let fit : AllFit (variables_of c.args.list.now) = list_fits c.args.list.now (octets_from c.args.list.now (λ i. omega (arith, c.type_inv.list i))) c.requires in
    record { ready = tt; ends = tt; size = omega (arith, ap (λ (vs : List Variable). length (variables_text vs)) begun); most = omega arith; fit = subst AllFit (sym begun) fit }

pub returns-in_err-size-clause-none : goal.returns-in_err-size-clause-none
returns-in_err-size-clause-none c =
    let left = left_length (variables_left c.loop-binding.binding-iterator) (bound_variable c.in-Some.binding) (variables_left c.next.new.self) c.in-Some.ensures.steps in
    let large : 65507 < length (variables_text (variables_of c.args.list.now)) = omega (arith, left, c.in_err-size.ensures.none, c.loop-binding.invariant.size) in
    search rules

pub returns-then-size-gt-LARGEST-clause-none : goal.returns-then-size-gt-LARGEST-clause-none
returns-then-size-gt-LARGEST-clause-none c =
    let left = left_length (variables_left c.loop-binding.binding-iterator) (bound_variable c.in-Some.binding) (variables_left c.next.new.self) c.in-Some.ensures.steps in
    omega (arith, left, c.in_ok-size.ensures.some, c.loop-binding.invariant.size)

pub loop-binding-preserved : goal.loop-binding-preserved
loop-binding-preserved c =
    let left = left_length (variables_left c.loop-binding.binding-iterator) (bound_variable c.in-Some.binding) (variables_left c.next.new.self) c.in-Some.ensures.steps in
    let fit : AllFit (bound_variable c.in-Some.binding ∷ variables_left c.next.new.self) = subst AllFit c.in-Some.ensures.steps c.loop-binding.invariant.fit in
    record {
      ready = tt;
      ends = tt;
      size = omega (arith, left, c.in_ok-size.ensures.some, c.loop-binding.invariant.size);
      most = omega arith;
      fit = fit.1;
    }

pub returns-clause-some : goal.returns-clause-some
returns-clause-some c =
    let none : variables_left c.loop-binding.binding-iterator ≡ [] = search rules in
    omega (arith, c.loop-binding.invariant.size, ap (λ (vs : List Variable). length (variables_text vs)) none, ap length no_text)

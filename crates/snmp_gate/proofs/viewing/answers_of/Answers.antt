use Rattle.std.proofs.Common.{sym, ap, ◌∙◌, rules, append_assoc, List, [], ◌∷◌, ◌++◌}
use Rattle.std.specs.List.{AllZip}
use Rattle.snmp_msg.specs.Variables.{Variable, bound_variable, variables_left}
use Rattle.snmp_gate.specs.Messages.{IsAnswerFor}
use Rattle.snmp_gate.proofs.viewing.answers_of.Goals as goal

push : {A B : Type 0} (R : A → B → Type 0) (xs : List A) (ys : List B) (x : A) (y : B) → AllZip R xs ys → R x y → AllZip R (xs ++ x ∷ []) (ys ++ y ∷ [])
push R [] [] x y all r = (r, search rules)
push R [] (b ∷ ys) x y all r = absurd all
push R (a ∷ xs) [] x y all r = absurd all
push R (a ∷ xs) (b ∷ ys) x y all r = (all.0, push R xs ys x y all.1 r)

pub loop-binding-preserved : goal.loop-binding-preserved
loop-binding-preserved c =
    let inv = c.loop-binding.invariant in
    let v = bound_variable c.in-Some.binding in
    record {
      ready = tt;
      ends = tt;
      done = inv.done ++ v ∷ [];
      joined = append_assoc inv.done (v ∷ []) (variables_left c.next.new.self) ∙ ap (λ (vs : List Variable). inv.done ++ vs) (sym c.in-Some.ensures.steps) ∙ inv.joined;
      zip = rw c.in_ok-push.ensures.items (push (IsAnswerFor c.args.viewer.now c.args.view) inv.done _ v c.is_access_allowed.result inv.zip (rw c.oid-name.ensures at c.is_access_allowed.ensures.answer));
    }

use Rattle.std.proofs.Common.{refl, sym, ap, subst, ◌∙◌, append_assoc, List, [], ◌∷◌, ◌++◌}
use Rattle.std.proofs.lemmas.List.Elements.{All-push}
use Rattle.snmp_msg.specs.Variables.{Variable, bound_variable, variables_left}
use Rattle.snmp_incoming.specs.Answers.{given_of}
use Rattle.snmp_listener.specs.Wanted.{notified_in}
use Rattle.snmp_listener.proofs.wanted.is_list_seen.Goals as goal

pub loop-binding-preserved : goal.loop-binding-preserved
loop-binding-preserved c =
    let inv = c.loop-binding.invariant in
    let v = bound_variable c.in-Some.binding in
    let Seen = notified_in c.args.tables.now (given_of c.args.taken.now) c.args.context.now in
    record {
      ready = tt;
      ends = tt;
      done = inv.done ++ v ∷ [];
      joined = append_assoc inv.done (v ∷ []) (variables_left c.next.new.self) ∙ ap (λ (vs : List Variable). inv.done ++ vs) (sym c.in-Some.ensures.steps) ∙ inv.joined;
      all = All-push (λ (x : Variable). Seen x.name) inv.done v inv.all (subst Seen c.oid.ensures (c.if-not-is_seen.ensures.0 refl));
    }

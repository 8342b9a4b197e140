use Rattle.std.proofs.Common.{sym, ap, subst, ◌∙◌, append_assoc, List, ℕ, [], ◌∷◌, ◌++◌}
use Rattle.std.proofs.lemmas.List.Elements.{All-push}
use Rattle.snmp_ber.specs.Oid.{IsObjectId}
use Rattle.snmp_msg.specs.Variables.{Variable, bound_variable, variables_left}
use Rattle.snmp_responder.specs.Code.{seen_by}
use Rattle.snmp_walk.specs.Column.{Stands}
use Rattle.snmp_walk.specs.Dialogue.{ColumnBegins}
use Rattle.snmp_walk.specs.Steps.{Begins}
use Rattle.snmp_walk.specs.declared.operation.ReadOperation.{ReadOperation}
use Rattle.snmp_walk.proofs.Named.{IsNamedColumn, begun_named}
use Rattle.snmp_walk.proofs.Names.{one_named}
use Rattle.snmp_walk.proofs.Pushed.{pushed}
use Rattle.snmp_walk.proofs.dialogue.Dialogue.new.Goals as goal

pub loop-binding-preserved : goal.loop-binding-preserved
loop-binding-preserved c =
    let inv = c.loop-binding.invariant in
    let v = bound_variable c.in-Some.binding in
    let columns = c.loop-binding.columns.items in
    let joined = ap (λ (vs : List Variable). inv.done ++ vs) (sym c.in-Some.ensures.steps) ∙ inv.joined in
    let id = one_named c.args.request.now.list.now inv.done (variables_left c.next.new.self) v joined in
    record {
      ready = tt;
      ends = tt;
      done = inv.done ++ v ∷ [];
      joined = append_assoc inv.done (v ∷ []) (variables_left c.next.new.self) ∙ joined;
      requests = rw c.in_ok-push.ensures.items (pushed columns c.in_ok-column.column c.args.operation inv.done v inv.requests c.in_ok-column.ensures.operation (c.in_ok-column.ensures.first ∙ c.oid.ensures));
      begin = rw c.in_ok-push.ensures.items (All-push (ColumnBegins (seen_by c.args.viewer.now)) columns c.in_ok-column.column inv.begin
          (subst (λ (o : ReadOperation). Begins (seen_by c.args.viewer.now) o c.in_ok-column.column.first c.in_ok-column.column.progress) (sym c.in_ok-column.ensures.operation)
          (subst (λ (name : List ℕ). Begins (seen_by c.args.viewer.now) c.args.operation name c.in_ok-column.column.progress) (sym c.in_ok-column.ensures.first) c.in_ok-column.ensures.begins)));
      stand = λ told. rw c.in_ok-push.ensures.items (All-push (Stands (seen_by c.args.viewer.now) told) columns c.in_ok-column.column (inv.stand told) (c.in_ok-column.ensures.stands told));
      named = rw c.in_ok-push.ensures.items (All-push IsNamedColumn columns c.in_ok-column.column inv.named
          (begun_named (seen_by c.args.viewer.now) c.args.operation c.oid.result c.in_ok-column.column.progress c.in_ok-column.ensures.begins (subst IsObjectId (sym c.oid.ensures) id)));
    }

use Rattle.std.proofs.Common.{sym, ap, subst, ◌∙◌, append_assoc, arith, length, map, List, ℕ, [], ◌∷◌, ◌++◌}
use Rattle.std.proofs.lemmas.List.{length_push}
use Rattle.std.proofs.lemmas.List.Elements.{All-nil, All-push}
use Rattle.snmp_ber.specs.Oid.{IsObjectId}
use Rattle.snmp_msg.specs.Variables.{Variable, bound_variable, variables_left}
use Rattle.snmp_responder.specs.Code.{seen_by}
use Rattle.snmp_walk.specs.BulkColumn.{BulkStands, IsNew, bulk_request}
use Rattle.snmp_walk.specs.BulkDialogue.{IsMostOf}
use Rattle.snmp_walk.proofs.BulkNamed.{IsNamedBulk}
use Rattle.snmp_walk.proofs.Names.{one_named}
use Rattle.snmp_walk.proofs.BulkRequests.{bulk_pushed, none_requested}
use Rattle.snmp_walk.proofs.bulk_dialogue.BulkDialogue.new.Goals as goal

pub loop-binding-init : goal.loop-binding-init
loop-binding-init c = record {
  ready = tt;
  ends = tt;
  done = [];
  joined = ap variables_left c.into_iter-binding-iterator.ensures.into_iter_gives ∙ c.variable_bindings-binding-items.ensures.first;
  long = ap length c.in_ok-columns.ensures.items;
  requests = ap (map bulk_request) c.in_ok-columns.ensures.items ∙ none_requested c.count_of-non_repeaters.result c.count_of-max_repetitions.result;
  begin = rw c.in_ok-columns.ensures.items (All-nil IsNew);
  stand = λ viewer told. rw c.in_ok-columns.ensures.items (All-nil (BulkStands (seen_by viewer) told));
  named = rw c.in_ok-columns.ensures.items (All-nil IsNamedBulk);
}

pub loop-binding-preserved : goal.loop-binding-preserved
loop-binding-preserved c =
    let inv = c.loop-binding.invariant in
    let v = bound_variable c.in-Some.binding in
    let columns = c.loop-binding.columns.items in
    let joined = ap (λ (vs : List Variable). inv.done ++ vs) (sym c.in-Some.ensures.steps) ∙ inv.joined in
    let id = one_named c.args.request.now.list.now inv.done (variables_left c.next.new.self) v joined in
    let column = c.in_ok-new.field-0 in
    let wanted = c.most_of-most.result in
    let request = c.in_ok-new.ensures.request ∙ ap (λ (name : List ℕ). (name, wanted)) c.oid.ensures in
    let most = subst (λ n. IsMostOf n c.count_of-non_repeaters.result c.count_of-max_repetitions.result wanted) (c.len.ensures ∙ c.loop-binding.columns.ok.0) c.most_of-most.ensures in
    record {
      ready = tt;
      ends = tt;
      done = inv.done ++ v ∷ [];
      joined = append_assoc inv.done (v ∷ []) (variables_left c.next.new.self) ∙ joined;
      long = rw c.in_ok-push.ensures.items (omega (arith, inv.long, length_push columns column, length_push inv.done v));
      requests = rw c.in_ok-push.ensures.items (bulk_pushed c.count_of-non_repeaters.result c.count_of-max_repetitions.result columns column inv.done v wanted inv.long inv.requests request most);
      begin = rw c.in_ok-push.ensures.items (All-push IsNew columns column inv.begin c.in_ok-new.ensures.is_new);
      stand = λ viewer told. rw c.in_ok-push.ensures.items (All-push (BulkStands (seen_by viewer) told) columns column (inv.stand viewer told) (c.in_ok-new.ensures.stands viewer told));
      named = rw c.in_ok-push.ensures.items (All-push IsNamedBulk columns column inv.named (c.in_ok-new.ensures.named (subst IsObjectId (sym c.oid.ensures) id)));
    }

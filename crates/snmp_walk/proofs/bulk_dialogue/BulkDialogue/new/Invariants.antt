use Rattle.std.proofs.Common.{◌≡◌, ◌++◌, List, All, length, map}
use Rattle.snmp_msg.specs.Variables.{Variable, variables_of, variables_left}
use Rattle.snmp_responder.specs.Code.{seen_by}
use Rattle.snmp_responder.specs.declared.viewer.Viewer.{Viewer}
use Rattle.snmp_walk.specs.BulkColumn.{BulkStands, IsNew, bulk_request}
use Rattle.snmp_walk.specs.BulkDialogue.{bulk_requests_of}
use Rattle.snmp_walk.proofs.BulkNamed.{IsNamedBulk}
use Rattle.snmp_walk.proofs.bulk_dialogue.BulkDialogue.new.Given as goal

abbrev pub invariant-loop-binding : goal.invariant-loop-binding
invariant-loop-binding l = record {
  ready : (goal.iterator-loop-binding).can_next l.binding-iterator;
  ends : (goal.iterator-loop-binding).is_finite l.binding-iterator;
  done : List Variable;
  joined : done ++ variables_left l.binding-iterator ≡ variables_of l.request.list.now;
  long : length l.columns.items ≡ length done;
  requests : map bulk_request l.columns.items ≡ bulk_requests_of l.non_repeaters l.max_repetitions done;
  begin : All IsNew l.columns.items;
  stand : (viewer : Viewer) (told : List Variable) → All (BulkStands (seen_by viewer) told) l.columns.items;
  named : All IsNamedBulk l.columns.items;
}

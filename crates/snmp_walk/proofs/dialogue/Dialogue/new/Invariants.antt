use Rattle.std.proofs.Common.{◌≡◌, ◌++◌, List, All, map}
use Rattle.snmp_msg.specs.Variables.{Variable, variables_of, variables_left}
use Rattle.snmp_responder.specs.Code.{seen_by}
use Rattle.snmp_walk.specs.Column.{Stands}
use Rattle.snmp_walk.specs.Dialogue.{ColumnBegins, request, requests_of}
use Rattle.snmp_walk.proofs.Named.{IsNamedColumn}
use Rattle.snmp_walk.proofs.dialogue.Dialogue.new.Given as goal

abbrev pub invariant-loop-binding : goal.invariant-loop-binding
invariant-loop-binding l = record {
  ready : (goal.iterator-loop-binding).can_next l.binding-iterator;
  ends : (goal.iterator-loop-binding).is_finite l.binding-iterator;
  done : List Variable;
  joined : done ++ variables_left l.binding-iterator ≡ variables_of l.request.list.now;
  requests : map request l.columns.items ≡ requests_of l.operation done;
  begin : All (ColumnBegins (seen_by l.viewer)) l.columns.items;
  stand : (told : List Variable) → All (Stands (seen_by l.viewer) told) l.columns.items;
  named : All IsNamedColumn l.columns.items;
}

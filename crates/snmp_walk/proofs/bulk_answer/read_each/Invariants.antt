use Rattle.std.proofs.Common.{◌≡◌, ◌-◌, ◌^◌, ◌++◌, List, length, min}
use Rattle.std.specs.List.{AllZip}
use Rattle.snmp_msg.specs.Variables.{Variable, variables_of, variables_left}
use Rattle.snmp_responder.specs.Code.{seen_by}
use Rattle.snmp_walk.specs.BulkAnswer.{ReadSoFar}
use Rattle.snmp_walk.specs.BulkSteps.{Grows}
use Rattle.snmp_walk.specs.Turns.{AreTurns, turns_left}
use Rattle.snmp_walk.proofs.bulk_answer.read_each.Given as goal

abbrev pub invariant-loop-binding : goal.invariant-loop-binding
invariant-loop-binding l = record {
  ready : (goal.iterator-loop-binding).can_next l.binding-iterator;
  ends : (goal.iterator-loop-binding).is_finite l.binding-iterator;
  done : List Variable;
  joined : variables_of l.answer.list.now ≡ done ++ variables_left l.binding-iterator;
  place_is : l.place ≡ min (length done) (2 ^ 64 - 1);
  grows : AllZip Grows l.initial.columns.items l.columns.items;
  turns_on : AreTurns l.initial.columns.items (turns_left l.turns);
  so_far : ReadSoFar (seen_by l.viewer) l.initial.columns.items (turns_left l.initial.turns) done (turns_left l.turns) l.columns.items;
}

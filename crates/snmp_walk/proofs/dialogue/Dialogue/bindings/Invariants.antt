use Rattle.std.proofs.Common.{List, All, take}
use Rattle.std.specs.List.{AllZip}
use Rattle.snmp_msg.specs.Variables.{Variable}
use Rattle.snmp_responder.specs.Code.{seen_by}
use Rattle.snmp_responder.specs.declared.viewer.Viewer.{Viewer}
use Rattle.snmp_walk.specs.Column.{Stands}
use Rattle.snmp_walk.specs.Dialogue.{IsShown, Shows}
use Rattle.snmp_walk.proofs.dialogue.Dialogue.bindings.Given as goal

abbrev pub invariant-loop-column : goal.invariant-loop-column
invariant-loop-column l = record {
  shown : AllZip IsShown (take l.column-index l.column-items) l.bindings.items;
  outwards : (viewer : Viewer) (told : List Variable) → All (Stands (seen_by viewer) told) l.column-items
      → AllZip (Shows (seen_by viewer) told) (take l.column-index l.column-items) l.bindings.items;
}

use Rattle.std.proofs.Common.{◌≡◌, ◌≤◌, length, map, take}
use Rattle.snmp_msg.specs.Variables.{variables_text}
use Rattle.snmp_outgoing.specs.Outlines.{HasAtMost}
use Rattle.snmp_outgoing.proofs.count.Outline.longest.Given as goal

abbrev pub invariant-loop-binding : goal.invariant-loop-binding
invariant-loop-binding g l = record {
  count : l.count ≡ l.binding-index;
  size : l.list_len ≡ length (variables_text (map g.B.Spelled.says (take l.binding-index l.bindings)));
  short : l.list_len ≤ 65507;
  fits : HasAtMost l.self l.limit (map g.B.Spelled.says (take l.binding-index l.bindings));
}

use Rattle.std.proofs.Common.{◌≡◌, ◌≤◌, take, length}
use Rattle.std.specs.Prelude.{map}
use Rattle.snmp_msg.specs.Variables.{AllFit, variables_text}
use Rattle.snmp_msg.proofs.list.bindings_len.Given as goal

abbrev pub invariant-loop-binding : goal.invariant-loop-binding
invariant-loop-binding g l = record {
  size : l.size ≡ length (variables_text (map g.B.Spelled.says (take l.binding-index l.bindings)));
  most : l.size ≤ 65507;
  fit : AllFit (map g.B.Spelled.says (take l.binding-index l.bindings));
}

use Rattle.std.proofs.Common.{◌≡◌, ◌++◌, take}
use Rattle.std.specs.Prelude.{map}
use Rattle.snmp_msg.specs.Variables.{variables_text}
use Rattle.snmp_msg.proofs.list.put_bindings.Given as goal

abbrev pub invariant-loop-binding : goal.invariant-loop-binding
invariant-loop-binding g l = l.out.items ≡ l.initial.out.items ++ variables_text (map g.B.Spelled.says (take l.binding-index l.bindings))

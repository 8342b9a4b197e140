use Rattle.std.proofs.Common.{◌≡◌, ◌++◌, List}
use Rattle.snmp_msg.specs.Variables.{Variable, bindings_left, variables_of}
use Rattle.diagnose_text.specs.Facts.{AreFirst, IsNameRead}
use Rattle.diagnose_text.proofs.reading.first_names.Given as goal

-- what was seen, and the variables that are left
abbrev pub invariant-loop-binding : goal.invariant-loop-binding
invariant-loop-binding l =
    (seen : List Variable) × (variables_of l.pdu.list.now ≡ seen ++ bindings_left l.binding-iterator) × AreFirst IsNameRead seen l.names.items l.more

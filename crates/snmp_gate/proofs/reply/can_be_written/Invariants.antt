use Rattle.std.specs.List.{AllWithin}
use Rattle.snmp_msg.specs.Variables.{CanBeWritten, variable_of}
use Rattle.snmp_msg.specs.declared.binding.Binding.{Binding}
use Rattle.snmp_gate.proofs.reply.can_be_written.Given as goal

abbrev pub invariant-loop-binding : goal.invariant-loop-binding
invariant-loop-binding l = AllWithin (λ (b : Binding). CanBeWritten (variable_of b)) l.bindings 0 l.binding-index

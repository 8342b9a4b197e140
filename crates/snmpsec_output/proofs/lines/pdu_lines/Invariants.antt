use Rattle.std.proofs.Common.{◌++◌}
use Rattle.std.specs.Prelude.{string_bytes}
use Rattle.std.specs.List.{flat_map}
use Rattle.snmp_msg.specs.Pdu.{pdu_of}
use Rattle.snmp_msg.specs.Variables.{variables_of, bindings_left}
use Rattle.snmpsec_output.specs.Lines.{IsUnnamed, binding_line, pdu_line}
use Rattle.snmpsec_output.proofs.lines.pdu_lines.Given as goal

-- the lines so far, behind which those of the bindings that are left are lacking
abbrev pub invariant-loop-binding : goal.invariant-loop-binding
invariant-loop-binding l =
    IsUnnamed l.names (pdu_line (pdu_of l.pdu) ++ flat_map binding_line (variables_of l.pdu.list.now)) (string_bytes l.text ++ flat_map binding_line (bindings_left l.binding-iterator))

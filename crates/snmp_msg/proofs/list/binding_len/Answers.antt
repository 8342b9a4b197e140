use Rattle.std.proofs.Common.{length, ap, arith}
use Rattle.snmp_msg.proofs.Variables.{variable_text-longer}
use Rattle.snmp_msg.proofs.list.binding_len.Goals as goal

pub returns-then-content-gt-LARGEST-clause-none : goal.returns-then-content-gt-LARGEST-clause-none
returns-then-content-gt-LARGEST-clause-none g c =
    let longer = variable_text-longer (g.B.Spelled.says c.args.binding.now) in
    omega (arith, longer.0, longer.1, ap length c.content.ensures)

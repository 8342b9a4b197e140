use Rattle.std.proofs.Common.{◌∙◌}
use Rattle.snmp_msg.proofs.Variables.{variables_of-again}
use Rattle.snmp_msg.proofs.pdu.Pdu.variable_bindings.Goals as goal

pub returns-clause-all : goal.returns-clause-all
returns-clause-all c = λ vs are. c.of.ensures ∙ (variables_of-again vs c.args.self.now.list.now are).0

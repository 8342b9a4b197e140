use Rattle.std.proofs.Common.{inr, sym, ap, ◌∙◌, List, ℕ, of_z, w32}
use Rattle.snmp_msg.specs.Variables.{variables_of}
use Rattle.snmp_msg.proofs.Variables.{variables_of-again}
use Rattle.snmp_gate.proofs.reply.own_bindings.Goals as goal

pub returns-clause-says : goal.returns-clause-says
returns-clause-says c client q asked =
    inr ((λ is. c.if-status-eq-TOO_BIG.false (ap (of_z w32) is)), sym (variables_of-again _ _ c.in_ok-bindings.ensures.says).0 ∙ ap (λ (list : List ℕ). variables_of list) (c.pdu_of.ensures.asked client q asked).list)

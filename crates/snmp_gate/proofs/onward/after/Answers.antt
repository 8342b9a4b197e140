use Rattle.std.proofs.Common.{subst}
use Rattle.snmp_gate.specs.Ends.{IsEndFor}
use Rattle.snmp_gate.proofs.Telling.{gen_err_told}
use Rattle.std.specs.Prelude.{None, length}
use Rattle.snmp_msg.specs.Variables.{variables_of}
use Rattle.snmp_gate.proofs.onward.after.Goals as goal

pub returns-in-Front-clause-stands : goal.returns-in-Front-clause-stands
returns-in-Front-clause-stands c tables q told viewer ends stands = c.after_task.ensures.stands tables q told viewer stands

pub returns-in-GoesOn-clause-stands : goal.returns-in-GoesOn-clause-stands
returns-in-GoesOn-clause-stands c tables q told viewer ends stands = c.after_task-in-GoesOn.ensures.stands tables q told viewer stands

pub returns-in-Unfit-clause-stands : goal.returns-in-Unfit-clause-stands
returns-in-Unfit-clause-stands c tables q told viewer ends stands = gen_err_told tables q told None c.gen_err.result c.gen_err.ensures.status (c.gen_err.ensures.index (length (variables_of q.list)) tt) (subst (IsEndFor tables q told) c.in-Unfit.is ends)

use Rattle.std.proofs.Common.{◌∷◌}
use Rattle.snmp_gate.specs.Runs.{goes_out}
use Rattle.snmp_gate.specs.declared.gate.Sent.TheVariants.{Nothing}
use Rattle.snmp_gate.specs.Due.{retries_in}
use Rattle.snmp_gate.proofs.Running.{run_in_time, run_keeps, run_stands}
use Rattle.snmp_gate.proofs.Todos.{idle_in_time}
use Rattle.snmp_gate.proofs.laws.a_gateway_keeps_to_its_limits.Goals as goal

pub returns-clause-bounded : goal.returns-clause-bounded
returns-clause-bounded c first last events bounded run =
    let stays = run_keeps first events last run in
    (stays.limits, stays.devices, stays.bounded bounded)

pub returns-clause-history : goal.returns-clause-history
returns-clause-history c first last events stands bounded run = let known = run_stands first events last stands run in (known.history, known.is, known.keeps bounded)

pub returns-clause-in_time : goal.returns-clause-in_time
returns-clause-in_time c limits now o timely idle = idle_in_time (retries_in limits o.task.task) now o.timer timely.turn idle

pub returns-clause-ends : goal.returns-clause-ends
returns-clause-ends c first last now f events stands bounded run =
    let known = run_stands first (goes_out now f Nothing ∷ events) last stands run in (known.history, known.is, run_in_time first last now f events stands bounded run)

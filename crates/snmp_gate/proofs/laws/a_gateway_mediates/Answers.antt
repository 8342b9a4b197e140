use Rattle.snmp_gate.proofs.Running.{run_stands}
use Rattle.snmp_gate.proofs.laws.a_gateway_mediates.Goals as goal

pub returns : goal.returns
returns c first last events stands run = let known = run_stands first events last stands run in (known.history, known.is)

use Rattle.snmp_responder.specs.Code.{seen_by}
use Rattle.gateway_laws.proofs.BulkTrueRuns.{run_front}
use Rattle.gateway_laws.proofs.laws.a_front_of_a_view.Goals as goal

pub returns : goal.returns
returns c viewer device told asked steps first last response is begin same run front = run_front device (seen_by viewer) is told asked steps first last response begin same run front

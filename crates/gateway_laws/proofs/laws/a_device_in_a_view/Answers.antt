use Rattle.snmp_responder.specs.Code.{seen_by}
use Rattle.gateway_laws.proofs.TrueRuns.{run_got, run_next}
use Rattle.gateway_laws.proofs.Taken.{is_taken}
use Rattle.gateway_laws.proofs.laws.a_device_in_a_view.Goals as goal

pub returns-clause-get : goal.returns-clause-get
returns-clause-get c viewer device told asked steps first last response is begin same run shown = run_got device (seen_by viewer) is told asked steps first last response begin same run shown

pub returns-clause-next : goal.returns-clause-next
returns-clause-next c viewer device told asked steps first last response is begin same run shown = run_next device (seen_by viewer) is told asked steps first last response begin same run shown

pub returns-clause-taken : goal.returns-clause-taken
returns-clause-taken c viewer device old new answer becomes is truly none step = is_taken device is (seen_by viewer) old new answer becomes truly none step

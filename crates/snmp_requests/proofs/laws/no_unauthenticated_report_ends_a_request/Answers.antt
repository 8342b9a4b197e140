use Rattle.snmp_requests.specs.DeviceRequests.{first_message}
use Rattle.snmp_requests.proofs.Hearing.{open_by_hints}
use Rattle.snmp_requests.proofs.laws.no_unauthenticated_report_ends_a_request.Goals as goal

pub returns : goal.returns
returns c level k steps first last begins are run = open_by_hints level (first_message level k) steps first last begins are run

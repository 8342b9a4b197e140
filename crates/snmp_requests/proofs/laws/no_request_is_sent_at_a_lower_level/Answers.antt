use Rattle.std.proofs.Common.{◌∙◌}
use Rattle.snmp_requests.proofs.Hearing.{run_level, time_with_auth}
use Rattle.snmp_requests.proofs.laws.no_request_is_sent_at_a_lower_level.Goals as goal

pub returns-clause-request : goal.returns-clause-request
returns-clause-request c level k steps first last begins run = run_level steps first last run ∙ begins.sent.level_is

pub returns-clause-time : goal.returns-clause-time
returns-clause-time c level k steps first last begins run = time_with_auth level k steps first last begins run

use Rattle.std.proofs.Common.{arith, ap}
use Rattle.std.specs.Ordering.{nat_cmp}
use Rattle.std.specs.FinMap.{get-empty}
use Rattle.snmp_requests.specs.Outstanding.{message_id_of, none_outstanding}
use Rattle.snmp_requests.specs.RequestRuns.{is_request}
use Rattle.snmp_requests.proofs.Asking.{asked_once, gone, run_are, run_counts}
use Rattle.snmp_requests.proofs.Outstandings.{are_none}
use Rattle.snmp_requests.proofs.laws.an_answer_is_of_one_request.Goals as goal

pub returns-clause-asked : goal.returns-clause-asked
returns-clause-asked c token steps last run = asked_once token steps none_outstanding last run

pub returns-clause-once : goal.returns-clause-once
returns-clause-once c token steps last run =
    omega (arith, run_counts token steps none_outstanding last run, ap (is_request token) (get-empty nat_cmp (message_id_of token)))

pub returns-clause-gone : goal.returns-clause-gone
returns-clause-gone c token before after step old new last begun stepped one run =
    gone token step after old new last (run_are before none_outstanding old are_none begun) stepped one run

pub returns-clause-own : goal.returns-clause-own
returns-clause-own c id steps last r run there =
    let at = (run_are steps none_outstanding last are_none run).by_id id r there in (at.id_is, at.token_is)

pub returns-clause-few : goal.returns-clause-few
returns-clause-few c steps last run = (run_are steps none_outstanding last are_none run).few

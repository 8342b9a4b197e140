use Rattle.snmp_forward.specs.ExchangeRuns.{heard_in}
use Rattle.snmp_forward.proofs.Exchanges.{heard_run}
use Rattle.snmp_forward.proofs.exchange_laws.an_inform_is_asked_as_a_request.Goals as goal

pub returns-clause-heard : goal.returns-clause-heard
returns-clause-heard c limits steps first last run = heard_run limits steps first last run

pub returns-clause-waits : goal.returns-clause-waits
returns-clause-waits c limits level k steps first last begins are run =
    c.no_unauthenticated_report_ends_a_request.ensures level k (heard_in steps) first.request last.request begins are (heard_run limits steps first last run)

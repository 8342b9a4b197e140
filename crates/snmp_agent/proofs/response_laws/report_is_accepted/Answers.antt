use Rattle.snmp_incoming.specs.Outcome.{as_manager}
use Rattle.snmp_agent.specs.CounterReports.{count_report, counter_report}
use Rattle.snmp_agent.proofs.response_laws.report_is_accepted.Goals as goal

pub returns-clause-refused : goal.returns-clause-refused
returns-clause-refused c = λ senders users held now engine own id user request_id n value text fits same seals.
    c.spoken_is_accepted.ensures (as_manager held) senders users now (counter_report engine own id user request_id n value) text fits fits.engine same tt seals

pub returns-clause-unhandled : goal.returns-clause-unhandled
returns-clause-unhandled c = λ senders users held now engine own g p counter value salt text fits same seals.
    c.spoken_is_accepted.ensures (as_manager held) senders users now (count_report engine own g p counter value salt) text fits fits.engine same tt seals

use Rattle.snmp_listener.proofs.Telling.{each_run, told_run}
use Rattle.snmp_listener.proofs.laws.a_notification_is_told_if_it_is_to_be_told.Goals as goal

pub returns-clause-only : goal.returns-clause-only
returns-clause-only c since first old last events now from w salt what kind g none run on took is = told_run since first old last events now from w salt what none run on took kind g is

pub returns-clause-each : goal.returns-clause-each
returns-clause-each c since first old last events now from w salt what kind g none run on took is = each_run c.one_answer.ensures since first old last events now from w salt what kind g none run on took is

use Rattle.snmp_listener.proofs.Once.{once}
use Rattle.snmp_listener.proofs.laws.a_notification_is_told_once.Goals as goal

pub returns : goal.returns
returns c since first old last events now from w salt what kind g none started run on took is level was =
    once c.one_answer.ensures c.one_message.ensures.one c.one_message.ensures.version c.one_cut.ensures.one c.replay_bound.ensures since first old last events now from w salt what kind g none started run on took is level was

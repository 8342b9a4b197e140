use Rattle.std.proofs.Common.{subst}
use Rattle.snmp_gate.specs.Work.{TaskHas, most_repetitions}
use Rattle.snmp_gate.proofs.onward.after_task.Goals as goal

pub returns-in-Read-clause-stands : goal.returns-in-Read-clause-stands
returns-in-Read-clause-stands c tables q told viewer stands = c.read_on.ensures.stands tables q told viewer (subst (TaskHas tables q told) c.in-Read.is stands)

pub returns-else-has_repetition-clause-stands : goal.returns-else-has_repetition-clause-stands
returns-else-has_repetition-clause-stands c tables q told viewer stands = c.bulk_on.ensures.stands tables q told viewer (subst (TaskHas tables q told) c.in-Bulk.is stands)

pub returns-in-Read-clause-repeats : goal.returns-in-Read-clause-repeats
returns-in-Read-clause-repeats c = c.read_on.ensures.repeats (most_repetitions c.args.named.task)

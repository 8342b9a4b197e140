use Rattle.vacm_core.specs.declared.access.ViewType.TheVariants.{Read}
use Rattle.vacm_next.specs.Next.{Sees}
use Rattle.snmp_responder.proofs.OneAnswer.{got_one, nexts_one, bulk_one}
use Rattle.snmp_responder.proofs.laws.one_answer.Goals as goal

pub returns-clause-get : goal.returns-clause-get
returns-clause-get c device distinct t requester = got_one device distinct (Sees t requester Read)

pub returns-clause-next : goal.returns-clause-next
returns-clause-next c device distinct t requester = nexts_one device distinct (Sees t requester Read)

pub returns-clause-bulk : goal.returns-clause-bulk
returns-clause-bulk c device distinct t requester = bulk_one device distinct (Sees t requester Read)

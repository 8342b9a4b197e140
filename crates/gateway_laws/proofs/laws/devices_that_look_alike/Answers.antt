use Rattle.vacm_core.specs.declared.access.ViewType.TheVariants.{Read}
use Rattle.vacm_next.specs.Next.{Sees}
use Rattle.gateway_laws.proofs.Alike.{alike_got, same_next}
use Rattle.gateway_laws.proofs.laws.devices_that_look_alike.Goals as goal

pub returns-clause-get : goal.returns-clause-get
returns-clause-get c one other distinct t requester alike name v w a b = alike_got (Sees t requester Read) one other distinct alike name v w a b

pub returns-clause-next : goal.returns-clause-next
returns-clause-next c one other distinct t requester alike names vs ws a b = same_next (Sees t requester Read) one other distinct alike names vs ws a b

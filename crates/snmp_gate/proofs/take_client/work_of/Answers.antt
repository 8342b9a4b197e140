use Rattle.std.proofs.Common.{refl, slice_index_or, subst}
use Rattle.snmp_gate.specs.Work.{OnwardStands, RepeatsAtMost}
use Rattle.snmp_gate.proofs.take_client.work_of.Goals as goal

pub returns-in-Asks-clause-begins : goal.returns-in-Asks-clause-begins
returns-in-Asks-clause-begins c tables devices q stands device repeats = (
  (λ told nothing. subst (OnwardStands tables q told) c.in-Asks.is (stands told nothing)),
  device,
  refl,
  λ d. subst (RepeatsAtMost (slice_index_or devices c.args.device d).repetitions) c.in-Asks.is (repeats d),
)

pub returns-in-Ends-clause-begins : goal.returns-in-Ends-clause-begins
returns-in-Ends-clause-begins c tables devices q stands device repeats told nothing = subst (OnwardStands tables q told) c.in-Ends.is (stands told nothing)

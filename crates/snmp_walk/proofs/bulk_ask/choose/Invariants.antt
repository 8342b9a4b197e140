use Rattle.snmp_walk.proofs.Choices.{ChosenUpto}
use Rattle.snmp_walk.proofs.bulk_ask.choose.Given as goal

abbrev pub invariant-loop-number : goal.invariant-loop-number
invariant-loop-number l = ChosenUpto l.non_repeaters l.fewest l.room l.fn.columns.items l.number l.left l.columns.items

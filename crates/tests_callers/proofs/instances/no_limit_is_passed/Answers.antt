use Rattle.std.proofs.Common.{arith}
use Rattle.snmp_gate.proofs.GivingUp.{pick}
use Rattle.tests_callers.proofs.Impossible.{none_is_answered_at_length, none_waits_longer}
use Rattle.tests_callers.proofs.instances.no_limit_is_passed.Goals as goal

pub returns-clause-waits : goal.returns-clause-waits
returns-clause-waits c limits number at now datagram message late = none_waits_longer limits number at now datagram message late

pub returns-clause-answers : goal.returns-clause-answers
returns-clause-answers c limits devices number now datagram message by answer must twice more = none_is_answered_at_length limits devices number now datagram message by answer must twice more

pub returns-clause-repetitions : goal.returns-clause-repetitions
returns-clause-repetitions c agent devices number device id request datagram before more lawful =
    let mediated = lawful.0.mediated in
    let one = pick devices device mediated.2.within in
    let most = (mediated.3 one.0).1 in
    let above = more one.0 in
    omega (arith, most, above)

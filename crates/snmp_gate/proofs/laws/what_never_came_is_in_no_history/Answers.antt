use Rattle.snmp_gate.proofs.laws.what_never_came_is_in_no_history.Goals as goal

pub returns-clause-accepted : goal.returns-clause-accepted
returns-clause-accepted c gate number now datagram message before is = cc (is.requests)

pub returns-clause-answered : goal.returns-clause-answered
returns-clause-answered c gate number device answer datagram before is = cc (is.answers)

pub returns-clause-taken : goal.returns-clause-taken
returns-clause-taken c gate now number client datagram is = cc (is.requests)

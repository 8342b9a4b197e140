use Rattle.std.specs.Prelude.{[], ◌∷◌, None}
use Rattle.std.proofs.Common.{inl, inr}
use Rattle.snmp_gate.specs.History.{accepted, given_up}
use Rattle.tests_callers.proofs.Uncaused.{left_by_none}
use Rattle.tests_callers.proofs.instances.no_message_is_dropped.Goals as goal

pub returns-clause-answered : goal.returns-clause-answered
returns-clause-answered c limits devices number now datagram message by q asks own command context device room keeps =
    let before = accepted number now datagram message ∷ [] in
    left_by_none limits devices number now datagram q message by own command context device room (c.a_message_without_an_answer_has_its_cause.ensures.cause limits devices before number message by None q keeps asks)

pub returns-clause-given_up : goal.returns-clause-given_up
returns-clause-given_up c limits devices number device now datagram message by q asks no_set on room reports keeps =
    let before = given_up number device ∷ accepted number now datagram message ∷ [] in
    let left = c.a_message_without_an_answer_has_its_cause.ensures.reported limits devices before number message by q keeps asks no_set on in
    elim left.2 [ inl long ↦ room left.0 long | inr none ↦ reports left.0 none.0 none.2 ]

use Rattle.tests_callers.proofs.Impossible.{no_datagram_is_asked_twice, no_set_is_asked_twice, none_is_tried_twice, nothing_is_sent_twice}
use Rattle.tests_callers.proofs.instances.nothing_is_done_twice.Goals as goal

pub returns-clause-sent : goal.returns-clause-sent
returns-clause-sent c agent devices number now datagram message by again answer other =
    nothing_is_sent_twice agent devices number now datagram message by again answer other

pub returns-clause-asked : goal.returns-clause-asked
returns-clause-asked c agent devices number now device id other set message request again datagram first second =
    no_set_is_asked_twice agent devices number now device id other set message request again datagram first second

pub returns-clause-tried : goal.returns-clause-tried
returns-clause-tried c limits devices number device id other request again first second =
    none_is_tried_twice limits devices number device id other request again first second

pub returns-clause-datagram : goal.returns-clause-datagram
returns-clause-datagram c agent devices number other now device id again set message copy request same datagram first second asks too tag differ =
    no_datagram_is_asked_twice agent devices number other now device id again set message copy request same datagram first second asks too tag differ

use Rattle.snmp_forward.proofs.InformRunning.{ends_once, own_response, within_tries}
use Rattle.snmp_forward.proofs.inform_laws.an_inform_is_acknowledged_by_its_own_response.Goals as goal

pub returns-clause-response : goal.returns-clause-response
returns-clause-response c s before n what heard is ended = own_response s before n what heard is ended

pub returns-clause-once : goal.returns-clause-once
returns-clause-once c s n history lawful = ends_once s n history lawful

pub returns-clause-tries : goal.returns-clause-tries
returns-clause-tries c s n m history lawful = within_tries s n m history lawful

use Rattle.snmp_requests.specs.DeviceRequests.{first_message}
use Rattle.snmp_requests.specs.declared.device_request.SentMessage.TheVariants.{Discovery, Request, TimeRequest}
use Rattle.snmp_requests.proofs.Hearing.{again_by_report, sent_at_most}
use Rattle.snmp_requests.proofs.laws.a_device_is_asked_again_once.Goals as goal

pub returns-clause-discovered : goal.returns-clause-discovered
returns-clause-discovered c level k steps first last begins run = sent_at_most Discovery level (first_message level k) steps first last begins run

pub returns-clause-timed : goal.returns-clause-timed
returns-clause-timed c level k steps first last begins run = sent_at_most TimeRequest level (first_message level k) steps first last begins run

pub returns-clause-twice : goal.returns-clause-twice
returns-clause-twice c level k steps first last begins run = sent_at_most Request level (first_message level k) steps first last begins run

pub returns-clause-again : goal.returns-clause-again
returns-clause-again c level k steps first last begins run = again_by_report level (first_message level k) steps first last begins run

use Rattle.std.proofs.Common.{◌<◌, ℕ, slice_index_or}
use Rattle.snmp_gate.specs.Due.{IsIdle}
use Rattle.snmp_gate.specs.declared.requests.WaitingRequest.{WaitingRequest}
use Rattle.snmp_gate.specs.declared.waiting_message.WaitingMessage.{WaitingMessage}
use Rattle.snmp_gate.specs.declared.work.Work.{Work}
use Rattle.snmp_gate.proofs.next.first_todo.Given as goal

abbrev pub invariant-loop-place : goal.invariant-loop-place
invariant-loop-place l = (k : ℕ) (r : WaitingRequest WaitingMessage Work) → k < l.place → IsIdle l.limits l.now (slice_index_or l.requests k r).work

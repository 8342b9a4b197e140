use Rattle.std.proofs.Common.{◌<◌, ◌≤◌, ℕ}
use Rattle.snmp_requests.specs.Outstanding.{IsTaken, message_id_of}
use Rattle.snmp_requests.proofs.outstanding.OutstandingRequests.next_token.Given as goal

abbrev pub invariant-loop-token : goal.invariant-loop-token
invariant-loop-token l = (t : ℕ) → l.from ≤ t → t < l.token → IsTaken l.self (message_id_of t)

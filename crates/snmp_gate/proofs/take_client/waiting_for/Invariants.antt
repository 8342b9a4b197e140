use Rattle.std.proofs.Common.{◌≡◌, ◌≤◌, take}
use Rattle.std.specs.List.{sum_by}
use Rattle.snmp_gate.specs.Bounds.{for_device}
use Rattle.snmp_gate.proofs.take_client.waiting_for.Given as goal

abbrev pub invariant-loop-request : goal.invariant-loop-request
invariant-loop-request l = record {
  counted : l.count ≡ sum_by (λ r. for_device l.device r.work) (take l.request-index l.requests);
  few : l.count ≤ l.request-index;
}

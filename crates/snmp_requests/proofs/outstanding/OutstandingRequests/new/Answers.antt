use Rattle.std.proofs.Common.{sym, subst}
use Rattle.std.specs.FinMap as map
use Rattle.snmp_requests.specs.Outstanding.{AreOutstanding}
use Rattle.snmp_requests.proofs.Outstandings.{are_none}
use Rattle.snmp_requests.proofs.outstanding.OutstandingRequests.new.Goals as goal

pub invariant_of-result : goal.invariant_of-result
invariant_of-result c = record {
  rising = c.new.ensures.ordered;
  are = subst (λ es. AreOutstanding (record { requests = map.from_entries es; next = 0 })) (sym c.new.ensures.empty) are_none;
}

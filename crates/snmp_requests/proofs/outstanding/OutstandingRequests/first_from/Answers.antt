use Rattle.std.proofs.Common.{subst}
use Rattle.snmp_requests.specs.Outstanding.{AreOutstanding}
use Rattle.snmp_requests.proofs.outstanding.OutstandingRequests.first_from.Goals as goal

pub returns-then-self-eq0-clause-are : goal.returns-then-self-eq0-clause-are
returns-then-self-eq0-clause-are c = subst AreOutstanding c.self.view_is c.self.invariant.are

pub returns-clause-are : goal.returns-clause-are
returns-clause-are c = subst AreOutstanding c.self.view_is c.self.invariant.are

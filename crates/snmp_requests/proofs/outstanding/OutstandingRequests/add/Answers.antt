use Rattle.std.proofs.Common.{subst}
use Rattle.snmp_requests.specs.Outstanding.{AreOutstanding}
use Rattle.snmp_requests.proofs.Outstandings.{are_added, is_added}
use Rattle.snmp_requests.proofs.outstanding.OutstandingRequests.add.Goals as goal

pub returns-clause-added : goal.returns-clause-added
returns-clause-added c =
    is_added c.self.inside.requests.entries c.insert.new.self.entries c.self.inside.next c.message_id.result c.args.token c.args.pending c.in_ok-request.request c.args.self.now
    c.self.view_is c.message_id.ensures.id c.in_ok-request.ensures c.in_ok-insert.ensures.updates.0

pub invariant_of-self-2 : goal.invariant_of-self-2
invariant_of-self-2 c =
    let added = is_added c.self.inside.requests.entries c.insert.new.self.entries c.self.inside.next c.message_id.result c.args.token c.args.pending c.in_ok-request.request c.args.self.now
    c.self.view_is c.message_id.ensures.id c.in_ok-request.ensures c.in_ok-insert.ensures.updates.0 in record {
      rising = c.insert.ensures.ordered;
      are = are_added c.args.self.now _ c.args.token c.args.pending (subst AreOutstanding c.self.view_is c.self.invariant.are) c.requires.token c.requires.room added;
    }

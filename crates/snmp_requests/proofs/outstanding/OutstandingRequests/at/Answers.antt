use Rattle.std.proofs.Common.{sym, ap, subst, ◌∙◌}
use Rattle.std.specs.FinMap as map
use Rattle.snmp_requests.specs.Outstanding.{AreOutstanding, Outstanding}
use Rattle.snmp_requests.proofs.Maps.{get_id}
use Rattle.snmp_requests.proofs.outstanding.OutstandingRequests.at.Goals as goal

pub returns-in-Some : goal.returns-in-Some
returns-in-Some c =
    let are = subst AreOutstanding c.self.view_is c.self.invariant.are in
    let found =
    c.in-Some.ensures.value ∙ sym (get_id c.self.inside.requests.entries c.args.id) ∙ ap (λ (all : Outstanding). map.get all.requests c.args.id) c.self.view_is in record {
      found = found;
      at = are.by_id c.args.id c.in-Some.request.now (sym found);
      are = are;
    }

pub returns-in-None : goal.returns-in-None
returns-in-None c =
    let are = subst AreOutstanding c.self.view_is c.self.invariant.are in
    let found =
    c.in-None.ensures.value ∙ sym (get_id c.self.inside.requests.entries c.args.id) ∙ ap (λ (all : Outstanding). map.get all.requests c.args.id) c.self.view_is in record {
      found = found;
      at = tt;
      are = are;
    }

use Rattle.std.proofs.Common.{sym, ap, ◌∙◌, subst}
use Rattle.std.specs.FinMap as map
use Rattle.snmp_requests.specs.Outstanding.{AreOutstanding, without}
use Rattle.snmp_requests.proofs.Maps.{one_removed}
use Rattle.snmp_requests.proofs.Outstandings.{are_without}
use Rattle.snmp_requests.proofs.outstanding.OutstandingRequests.end.Goals as goal

pub invariant_of-self : goal.invariant_of-self
invariant_of-self c =
    let is = one_removed c.self.inside.requests.entries c.remove.new.self.entries c.args.id c.remove.ensures.updates.0 in record {
      rising = c.remove.ensures.ordered;
      are = subst (λ requests. AreOutstanding (record { requests = requests; next = c.self.inside.next })) (sym is) (are_without (record { requests = map.from_entries c.self.inside.requests.entries; next = c.self.inside.next }) c.args.id c.self.invariant.are);
    }

pub returns : goal.returns
returns c =
    ap (λ requests. record { requests = requests; next = c.self.inside.next }) (one_removed c.self.inside.requests.entries c.remove.new.self.entries c.args.id c.remove.ensures.updates.0)
    ∙ ap (λ all. without all c.args.id) c.self.view_is

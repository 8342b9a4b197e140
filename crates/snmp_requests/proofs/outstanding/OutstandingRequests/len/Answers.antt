use Rattle.std.proofs.Common.{sym, ap, ◌∙◌, subst, ◌≤◌}
use Rattle.std.specs.FinMap as map
use Rattle.snmp_requests.specs.declared.outstanding.TheConstants.{REQUESTS_LIMIT}
use Rattle.snmp_requests.specs.Outstanding.{Outstanding}
use Rattle.snmp_requests.proofs.Maps.{len_of}
use Rattle.snmp_requests.proofs.outstanding.OutstandingRequests.len.Goals as goal

pub returns-clause-len : goal.returns-clause-len
returns-clause-len c =
    c.len.ensures.len ∙ sym (len_of c.self.inside.requests.entries c.self.invariant.rising)
    ∙ ap (λ (all : Outstanding). map.len all.requests) c.self.view_is

pub returns-clause-few : goal.returns-clause-few
returns-clause-few c = subst (λ n. n ≤ REQUESTS_LIMIT)
    (sym (c.len.ensures.len ∙ sym (len_of c.self.inside.requests.entries c.self.invariant.rising))) c.self.invariant.are.few

use Rattle.std.proofs.Common.{sym, ap, ◌∙◌}
use Rattle.std.specs.FinMap as map
use Rattle.snmp_requests.specs.Outstanding.{without}
use Rattle.snmp_requests.proofs.outstanding.OutstandingRequests.give_up.Goals as goal

pub returns : goal.returns
returns c = record {
  was = record {
    request = c.in-Some.request.now;
    there = sym (c.in-Some.ensures.found ∙ ap (map.get c.args.self.now.requests) c.message_id-id.ensures.id);
    token_is = c.if-request-token.false;
  };
  new_is = c.end.ensures ∙ ap (without c.args.self.now) c.message_id-id.ensures.id;
}

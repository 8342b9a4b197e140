use Rattle.std.proofs.Common.{arith}
use Rattle.snmp_requests.proofs.Tokens.{some_left}
use Rattle.snmp_requests.proofs.outstanding.OutstandingRequests.next_token.Goals as goal

pub returns-clause-left : goal.returns-clause-left
returns-clause-left c = λ low.
    absurd (some_left c.args.self.now c.args.first c.first_from-from.ensures.are low
    (λ t from below. c.loop-token.invariant t (omega (arith, from, c.first_from-from.ensures.from)) (omega (arith, below, c.loop-token-test.false))))

use Rattle.capture_datagrams.proofs.LogLines.{log_moment, log_pairs, no_log}
use Rattle.capture_datagrams.proofs.logs.begins_log.Goals as goal

pub returns-in_default : goal.returns-in_default
returns-in_default c = (
  λ false. absurd (cc false),
  λ log. absurd (no_log c.args.front.now c.in_default.ensures.none log),
)

pub returns-then-is_moment : goal.returns-then-is_moment
returns-then-is_moment c = (
  λ pairs. record {
    moment = c.in-Some.moment.now;
    rest = c.in-Some.rest.now;
    split = c.in-Some.ensures.found;
    is_moment = c.is_moment.ensures.0 c.if-is_moment.true;
    digits = c.first_line.result.now;
    line = c.first_line.ensures;
    pair = (c.are_pairs.ensures.0 pairs).0;
    are_digits = (c.are_pairs.ensures.0 pairs).1;
  },
  λ log. c.are_pairs.ensures.1 (log_pairs c.args.front.now c.in-Some.moment.now c.in-Some.rest.now c.first_line.result.now c.in-Some.ensures.found c.first_line.ensures log),
)

pub returns-else-is_moment : goal.returns-else-is_moment
returns-else-is_moment c = (
  λ true. absurd (cc (true, c.if-is_moment.false)),
  λ log. c.is_moment.ensures.1 (log_moment c.args.front.now c.in-Some.moment.now c.in-Some.rest.now c.in-Some.ensures.found log),
)

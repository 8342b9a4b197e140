use Rattle.std.proofs.Common.{refl, sym, ap, ◌∙◌}
use Rattle.snmp_incoming.specs.Answers.{given_of}
use Rattle.snmp_requests.specs.Answering.{left_after}
use Rattle.snmp_requests.specs.Outstanding.{without}
use Rattle.snmp_requests.proofs.Alone.{is_answer, is_no_answer, is_not_heard}
use Rattle.snmp_requests.proofs.outstanding.OutstandingRequests.take_answer.Goals as goal

pub returns-in_default : goal.returns-in_default
returns-in_default c = λ k p f q.
    (is_no_answer c.args.self.now (given_of c.args.taken.now) k p c.in_default.ensures.are (sym c.in_default.ensures.found), refl)

pub returns-in_default-heard_of : goal.returns-in_default-heard_of
returns-in_default-heard_of c = λ k p f q. (
  is_not_heard c.args.self.now (given_of c.args.taken.now) k p c.in-Some.ensures.are c.in-Some.request.now (sym c.in-Some.ensures.found) (c.in_default-heard_of.ensures k p f q),
  refl,
)

pub returns-in-Response : goal.returns-in-Response
returns-in-Response c = λ k p f q. (
  is_answer c.args.self.now (given_of c.args.taken.now) k p c.in-Some.ensures.are c.in-Some.request.now c.in-Some-heard_of.heard (sym c.in-Some.ensures.found) (c.in-Some-heard_of.ensures k p f q),
  c.end.ensures ∙ ap (without c.args.self.now) (sym c.in-Some.ensures.at.token_is)
      ∙ sym (ap (λ heard. left_after heard c.in-Some.request.now.token c.args.self.now) c.in-Response.is),
)

pub returns-in_default-heard : goal.returns-in_default-heard
returns-in_default-heard c = λ k p f q. (
  is_answer c.args.self.now (given_of c.args.taken.now) k p c.in-Some.ensures.are c.in-Some.request.now c.in-Some-heard_of.heard (sym c.in-Some.ensures.found) (c.in-Some-heard_of.ensures k p f q),
  sym (ap (λ heard. left_after heard c.in-Some.request.now.token c.args.self.now) c.in_default-heard.is),
)

use Rattle.std.proofs.Common.{◌≡◌, subst, sym}
use Rattle.snmp_incoming.specs.Answers.{given_of}
use Rattle.diagnose_text.specs.Datagrams.{IsNamed, IsPduIn, IsRequest}
use Rattle.diagnose_text.specs.Facts.{IsContextIn}
use Rattle.diagnose_text.proofs.Follows.{are_same, asks_as, followed_as, of_one}
use Rattle.diagnose_text.proofs.follower.Follower.request.Goals as goal

pub returns-clause-follows : goal.returns-clause-follows
returns-clause-follows c =
    let given = given_of c.args.taken.now in
    let IsFirst = IsRequest c.args.line given c.args.verdict in
    let first = c.request.result in
    let is : IsFirst first = record {
      captured = c.request.ensures.captured;
      sender = c.request.ensures.sender;
      context = subst (IsContextIn given.text) (sym c.request.ensures.context) c.in_ok-context.ensures;
      request_id = c.request.ensures.request_id;
      what = subst (IsNamed (IsPduIn given.text)) (sym c.request.ensures.what) c.in_ok-what.ensures;
      judged = c.request.ensures.judged;
    } in
    followed_as c.ask.result _ _ c.args.self.now c.note_request.new.self c.ask.new.self (are_same c.note_request.new.self c.args.self.now c.note_request.ensures.exchanges) (asks_as c.args.line given.id (λ held. held ≡ first) IsFirst (of_one IsFirst first is)) c.ask.ensures.follows

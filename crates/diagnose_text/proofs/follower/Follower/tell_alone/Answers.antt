use Rattle.std.proofs.Common.{◌≡◌, refl, subst, sym}
use Rattle.snmp_incoming.specs.Answers.{given_of}
use Rattle.diagnose_text.specs.Datagrams.{IsNamed, IsPduIn, IsUnasked}
use Rattle.diagnose_text.specs.Facts.{IsContextIn}
use Rattle.diagnose_text.proofs.Follows.{alone_as, followed_as, of_one}
use Rattle.diagnose_text.proofs.follower.Follower.tell_alone.Goals as goal

pub returns-clause-follows : goal.returns-clause-follows
returns-clause-follows c =
    let given = given_of c.args.taken.now in
    let IsFirst = IsUnasked c.args.line given in
    let first = c.alone.result in
    let is : IsFirst first = record {
      captured = c.alone.ensures.captured;
      sender = c.alone.ensures.sender;
      context = subst (IsContextIn given.text) (sym c.alone.ensures.context) c.in_ok-context.ensures;
      request_id = c.alone.ensures.request_id;
      what = subst (IsNamed (IsPduIn given.text)) (sym c.alone.ensures.what) c.in_ok-what.ensures;
      why = c.args.why;
      alone = c.alone.ensures.alone;
    } in
    followed_as c.tell.result _ _ c.args.self.now c.args.self.now c.tell.new.self (refl, refl) (alone_as c.args.line (λ held. held ≡ first) IsFirst (of_one IsFirst first is)) c.tell.ensures.follows

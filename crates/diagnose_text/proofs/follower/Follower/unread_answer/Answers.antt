use Rattle.std.proofs.Common.{◌≡◌, inl, inr, refl}
use Rattle.diagnose_text.specs.Datagrams.{IsUnopened}
use Rattle.diagnose_text.proofs.Follows.{alone_as, followed_as, of_one}
use Rattle.diagnose_text.proofs.follower.Follower.unread_answer.Goals as goal

pub returns-in-Differs-clause-follows : goal.returns-in-Differs-clause-follows
returns-in-Differs-clause-follows c = λ w is.
    let line = c.args.line in
    let IsFirst = IsUnopened line w c.args.refusal in
    let first = c.unread.result in
    let known : IsFirst first = record {
      captured = c.unread.ensures.captured;
      read = c.args.unread;
      is = is;
      sender = c.unread.ensures.sender;
      engine = c.unread.ensures.engine;
      what = c.unread.ensures.what;
      refused = c.unread.ensures.refused;
    } in
    followed_as c.tell.result _ _ c.args.self.now c.args.self.now c.tell.new.self (refl, refl)
    (λ step h. inr (inl (alone_as line (λ held. held ≡ first) IsFirst (of_one IsFirst first known) step h))) c.tell.ensures.follows

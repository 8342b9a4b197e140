use Rattle.std.proofs.Common.{◌≡◌, inl, inr, refl, subst, true}
use Rattle.diagnose_text.specs.Datagrams.{IsAnswerUnread, IsUnopened, IsUnreadSaid}
use Rattle.diagnose_text.specs.declared.facts.Answer.{Answer}
use Rattle.diagnose_text.proofs.Follows.{alone_as, claims_as, followed_as, follows_as, of_one}
use Rattle.diagnose_text.proofs.follower.Follower.take_unread_claim.Goals as goal

pub returns-then-claims-clause-follows : goal.returns-then-claims-clause-follows
returns-then-claims-clause-follows c = λ w is.
    let line = c.args.line in
    let refusal = c.args.refusal in
    let answer : Answer = record { at = line.at; says = c.said_unread.result; views = c.new.result; in_window = true } in
    let known : IsAnswerUnread line w refusal answer = record {
      moment = refl;
      window = refl;
      views = c.new.ensures.items;
      read = c.args.unread;
      is = is;
      says = subst (λ report. IsUnreadSaid refusal report c.said_unread.result) c.take.ensures.value c.said_unread.ensures;
    } in
    follows_as _ _ c.args.self.now c.args.self.now c.claims.new.self (refl, refl)
    (λ step h. inr (inr (inr (claims_as line c.args.unread.id (IsAnswerUnread line w refusal) c.args.asked.now answer c.requires known step h)))) (c.claims.ensures.follows c.if-claims.true)

pub returns-clause-follows : goal.returns-clause-follows
returns-clause-follows c = λ w is.
    let line = c.args.line in
    let IsFirst = IsUnopened line w c.args.refusal in
    let first = c.unread.result in
    let known : IsFirst first = record {
      captured = c.unread.ensures.captured;
      read = c.args.unread;
      is = is;
      sender = c.unread.ensures.sender;
      engine = c.unread.ensures.engine;
      what = c.unread.ensures.what;
      refused = c.unread.ensures.refused;
    } in
    followed_as c.tell.result _ _ c.args.self.now c.claims.new.self c.tell.new.self (c.claims.ensures.exchanges c.if-claims.false)
    (λ step h. inr (inl (alone_as line (λ held. held ≡ first) IsFirst (of_one IsFirst first known) step h))) c.tell.ensures.follows

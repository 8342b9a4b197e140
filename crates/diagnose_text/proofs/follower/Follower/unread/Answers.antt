use Rattle.std.proofs.Common.{◌≡◌, inl, inr, refl, sym}
use Rattle.snmp_message.specs.Layout.{Parts}
use Rattle.snmp_message.specs.Security.{Fields}
use Rattle.diagnose_text.specs.Datagrams.{IsMessage, IsMessageId, IsNoMessage, IsUnopened, IsUnread}
use Rattle.diagnose_text.proofs.Follows.{alone_as, asks_as, followed_as, of_one}
use Rattle.diagnose_text.proofs.follower.Follower.unread.Goals as goal

pub returns-in_default-clause-follows : goal.returns-in_default-clause-follows
returns-in_default-clause-follows c =
    let line = c.args.line in
    let w = c.args.datagram.now in
    let IsFirst = IsNoMessage line w c.args.refusal in
    let first = c.unreadable.result in
    let none : (m : Parts) → (s : Fields) → IsMessage w m s → ⊥ = rw c.in_default.is at c.in_ok-unread.ensures in
    let known : IsFirst first = record { captured = c.unreadable.ensures.captured; none = none; what = c.unreadable.ensures.what; refused = c.unreadable.ensures.refused } in
    followed_as c.tell.result _ _ c.args.self.now c.args.self.now c.tell.new.self (refl, refl) (λ step h. inl (alone_as line (λ held. held ≡ first) IsFirst (of_one IsFirst first known) step h)) c.tell.ensures.follows

pub returns-then-is_request-clause-follows : goal.returns-then-is_request-clause-follows
returns-then-is_request-clause-follows c =
    let line = c.args.line in
    let w = c.args.datagram.now in
    let read = c.in-Some.unread in
    let IsFirst = IsUnopened line w c.args.refusal in
    let first = c.unread.result in
    let is : IsUnread w line.told read = rw c.in-Some.is at c.in_ok-unread.ensures in
    let with_id : IsMessageId w read.id = (is.message, is.is.outer, sym is.id) in
    let known : IsFirst first = record {
      captured = c.unread.ensures.captured;
      read = read;
      is = is;
      sender = c.unread.ensures.sender;
      engine = c.unread.ensures.engine;
      what = c.unread.ensures.what;
      refused = c.unread.ensures.refused;
    } in
    followed_as c.ask.result _ _ c.args.self.now c.args.self.now c.ask.new.self (refl, refl)
    (λ step h. inr (read.id, with_id, inl (asks_as line read.id (λ held. held ≡ first) IsFirst (of_one IsFirst first known) step h))) c.ask.ensures.follows

pub returns-else-is_request-clause-follows : goal.returns-else-is_request-clause-follows
returns-else-is_request-clause-follows c =
    let line = c.args.line in
    let w = c.args.datagram.now in
    let read = c.in-Some.unread in
    let is : IsUnread w line.told read = rw c.in-Some.is at c.in_ok-unread.ensures in
    let with_id : IsMessageId w read.id = (is.message, is.is.outer, sym is.id) in
    followed_as c.unread_answer.result _ _ c.args.self.now c.args.self.now c.unread_answer.new.self (refl, refl)
    (λ step h. inr (read.id, with_id, h)) (c.unread_answer.ensures.follows w is)

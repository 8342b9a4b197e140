use Rattle.std.proofs.Common.{◌≡◌, refl}
use Rattle.diagnose_text.proofs.Follows.{asked_anew, asked_is, copy_stands, followed_as}
use Rattle.diagnose_text.proofs.follower.Follower.ask.Goals as goal

pub returns-then-is_some-clause-follows : goal.returns-then-is_some-clause-follows
returns-then-is_some-clause-follows c =
    followed_as c.tell.result _ _ c.args.self.now c.args.self.now c.tell.new.self (refl, refl) (copy_stands c.args.line c.args.id (λ held. held ≡ c.args.first) (cc (c.is_some.ensures, c.if-is_some.true))) c.tell.ensures.follows

pub returns-clause-follows : goal.returns-clause-follows
returns-clause-follows c =
    followed_as c.ask_anew.result _ _ c.args.self.now c.args.self.now c.ask_anew.new.self (refl, refl)
    (asked_anew c.args.line c.args.id c.by_request.result c.args.first (cc (c.is_some.ensures, c.if-is_some.false)) (asked_is c.by_request.result _ _ c.by_request.ensures.route c.by_request.ensures.id)) c.ask_anew.ensures.follows

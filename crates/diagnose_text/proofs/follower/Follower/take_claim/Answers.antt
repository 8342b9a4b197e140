use Rattle.std.proofs.Common.{inl, inr, refl}
use Rattle.snmp_incoming.specs.Answers.{given_of}
use Rattle.diagnose_text.specs.Datagrams.{IsAnswerRead}
use Rattle.diagnose_text.proofs.Follows.{claims_as, follows_as}
use Rattle.diagnose_text.proofs.follower.Follower.take_claim.Goals as goal

pub returns-then-claims-clause-follows : goal.returns-then-claims-clause-follows
returns-then-claims-clause-follows c =
    let given = given_of c.args.taken.now in
    let IsAnswer = IsAnswerRead c.args.line given c.args.in_window in
    let known : IsAnswer c.in-Some.answer = rw c.in-Some.is at c.in_ok-answer.ensures in
    follows_as _ _ c.args.self.now c.args.self.now c.claims.new.self (refl, refl)
    (λ step h. inr (inr (c.requires.forged, claims_as c.args.line given.id IsAnswer c.args.asked.now c.in-Some.answer c.requires.asked known step h))) (c.claims.ensures.follows c.if-claims.true)

use Rattle.std.proofs.Common.{inl, inr, refl}
use Rattle.snmp_incoming.specs.Answers.{given_of}
use Rattle.diagnose_text.specs.Datagrams.{IsAnswerRead}
use Rattle.diagnose_text.proofs.Follows.{answers_as, follows_as}
use Rattle.diagnose_text.proofs.follower.Follower.take_answer.Goals as goal

pub returns-then-answers-clause-follows : goal.returns-then-answers-clause-follows
returns-then-answers-clause-follows c =
    let given = given_of c.args.taken.now in
    let IsAnswer = IsAnswerRead c.args.line given c.args.in_window in
    let known : IsAnswer c.in-Some.answer = rw c.in-Some.is at c.in_ok-answer.ensures in
    follows_as _ _ c.args.self.now c.args.self.now c.answers.new.self (refl, refl)
    (λ step h. inr (inl (c.requires.tag, answers_as c.args.line given.id IsAnswer c.args.asked.now c.in-Some.answer c.requires.asked known step h))) (c.answers.ensures.follows c.if-answers.true)

use Rattle.std.proofs.Common.{Some, refl}
use Rattle.snmp_incoming.specs.Answers.{given_of}
use Rattle.diagnose_judge.specs.Judging.{IsJudged, Judgement, sent_by, sent_to, unread, discovery}
use Rattle.diagnose_text.proofs.Follows.{seen_as_judged}
use Rattle.diagnose_text.proofs.Refusals.{judged_unread}
use Rattle.diagnose_text.proofs.follower.Follower.take.Goals as goal

pub returns-in-SentTo : goal.returns-in-SentTo
returns-in-SentTo c =
    let line = c.args.line in
    let w = c.args.datagram.now in
    let old = c.args.self.now in
    let mid = record old { observer = c.judge.new.self } in
    let judgement = sent_to (given_of c.in-SentTo.taken) c.in-SentTo.verdict in
    let judged : IsJudged old.observer line.at.seconds w judgement c.judge.new.self = rw c.in-SentTo.is at c.in_ok-taken.ensures.judged in
    seen_as_judged c.request.result line w (Some judgement) old mid c.request.new.self (refl, refl) judged c.request.ensures.observer c.request.ensures.follows

pub returns-in-SentBy : goal.returns-in-SentBy
returns-in-SentBy c =
    let line = c.args.line in
    let w = c.args.datagram.now in
    let old = c.args.self.now in
    let mid = record old { observer = c.judge.new.self } in
    let judgement = sent_by (given_of c.in-SentBy.taken) c.in-SentBy.in_window in
    let judged : IsJudged old.observer line.at.seconds w judgement c.judge.new.self = rw c.in-SentBy.is at c.in_ok-taken.ensures.judged in
    seen_as_judged c.sent_by.result line w (Some judgement) old mid c.sent_by.new.self (refl, refl) judged c.sent_by.ensures.observer c.sent_by.ensures.follows

pub returns-in-Discovery : goal.returns-in-Discovery
returns-in-Discovery c =
    let line = c.args.line in
    let w = c.args.datagram.now in
    let old = c.args.self.now in
    let mid = record old { observer = c.judge.new.self } in
    let judged : IsJudged old.observer line.at.seconds w discovery c.judge.new.self = rw c.in-Discovery.is at c.in_ok-taken.ensures.judged in
    seen_as_judged c.discovery.result line w (Some discovery) old mid c.discovery.new.self (refl, refl) judged c.discovery.ensures.observer c.discovery.ensures.follows

pub returns-in-Unread : goal.returns-in-Unread
returns-in-Unread c =
    let line = c.args.line in
    let w = c.args.datagram.now in
    let old = c.args.self.now in
    let mid = record old { observer = c.judge.new.self } in
    let refusal = c.in-Unread.refused.refusal in
    let Judged = λ (j : Judgement). IsJudged old.observer line.at.seconds w j c.judge.new.self in
    let judged = judged_unread refusal Judged (rw c.in-Unread.is at c.in_ok-taken.ensures.judged) in
    seen_as_judged c.unread.result line w (Some (unread refusal)) old mid c.unread.new.self (refl, refl) judged c.unread.ensures.observer c.unread.ensures.follows

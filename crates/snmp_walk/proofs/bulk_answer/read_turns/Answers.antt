use Rattle.std.proofs.Common.{◌≡◌, subst, List, ℕ, Option, MatchOption, true, false}
use Rattle.snmp_msg.specs.Variables.{variables_of}
use Rattle.snmp_responder.specs.Code.{seen_by}
use Rattle.snmp_walk.specs.BulkAnswer.{IsReadFault, ReadSoFar}
use Rattle.snmp_walk.specs.Turns.{turns_left}
use Rattle.snmp_walk.specs.declared.answer.AnswerFault.{AnswerFault}
use Rattle.snmp_walk.proofs.BulkReads.{too_few_read}
use Rattle.snmp_walk.proofs.bulk_answer.read_turns.Goals as goal

pub returns-in-Some-next-clause-reads : goal.returns-in-Some-next-clause-reads
returns-in-Some-next-clause-reads c =
    let seen = seen_by c.args.viewer.now in
    let begun = c.args.columns.now.items in
    let ts = turns_left c.args.turns in
    let vs = variables_of c.args.answer.now.list.now in
    let now = c.read_each.new.columns.items in
    let so_far : ReadSoFar seen begun ts vs (turns_left c.read_each.new.turns) now =
    subst (λ (found : Option AnswerFault). MatchOption found (ReadSoFar seen begun ts vs (turns_left c.read_each.new.turns) now) (IsReadFault seen false begun ts vs)) c.in_default.is c.in_ok-fault.ensures.reads in
    let whole : c.args.is_whole ≡ true = cc c.if-not-is_whole.false in
    (whole, too_few_read seen begun ts vs c.in-Some-next.field-0 (turns_left c.next.new.self) now (subst (λ (left : List ℕ). ReadSoFar seen begun ts vs left now) c.in-Some-next.ensures so_far))

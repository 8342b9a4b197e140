use Rattle.std.proofs.Common.{◌≡◌, subst, List, ℕ, [], true, Option, MatchOption}
use Rattle.std.specs.List.{AllZip}
use Rattle.snmp_msg.specs.Variables.{variables_of}
use Rattle.snmp_responder.specs.Code.{seen_by}
use Rattle.snmp_walk.specs.BulkAnswer.{IsReadFault, ReadSoFar}
use Rattle.snmp_walk.specs.declared.answer.AnswerFault.{AnswerFault}
use Rattle.snmp_walk.specs.Turns.{turns_left}
use Rattle.snmp_walk.proofs.BulkAnswers.{given_back, marks_asked, marks_begun, marks_unread}
use Rattle.snmp_walk.proofs.bulk_answer.read_answer.Goals as goal

pub read_marked-requires-clause-unread : goal.read_marked-requires-clause-unread
read_marked-requires-clause-unread c = marks_unread c.args.columns.now.items c.mark_each.new.columns.items c.mark_each.ensures

pub read_marked-requires-clause-asked : goal.read_marked-requires-clause-asked
read_marked-requires-clause-asked c = marks_asked c.args.columns.now.items c.mark_each.new.columns.items (turns_left c.args.turns) c.mark_each.ensures c.requires

pub returns-in-Ok-None-clause-reads : goal.returns-in-Ok-None-clause-reads
returns-in-Ok-None-clause-reads c =
    let seen = seen_by c.args.viewer.now in
    let ts = turns_left c.args.turns in
    let vs = variables_of c.args.answer.now.list.now in
    let reads = c.in-Ok-None.ensures.reads in
    let begun = reads.0 in
    let Read = (left : List ℕ) × (c.args.is_whole ≡ true → left ≡ []) × ReadSoFar seen begun ts vs left c.read_marked.new.columns.items in
    let read = subst (λ (f : Option AnswerFault). MatchOption f Read (IsReadFault seen c.args.is_whole begun ts vs)) c.in-Ok-None.field-0-is reads.2 in
    record {
      begun = begun;
      begins = marks_begun c.args.columns.now.items c.mark_each.new.columns.items begun c.mark_each.ensures reads.1;
      left = read.0;
      all = read.1;
      ended = c.read_marked.new.columns.items;
      reads = read.2;
      settles = c.settle_each.ensures;
    }

pub returns-in-Ok-Some-clause-reads : goal.returns-in-Ok-Some-clause-reads
returns-in-Ok-Some-clause-reads c =
    let seen = seen_by c.args.viewer.now in
    let ts = turns_left c.args.turns in
    let vs = variables_of c.args.answer.now.list.now in
    let reads = c.in-Ok-Some.ensures.reads in
    let begun = reads.0 in
    let Read = (left : List ℕ) × (c.args.is_whole ≡ true → left ≡ []) × ReadSoFar seen begun ts vs left c.read_marked.new.columns.items in
    let found = subst (λ (f : Option AnswerFault). MatchOption f Read (IsReadFault seen c.args.is_whole begun ts vs)) c.in-Ok-Some.field-0-is reads.2 in (
      given_back c.args.columns.now.items c.mark_each.new.columns.items c.read_marked.new.columns.items c.forget_each.new.columns.items c.mark_each.ensures c.read_marked.ensures.grows c.forget_each.ensures,
      (begun, marks_begun c.args.columns.now.items c.mark_each.new.columns.items begun c.mark_each.ensures reads.1, found),
    )

pub returns-in-Err-clause-err : goal.returns-in-Err-clause-err
returns-in-Err-clause-err c =
    given_back c.args.columns.now.items c.mark_each.new.columns.items c.read_marked.new.columns.items c.forget_each-in-Err.new.columns.items c.mark_each.ensures c.read_marked.ensures.grows c.forget_each-in-Err.ensures

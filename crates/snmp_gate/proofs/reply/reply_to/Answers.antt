use Rattle.std.proofs.Common.{None, Some, refl, subst, sym}
use Rattle.snmp_incoming.specs.Answers.{given_of}
use Rattle.snmp_gate.specs.Replies.{IsReplyTo, NoCause, answering}
use Rattle.snmp_gate.specs.Work.{EndingStands, IsWhyOf, again_of}
use Rattle.snmp_gate.specs.declared.work.RequestEnd.{RequestEnd}
use Rattle.snmp_gate.proofs.Sending.{on_ok, short_of_message}
use Rattle.snmp_gate.proofs.Telling.{of_message, repeated_status, report_reply}
use Rattle.snmp_gate.proofs.reply.reply_to.Goals as goal

pub returns-in-Own-clause-sent : goal.returns-in-Own-clause-sent
returns-in-Own-clause-sent c =
    let a = answering c.args.agent.now c.args.sealing.now in
    let tables = c.args.agent.now.tables in
    let client = c.args.message.now.client.items in
    on_ok c.reply_own.result _ _ (λ r sent q said asked stands.
    subst (λ (e : RequestEnd). IsReplyTo a tables q said (again_of e) (IsWhyOf e) c.args.message.now.kept r) (sym c.in-Own.is)
    (of_message a tables q said None NoCause (given_of c.taken-taken.result) c.args.message.now.kept client r c.taken-taken.ensures
    (λ given. sent client q said None given (subst (EndingStands tables q said) c.in-Own.is stands)) asked))
    c.reply_own.ensures.sent

pub returns-in-Repeated-clause-sent : goal.returns-in-Repeated-clause-sent
returns-in-Repeated-clause-sent c =
    let a = answering c.args.agent.now c.args.sealing.now in
    let tables = c.args.agent.now.tables in
    let client = c.args.message.now.client.items in
    let says = c.in-Repeated.says in
    on_ok c.reply_own-in-Repeated.result _ _ (λ r sent q said asked stands.
    subst (λ (e : RequestEnd). IsReplyTo a tables q said (again_of e) (IsWhyOf e) c.args.message.now.kept r) (sym c.in-Repeated.is)
    (of_message a tables q said (Some says) NoCause (given_of c.taken-taken.result) c.args.message.now.kept client r c.taken-taken.ensures
    (λ given. sent client q said (Some says) given (repeated_status tables q said says (subst (EndingStands tables q said) c.in-Repeated.is stands))) asked))
    c.reply_own-in-Repeated.ensures.sent

pub returns-in-Unhandled-clause-sent : goal.returns-in-Unhandled-clause-sent
returns-in-Unhandled-clause-sent c =
    let a = answering c.args.agent.now c.args.sealing.now in
    let tables = c.args.agent.now.tables in
    let client = c.args.message.now.client.items in
    on_ok c.reply_unhandled.result _ _ (λ r sent q said asked stands.
    of_message a tables q said (again_of c.args.ending.now) (IsWhyOf c.args.ending.now) (given_of c.taken-taken.result) c.args.message.now.kept client r c.taken-taken.ensures
    (λ given. report_reply a tables q said (again_of c.args.ending.now) (IsWhyOf c.args.ending.now) (given_of c.taken-taken.result) c.in-Unhandled.why r
    (subst (λ (e : RequestEnd). IsWhyOf e c.in-Unhandled.why) (sym c.in-Unhandled.is) refl) sent) asked)
    c.reply_unhandled.ensures.sent

pub returns-in-Columns-clause-sent : goal.returns-in-Columns-clause-sent
returns-in-Columns-clause-sent c =
    let a = answering c.args.agent.now c.args.sealing.now in
    let tables = c.args.agent.now.tables in
    let client = c.args.message.now.client.items in
    on_ok c.reply_columns.result _ _ (λ r sent q said asked stands.
    subst (λ (e : RequestEnd). IsReplyTo a tables q said (again_of e) (IsWhyOf e) c.args.message.now.kept r) (sym c.in-Columns.is)
    (of_message a tables q said None NoCause (given_of c.taken-taken.result) c.args.message.now.kept client r c.taken-taken.ensures
    (λ given. let known = subst (EndingStands tables q said) c.in-Columns.is stands in sent client q said None known.0 given known.1) asked))
    c.reply_columns.ensures.sent

pub returns-in-Front-clause-sent : goal.returns-in-Front-clause-sent
returns-in-Front-clause-sent c =
    let a = answering c.args.agent.now c.args.sealing.now in
    let tables = c.args.agent.now.tables in
    let client = c.args.message.now.client.items in
    on_ok c.reply_bulk.result _ _ (λ r sent q said asked stands.
    subst (λ (e : RequestEnd). IsReplyTo a tables q said (again_of e) (IsWhyOf e) c.args.message.now.kept r) (sym c.in-Front.is)
    (of_message a tables q said None NoCause (given_of c.taken-taken.result) c.args.message.now.kept client r c.taken-taken.ensures
    (λ given. sent client q said None given (subst (EndingStands tables q said) c.in-Front.is stands)) asked))
    c.reply_bulk.ensures.sent

pub returns-in-Columns-clause-short : goal.returns-in-Columns-clause-short
returns-in-Columns-clause-short c = short_of_message c.reply_columns.result c.args.sealing.now.limit (given_of c.taken-taken.result) c.args.message.now.kept c.taken-taken.ensures c.reply_columns.ensures.short

pub returns-in-Front-clause-short : goal.returns-in-Front-clause-short
returns-in-Front-clause-short c = short_of_message c.reply_bulk.result c.args.sealing.now.limit (given_of c.taken-taken.result) c.args.message.now.kept c.taken-taken.ensures c.reply_bulk.ensures.short

pub returns-in-Own-clause-short : goal.returns-in-Own-clause-short
returns-in-Own-clause-short c = short_of_message c.reply_own.result c.args.sealing.now.limit (given_of c.taken-taken.result) c.args.message.now.kept c.taken-taken.ensures c.reply_own.ensures.short

pub returns-in-Repeated-clause-short : goal.returns-in-Repeated-clause-short
returns-in-Repeated-clause-short c = short_of_message c.reply_own-in-Repeated.result c.args.sealing.now.limit (given_of c.taken-taken.result) c.args.message.now.kept c.taken-taken.ensures c.reply_own-in-Repeated.ensures.short

pub returns-in-Unhandled-clause-short : goal.returns-in-Unhandled-clause-short
returns-in-Unhandled-clause-short c = short_of_message c.reply_unhandled.result c.args.sealing.now.limit (given_of c.taken-taken.result) c.args.message.now.kept c.taken-taken.ensures c.reply_unhandled.ensures.short

pub returns-in-RoundsUsedUp-clause-sent : goal.returns-in-RoundsUsedUp-clause-sent
returns-in-RoundsUsedUp-clause-sent c =
    let a = answering c.args.agent.now c.args.sealing.now in
    let tables = c.args.agent.now.tables in
    let client = c.args.message.now.client.items in
    on_ok c.reply_own-in-RoundsUsedUp.result _ _ (λ r sent q said asked stands.
    subst (λ (e : RequestEnd). IsReplyTo a tables q said (again_of e) (IsWhyOf e) c.args.message.now.kept r) (sym c.in-RoundsUsedUp.is)
    (of_message a tables q said None NoCause (given_of c.taken-taken.result) c.args.message.now.kept client r c.taken-taken.ensures
    (λ given. sent client q said None given (subst (EndingStands tables q said) c.in-RoundsUsedUp.is stands)) asked))
    c.reply_own-in-RoundsUsedUp.ensures.sent

pub returns-in-RoundsUsedUp-clause-short : goal.returns-in-RoundsUsedUp-clause-short
returns-in-RoundsUsedUp-clause-short c =
    short_of_message c.reply_own-in-RoundsUsedUp.result c.args.sealing.now.limit (given_of c.taken-taken.result) c.args.message.now.kept c.taken-taken.ensures c.reply_own-in-RoundsUsedUp.ensures.short

use Rattle.snmp_message.specs.Numbers.{in_table}
use Rattle.std.proofs.lemmas.Result.{err_from_is_err_and}
use Rattle.usm_core.specs.Answers.{verified_of}
use Rattle.snmp_incoming.specs.Texts.{text_of}
use Rattle.snmp_incoming.specs.Answers.{given_of}
use Rattle.snmpsec_output.proofs.Openings.{opens_refused, opens_unopened, opens_unread, opens_read}
use Rattle.snmpsec_output.proofs.opened.opened_lines.Goals as goal

pub returns-in_err-checked-clause-opens : goal.returns-in_err-checked-clause-opens
returns-in_err-checked-clause-opens c =
    let p = err_from_is_err_and c.from_residual.result c.from_residual.ensures.1 in
    rw (p.1, p.2) (opens_refused c.args.names c.args.users.now.users c.args.datagram.now c.in_err-checked.field-0.0.refusal c.in_err-checked.ensures.memory c.in_err-checked.ensures.rows)

pub returns-in_default-clause-opens : goal.returns-in_default-clause-opens
returns-in_default-clause-opens c =
    rw c.plain.ensures.refusal
    (opens_unopened c.args.names c.args.users.now.users c.args.datagram.now (verified_of c.in_ok-checked.checked) c.in_ok-checked.ensures.rows
    (rw c.in_default.is at c.in_ok-opening.ensures.opened))

pub returns-in_err-taken-clause-opens : goal.returns-in_err-taken-clause-opens
returns-in_err-taken-clause-opens c =
    let p = err_from_is_err_and c.from_residual-in_err-taken.result c.from_residual-in_err-taken.ensures.1 in
    rw (p.1, p.2) (opens_unread c.args.names c.args.users.now.users c.args.datagram.now (verified_of c.in_ok-checked.checked) c.in_ok-checked.ensures.rows (text_of c.in-Some.text)
    (rw (c.in-Some.is, c.in_ok-checked.ensures.users) at c.in_ok-opening.ensures.opened)
    (in_table c.in_err-taken.field-0.0.refusal) c.in_err-taken.ensures)

pub returns-clause-opens : goal.returns-clause-opens
returns-clause-opens c =
    opens_read c.args.names c.args.users.now.users c.args.datagram.now (verified_of c.in_ok-checked.checked) c.in_ok-checked.ensures.rows (text_of c.in-Some.text)
    (rw (c.in-Some.is, c.in_ok-checked.ensures.users) at c.in_ok-opening.ensures.opened)
    (given_of c.in_ok-taken.taken) _ c.in_ok-taken.ensures c.in_ok-lines.ensures

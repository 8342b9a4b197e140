use Rattle.std.specs.Prelude.{map}
use Rattle.snmp_outgoing.specs.Bodies.{scoped_after}
use Rattle.snmp_outgoing.specs.Sends.{sent_with}
use Rattle.snmp_outgoing.proofs.Levels.{flags_at, level_at}
use Rattle.snmp_outgoing.proofs.Refusing.{told_user, user_no_memory, user_not_large, too_large}
use Rattle.snmp_outgoing.proofs.Whole.{if_any_ok}
use Rattle.snmp_outgoing.proofs.sending.write_body_of.Goals as goal

pub returns-in_err-supports-clause-rows : goal.returns-in_err-supports-clause-rows
returns-in_err-supports-clause-rows g c =
    let e = c.args.envelope.now in
    let m = sent_with e (scoped_after c.args.front.now (map g.B.Spelled.says c.args.bindings.now)) in
    told_user c.args.users.now.users m e.level (flags_at e.level) (level_at e.level e.id e.reportable)
    c.from_residual.result c.in_err-supports.field-0.0 c.from_residual.ensures.1 c.in_err-supports.ensures.1 c.in_err-supports.ensures.0

pub returns-in_err-supports-clause-memory : goal.returns-in_err-supports-clause-memory
returns-in_err-supports-clause-memory g c is =
    let e = c.args.envelope.now in
    let m = sent_with e (scoped_after c.args.front.now (map g.B.Spelled.says c.args.bindings.now)) in
    absurd (user_no_memory c.args.users.now.users m e.level (flags_at e.level) (level_at e.level e.id e.reportable)
    c.from_residual.result c.in_err-supports.field-0.0 c.from_residual.ensures.1 c.in_err-supports.ensures.1 is)

pub returns-in_err-supports-clause-short : goal.returns-in_err-supports-clause-short
returns-in_err-supports-clause-short g c is =
    let e = c.args.envelope.now in
    let m = sent_with e (scoped_after c.args.front.now (map g.B.Spelled.says c.args.bindings.now)) in
    absurd (user_not_large c.args.users.now.users m e.level (flags_at e.level) (level_at e.level e.id e.reportable)
    c.from_residual.result c.in_err-supports.field-0.0 c.from_residual.ensures.1 c.in_err-supports.ensures.1 is)

pub returns-in_default-clause-rows : goal.returns-in_default-clause-rows
returns-in_default-clause-rows g c =
    let e = c.args.envelope.now in
    let m = sent_with e (scoped_after c.args.front.now (map g.B.Spelled.says c.args.bindings.now)) in
    rw c.plain.ensures.refusal
    (too_large c.args.users.now.users m e.level (flags_at e.level) (level_at e.level e.id e.reportable) c.in_ok-supports.ensures
    (c.sealed_size.ensures.least c.args.users.now.users m) c.in_default.ensures.none)

pub returns-clause-spelled : goal.returns-clause-spelled
returns-clause-spelled g c = if_any_ok c.seal_of.result c.in-Some.ensures.spelled

use Rattle.std.proofs.Common.{◌≡◌, true, false, replicate, sym, ap, ◌∙◌}
use Rattle.usm_core.specs.Sealed.{sending}
use Rattle.usm_core.specs.Answers.{seal_answer}
use Rattle.snmp_outgoing.specs.Bodies.{has_auth, has_privacy, header_at, scoped_of}
use Rattle.snmp_outgoing.specs.Sends.{sent}
use Rattle.snmp_outgoing.proofs.Levels.{flags_at, level_at}
use Rattle.snmp_outgoing.proofs.Refusing.{too_large}
use Rattle.snmp_outgoing.proofs.Salts.{answer_salted}
use Rattle.snmp_outgoing.proofs.sending.write_plain.Goals as goal

pub returns-in_default-clause-rows : goal.returns-in_default-clause-rows
returns-in_default-clause-rows c =
    let e = c.args.envelope.now in
    let auth : has_auth e.level ≡ false = ap has_auth c.requires.level in
    rw c.plain.ensures.refusal
    (too_large c.args.users.now.users (sent e c.args.body.now) e.level (flags_at e.level) (level_at e.level e.id e.reportable) (λ is. let wrong : true ≡ false = sym is ∙ auth in absurd (cc wrong))
    (c.sealed_size.ensures.least c.args.users.now.users (sent e c.args.body.now)) (rw c.front.ensures.scoped at c.in_default.ensures.none))

pub returns-clause-rows : goal.returns-clause-rows
returns-clause-rows c =
    let e = c.args.envelope.now in
    let rows = rw (c.header.ensures, c.in-Some.ensures.front, c.in-Some.ensures.bindings, c.front.ensures.scoped) at c.write_plain.ensures.rows in
    answer_salted c.args.users.now.users (sending (header_at e.level e.id e.reportable) e.engine.now e.pair e.user.now (replicate 8 0) (scoped_of c.args.body.now)) e.salt
    (ap has_auth c.requires.level) (ap has_privacy c.requires.level) (seal_answer c.write_plain.result) rows

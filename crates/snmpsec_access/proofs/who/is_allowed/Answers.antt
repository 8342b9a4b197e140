use Rattle.vacm_core.specs.Allowed.{Allowed}
use Rattle.vacm_core.specs.Tables.{tables_of}
use Rattle.snmpsec_access.specs.Askers.{asker}
use Rattle.snmpsec_access.proofs.Refused.{refused}
use Rattle.snmpsec_access.proofs.who.is_allowed.Goals as goal

pub returns-in_default : goal.returns-in_default
returns-in_default c =
    let message = (asker c.args.view c.args.group.now c.args.level c.args.context.now).message in
    let is : Allowed c.args.wanted.now.access.now message c.args.view c.args.wanted.now.variable.now c.is_access_allowed-answer.result =
    rw (← c.as_slice.ensures.octets, ← c.as_slice-2.ensures.octets) c.is_access_allowed-answer.ensures.answer in
    refused c.args.wanted.now.access.now (tables_of c.args.wanted.now.rows.now) message c.args.view c.args.wanted.now.variable.now c.is_access_allowed-answer.result c.requires.answers is c.in_default.not-AccessAllowed

use Rattle.snmp_message.specs.Message.{parts}
use Rattle.snmp_message.specs.Security.{fields_of}
use Rattle.diagnose_judge.proofs.Discoveries.{not_plain, by_engine}
use Rattle.diagnose_judge.proofs.discovery.is_discovery.Goals as goal

pub returns-in_default : goal.returns-in_default
returns-in_default c = λ d. c.in_default.ensures.none d.parts d.outer

pub returns-in_default-read_security : goal.returns-in_default-read_security
returns-in_default-read_security c = λ d. c.in_default-read_security.ensures.none d.parts d.fields d.outer d.security

pub returns-then-message : goal.returns-then-message
returns-then-message c = not_plain c.one_message.ensures.one c.args.datagram.now (parts c.in-Ok.message) c.in-Ok.ensures.exact c.if-message.true

pub returns : goal.returns
returns c =
    by_engine c.one_message.ensures.one c.one_cut.ensures.one c.args.datagram.now (parts c.in-Ok.message) (fields_of c.in-Ok-read_security.security) c.in-Ok.ensures.exact c.in-Ok-read_security.ensures.exact
    c.if-message.false c.is_empty.result c.is_empty.ensures

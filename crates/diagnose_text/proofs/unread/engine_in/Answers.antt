use Rattle.snmp_message.specs.Message.{parts}
use Rattle.snmp_message.specs.Security.{fields_of}
use Rattle.diagnose_text.specs.Datagrams.{IsEngineOf}
use Rattle.diagnose_text.proofs.Unreads.{some_weaker}
use Rattle.diagnose_text.proofs.unread.engine_in.Goals as goal

pub returns-in-Ok-read_security : goal.returns-in-Ok-read_security
returns-in-Ok-read_security c =
    some_weaker c.of.result _ (IsEngineOf c.args.datagram.now)
    (λ engine is. (parts c.in-Ok.message, fields_of c.in-Ok-read_security.security, record { outer = c.in-Ok.ensures.exact; security = c.in-Ok-read_security.ensures.exact }, is)) c.of.ensures.value

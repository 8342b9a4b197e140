use Rattle.std.proofs.Common.{refl}
use Rattle.snmp_message.specs.Message.{parts}
use Rattle.snmp_message.specs.Security.{fields_of}
use Rattle.diagnose_text.proofs.Unreads.{engine_read}
use Rattle.diagnose_text.proofs.unread.unread_in.Goals as goal

pub returns-in_default : goal.returns-in_default
returns-in_default c = λ m s is. c.in_default.ensures.none m is.outer

pub returns-in_default-read_security : goal.returns-in_default-read_security
returns-in_default-read_security c = λ m s is. c.in_default-read_security.ensures.none m s is.outer is.security

pub returns : goal.returns
returns c =
    let s = fields_of c.in-Ok-read_security.security in
    record {
      message = parts c.in-Ok.message;
      fields = s;
      is = record { outer = c.in-Ok.ensures.exact; security = c.in-Ok-read_security.ensures.exact };
      id = refl;
      user = c.user_of.ensures c.in-Ok-read_security.ensures.exact.says.user_allowed;
      level = c.level.ensures.level;
      engine = engine_read c.of.result s.engine c.of.ensures.variant c.of.ensures.value;
      contents = c.in_ok-contents.ensures;
    }

use Rattle.std.proofs.Common.{sym}
use Rattle.snmp_message.specs.Scoped.{contexts_there}
use Rattle.snmp_message.proofs.Scopeds.{scoped_front_in-is, no_front}
use Rattle.snmp_message.proofs.scoped.place_scoped_front.Goals as goal

pub returns-in-Ok-clause-exact : goal.returns-in-Ok-clause-exact
returns-in-Ok-clause-exact c = scoped_front_in-is c.args.plaintext.now (contexts_there c.args.plaintext.now c.in-Ok.place) (sym c.in-Ok.ensures.value)

pub returns-in-Err-clause-exact : goal.returns-in-Err-clause-exact
returns-in-Err-clause-exact c = no_front c.args.plaintext.now (sym c.in-Err.ensures.value)

pub returns-in-Err-clause-none : goal.returns-in-Err-clause-none
returns-in-Err-clause-none c = no_front c.args.plaintext.now (sym c.in-Err.ensures.value)

pub returns-in-Ok-clause-element : goal.returns-in-Ok-clause-element
returns-in-Ok-clause-element c = let t = (returns-in-Ok-clause-exact c).3.says in (t.pdu_tag, t.pdu_content, t.is_pdu)

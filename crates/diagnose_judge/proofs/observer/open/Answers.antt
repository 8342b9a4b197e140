use Rattle.usm_core.specs.Answers.{verified_of}
use Rattle.snmp_incoming.specs.Texts.{text_of}
use Rattle.diagnose_judge.proofs.Verdicts.{opens_not, opens_read}
use Rattle.diagnose_judge.proofs.observer.open.Goals as goal

-- the salt doesn't have 8 octets
pub returns-in_default-clause-opens : goal.returns-in_default-clause-opens
returns-in_default-clause-opens c =
    rw c.plain.ensures.refusal
    (opens_not c.args.users.now.users c.args.datagram.now (verified_of c.args.checked.now) (rw c.in_default.is at c.in_ok-text.ensures.opened))

pub returns-clause-opens : goal.returns-clause-opens
returns-clause-opens c =
    opens_read c.args.users.now.users c.args.datagram.now (verified_of c.args.checked.now) (text_of c.in-Some.text) _ (rw c.in-Some.is at c.in_ok-text.ensures.opened) c.read_text.ensures

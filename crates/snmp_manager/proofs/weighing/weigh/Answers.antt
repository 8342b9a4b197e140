use Rattle.usm_core.specs.Answers.{verified_of}
use Rattle.snmp_incoming.specs.Outcome.{as_manager}
use Rattle.snmp_incoming.specs.Texts.{text_of}
use Rattle.snmp_manager.proofs.Takes.{weighs_late, weighs_unopened, weighs_read, not_both, is_so}
use Rattle.snmp_manager.proofs.weighing.weigh.Goals as goal

-- outside the window
pub returns-then-not-is_fresh_once_learned-clause-weighs : goal.returns-then-not-is_fresh_once_learned-clause-weighs
returns-then-not-is_fresh_once_learned-clause-weighs c =
    λ learned l.
    rw c.plain.ensures.refusal
    (weighs_late (as_manager learned) c.args.users.now.users c.args.now c.args.datagram.now (verified_of c.args.checked.now)
    (λ fresh. not_both _ _ (c.is_fresh_once_learned.ensures learned l) (cc c.if-not-is_fresh_once_learned.true) fresh))

-- the salt doesn't have 8 octets
pub returns-in_default-clause-weighs : goal.returns-in_default-clause-weighs
returns-in_default-clause-weighs c =
    λ learned l.
    rw c.plain-in_default.ensures.refusal
    (weighs_unopened (as_manager learned) c.args.users.now.users c.args.now c.args.datagram.now (verified_of c.args.checked.now)
    (is_so _ _ (c.is_fresh_once_learned.ensures learned l) (cc c.if-not-is_fresh_once_learned.false))
    (rw c.in_default.is at c.in_ok-opening.ensures.opened))

pub returns-clause-weighs : goal.returns-clause-weighs
returns-clause-weighs c =
    λ learned l.
    weighs_read (as_manager learned) _ _ _ (verified_of c.args.checked.now)
    (is_so _ _ (c.is_fresh_once_learned.ensures learned l) (cc c.if-not-is_fresh_once_learned.false))
    (text_of c.in-Some.text) _ (rw c.in-Some.is at c.in_ok-opening.ensures.opened) c.read_text.ensures

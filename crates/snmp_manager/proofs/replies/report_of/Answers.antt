use Rattle.std.proofs.Common.{◌≡◌, ◌∙◌, sym, IsTrue, rules}
use Rattle.std.specs.Prelude.{◌≢◌}
use Rattle.snmp_ber.specs.declared.level.Level.TheVariants.{NoAuthNoPriv}
use Rattle.snmp_msg.specs.Pdu.{pdu_of}
use Rattle.snmp_manager.proofs.replies.report_of.Goals as goal

pub returns-then-pdu-tag : goal.returns-then-pdu-tag
returns-then-pdu-tag c = λ s p front is_pdu.
    let same_p : pdu_of c.pdu-pdu.result ≡ p = c.one_pdu.ensures.pdu s.pdu (pdu_of c.pdu-pdu.result) p (c.pdu-pdu.ensures.is_pdu s front) is_pdu in
    rw (← same_p) (λ w. c.if-pdu-tag.true (w.1 ∙ sym c.tag.ensures.value))

pub returns : goal.returns
returns c = λ s p front is_pdu.
    let same_p : pdu_of c.pdu-pdu.result ≡ p = c.one_pdu.ensures.pdu s.pdu (pdu_of c.pdu-pdu.result) p (c.pdu-pdu.ensures.is_pdu s front) is_pdu in
    let without : (IsTrue c.ne.result → c.args.taken.now.level ≢ NoAuthNoPriv) × (c.args.taken.now.level ≢ NoAuthNoPriv → IsTrue c.ne.result) = search rules in
    rw (← same_p) ((c.if-taken-pending.false, c.if-pdu-tag.false ∙ c.tag.ensures.value), c.told_in-counter.ensures, without)

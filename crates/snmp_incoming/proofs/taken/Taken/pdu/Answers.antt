use Rattle.std.proofs.Common.{◌≡◌, ◌≤◌, sym, subst, List, ℕ, Some, length}
use Rattle.snmp_message.specs.Scoped.{ScopedFront}
use Rattle.snmp_incoming.specs.Texts.{text_of, pdu_read, pdu_placed}
use Rattle.snmp_incoming.proofs.Placed.{stands_read}
use Rattle.snmp_incoming.proofs.taken.Taken.pdu.Goals as goal

pub lent-requires-clause-read : goal.lent-requires-clause-read
lent-requires-clause-read c =
    let t = c.args.self.now in
    subst (λ (text : List ℕ). pdu_read text ≡ Some (pdu_placed text t.tag t.pdu)) (sym c.as_slice.ensures) (stands_read (text_of t.text) t.tag t.pdu t.stands)

pub lent-requires-clause-within : goal.lent-requires-clause-within
lent-requires-clause-within c = subst (λ (text : List ℕ). c.args.self.now.pdu.end ≤ length text) (sym c.as_slice.ensures) c.args.self.now.within.1

pub returns-clause-is_pdu : goal.returns-clause-is_pdu
returns-clause-is_pdu c s front = c.lent.ensures.is_pdu s (subst (λ (text : List ℕ). ScopedFront text s) (sym c.as_slice.ensures) front)

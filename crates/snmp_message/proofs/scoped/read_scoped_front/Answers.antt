use Rattle.std.proofs.Common.{sym, subst, ℕ, List}
use Rattle.snmp_message.specs.Scoped.{IsOneElement}
use Rattle.snmp_message.proofs.scoped.read_scoped_front.Goals as goal

pub returns-clause-element : goal.returns-clause-element
returns-clause-element c = subst (λ (text : List ℕ). IsOneElement text) (sym c.lent.ensures.pdu) c.in_ok-place.ensures.element

use Rattle.std.proofs.Common.{◌≤◌, length, sym, subst}
use Rattle.snmp_incoming.specs.Texts.{ContextsThere, HasTag, StandsThere}
use Rattle.snmp_incoming.proofs.kept.Kept.taken.Goals as goal

pub invariant_of-result : goal.invariant_of-result
invariant_of-result c = record {
  user_fits = subst (λ octets. length octets ≤ 32) (sym c.as_slice.ensures.value) c.self.invariant.0;
  id_fits = c.self.invariant.1;
  size_fits = (c.self.invariant.2, c.self.invariant.3);
  is_read = subst (λ text. ∥ HasTag text c.self.inside.tag ∥₁) (sym c.as_slice-2.ensures.value) c.self.invariant.4;
  contexts_stand = subst (λ text. ContextsThere text c.self.inside.contexts) (sym c.as_slice-2.ensures.value) c.self.invariant.5;
  stands = subst (λ text. StandsThere text c.self.inside.tag c.self.inside.pdu) (sym c.as_slice-2.ensures.value) c.self.invariant.6;
  within = (c.self.invariant.7, subst (λ text. c.self.inside.pdu.end ≤ length text) (sym c.as_slice-2.ensures.value) c.self.invariant.8);
}

use Rattle.std.proofs.Common.{◌≡◌, ◌≤◌, length, sym, subst, rules}
use Rattle.snmp_incoming.specs.Texts.{ContextsThere, HasTag, StandsThere, text_of}
use Rattle.snmp_incoming.proofs.kept.Kept.of.Goals as goal

pub invariant_of-result : goal.invariant_of-result
invariant_of-result c =
    let user : c.in_ok-to_vec.field-0.items ≡ c.args.taken.user.now = search rules in
    let text : c.in_ok-into_vec.field-0.items ≡ text_of c.args.taken.text = search rules in (
      subst (λ octets. length octets ≤ 32) (sym user) c.args.taken.user_fits,
      c.args.taken.id_fits,
      c.args.taken.size_fits.0,
      c.args.taken.size_fits.1,
      subst (λ octets. ∥ HasTag octets c.args.taken.tag ∥₁) (sym text) c.args.taken.is_read,
      subst (λ octets. ContextsThere octets c.args.taken.contexts) (sym text) c.args.taken.contexts_stand,
      subst (λ octets. StandsThere octets c.args.taken.tag c.args.taken.pdu) (sym text) c.args.taken.stands,
      c.args.taken.within.0,
      subst (λ octets. c.args.taken.pdu.end ≤ length octets) (sym text) c.args.taken.within.1,
    )

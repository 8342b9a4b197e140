use Rattle.std.proofs.Common.{List, refl, subst, sym}
use Rattle.snmp_listener.specs.Wanted.{IsNamed}
use Rattle.snmp_listener.proofs.rules.ListenerRules.shows.Goals as goal

pub returns-then-not-is_named : goal.returns-then-not-is_named
returns-then-not-is_named c = λ is. cc (c.if-not-is_named.ensures.1 (subst (λ (names : List _). IsNamed names c.args.taken.now.user.now) (sym c.deref.ensures.value) is))

pub returns : goal.returns
returns c = (
  subst (λ (names : List _). IsNamed names c.args.taken.now.user.now) c.deref.ensures.value (c.if-not-is_named.ensures.0 refl),
  (λ is. cc (c.if-is_in_view.ensures.1 is)),
)

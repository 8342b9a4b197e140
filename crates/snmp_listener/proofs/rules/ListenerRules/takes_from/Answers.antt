use Rattle.std.proofs.Common.{List, refl, rules, subst, sym}
use Rattle.snmp_listener.specs.Wanted.{IsNamed}
use Rattle.snmp_listener.proofs.rules.ListenerRules.takes_from.Goals as goal

pub returns-then-is_named : goal.returns-then-is_named
returns-then-is_named c = λ _. subst (λ (names : List _). IsNamed names c.args.from.now) c.deref.ensures.value (c.if-is_named.ensures.0 refl)

pub returns : goal.returns
returns c = (
  search rules,
  (λ is. cc (c.if-is_named.ensures.1 (subst (λ (names : List _). IsNamed names c.args.from.now) (sym c.deref.ensures.value) is))),
)

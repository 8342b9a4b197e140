use Rattle.std.proofs.Common.{refl, rules, sym}
use Rattle.snmp_listener.proofs.rules.is_named.Goals as goal

pub returns-then-eq : goal.returns-then-eq
returns-then-eq c = ((λ _. (c.name-item.result, (c.loop-name.name-index, search rules, sym c.name-item.is), search rules)), (λ _. refl))

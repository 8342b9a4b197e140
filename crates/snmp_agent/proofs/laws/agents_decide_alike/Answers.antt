use Rattle.snmp_agent.proofs.Alike.{same_back, same_on}
use Rattle.snmp_agent.proofs.laws.agents_decide_alike.Goals as goal

pub returns-clause-defined : goal.returns-clause-defined
returns-clause-defined c = λ rows agent holds. c.order_is_free.ensures.same agent.tables rows (same_back rows agent.tables holds)

pub returns-clause-alike : goal.returns-clause-alike
returns-clause-alike c = λ rows others a b sound same first second message view variable answer other is also.
    c.order_is_free.ensures.one rows b.tables (c.order_is_free.ensures.sound rows sound) (same_on rows others b.tables same second) message view variable answer other
    (c.order_is_free.ensures.same a.tables rows (same_back rows a.tables first) message view variable answer is) also

use Rattle.std.proofs.lemmas.Bool.{false≢true}
use Rattle.std.proofs.lemmas.Bool.Decides.{Decides-int_eq}
use Rattle.snmp_gate.specs.declared.set_answer.TheConstants.{NO_ERROR, RESOURCE_UNAVAILABLE}
use Rattle.snmp_gate.proofs.gate.Gate.begin_new_set.Goals as goal

pub returns-in-Some-clause-begins : goal.returns-in-Some-clause-begins
returns-in-Some-clause-begins c q asked set told = (rw c.in-Some.is at c.in_ok-ending.ensures.ends) q told asked set

pub returns-then-is_full-clause-begins : goal.returns-then-is_full-clause-begins
returns-then-is_full-clause-begins c q asked set told nothing =
    c.own.ensures.stands c.args.self.now.agent.tables q told set nothing (λ none. absurd (false≢true ((Decides-int_eq RESOURCE_UNAVAILABLE NO_ERROR).1 none)))

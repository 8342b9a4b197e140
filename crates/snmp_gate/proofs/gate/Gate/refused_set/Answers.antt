use Rattle.std.proofs.Common.{subst, sym, ◌∙◌}
use Rattle.std.proofs.lemmas.Bool.{false≢true}
use Rattle.std.proofs.lemmas.Bool.Decides.{Decides-int_eq}
use Rattle.snmp_msg.specs.Variables.{variables_of}
use Rattle.vacm_core.specs.Tables.{Tables}
use Rattle.snmp_gate.specs.Causes.{EndsFor}
use Rattle.snmp_gate.specs.Work.{EndingStands}
use Rattle.snmp_gate.specs.declared.set_answer.TheConstants.{NO_ACCESS, NO_ERROR, TOO_BIG}
use Rattle.snmp_gate.proofs.GroupSteps.{none_left}
use Rattle.snmp_gate.proofs.gate.Gate.refused_set.Goals as goal

pub returns-in-Some-clause-ends : goal.returns-in-Some-clause-ends
returns-in-Some-clause-ends c q told asked set nothing =
    subst (λ (tables : Tables). EndingStands tables q told c.in-Some.ending) c.tables.ensures
    ((rw c.in-Some.is at c.in_ok-refused.ensures.ends) q told set nothing)

pub returns-then-not-branch-clause-ends : goal.returns-then-not-branch-clause-ends
returns-then-not-branch-clause-ends c q told asked set nothing =
    c.own.ensures.stands c.args.self.now.agent.tables q told set nothing (λ none. absurd (false≢true ((Decides-int_eq TOO_BIG NO_ERROR).1 none)))

pub returns-then-bindings-eq0-clause-ends : goal.returns-then-bindings-eq0-clause-ends
returns-then-bindings-eq0-clause-ends c q told asked set nothing =
    c.own-then-bindings-eq0.ensures.stands c.args.self.now.agent.tables q told set nothing
    (λ none. none_left (variables_of q.list) (sym (c.in_ok-refused.ensures.bindings q asked) ∙ c.if-bindings-eq0.true))

pub returns-then-is_none-clause-ends : goal.returns-then-is_none-clause-ends
returns-then-is_none-clause-ends c q told asked set nothing =
    c.own-then-is_none.ensures.stands c.args.self.now.agent.tables q told set nothing (λ none. absurd (false≢true ((Decides-int_eq NO_ACCESS NO_ERROR).1 none)))

pub returns-in-Some-clause-cause : goal.returns-in-Some-clause-cause
returns-in-Some-clause-cause c q asked set =
    let g = c.args.self.now in
    subst (λ (tables : Tables). EndsFor g.agent.engine tables g.devices.list.items q c.in-Some.ending) c.tables.ensures
    ((rw c.in-Some.is at c.in_ok-refused.ensures.cause) g.agent.engine g.devices.list.items q asked set)

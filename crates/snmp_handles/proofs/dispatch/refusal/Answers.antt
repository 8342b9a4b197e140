use Rattle.snmp_message.specs.declared.refusal.Refusal.{Refusal}
use Rattle.std.proofs.Common.{◌≡◌, ℕ, List, Option, Some, None, Result, Ok, refl, subst}
use Rattle.std.specs.Prelude.{IfSome, option_map}
use Rattle.std.specs.Global.{Vec}
use Rattle.snmp_msg.specs.Pdu.{PduParts, PduText}
use Rattle.snmp_message.specs.Scoped.{Contexts, ScopedFront}
use Rattle.snmp_incoming.specs.Outcome.{Given}
use Rattle.snmp_incoming.specs.Answers.{given_of}
use Rattle.snmp_agent.specs.Agent.{AgentState}
use Rattle.snmp_agent.specs.Dispatch.{Refuses, RefusalCanBeSent}
use Rattle.snmp_agent.specs.Report.{report_of}
use Rattle.snmp_handles.specs.Dispatch.{Reports, report_refusal}
use Rattle.snmp_handles.proofs.Told.{if_told}
use Rattle.snmp_handles.proofs.dispatch.refusal.Goals as goal

items : (report : Option (Vec ℕ)) → report_of report ≡ option_map (λ v. v.items) report
items None = refl
items (Some text) = refl

pub returns-in-Ok-clause-answer : goal.returns-in-Ok-clause-answer
returns-in-Ok-clause-answer c =
    let R : Given → Option (List ℕ) → Type 0 = λ g report. Reports c.args.agent.now c.args.now g c.args.why c.args.salt (Ok report) c.refuse.new.self in
    let rows : R (given_of c.taken-taken.result) (report_of c.in-Ok.report) = c.in-Ok.ensures.answer in
    subst (R c.args.kept.now) (items c.in-Ok.report) (subst (λ (g : Given). R g (report_of c.in-Ok.report)) c.taken-taken.ensures rows)

pub returns-clause-answer : goal.returns-clause-answer
returns-clause-answer c =
    let refused = report_refusal c.in-Err.unsent.refusal in
    let R : Given → AgentState → Type 0 = λ g new. (k : Contexts) (p : PduParts) → ScopedFront g.text k → PduText k.pdu p → IfSome refused (λ answer. Refuses c.args.agent.now c.args.now g p c.args.why c.args.salt answer new) in
    let rows : R (given_of c.taken-taken.result) c.refuse.new.self = c.in-Err.ensures.answer in
    let same : c.refuse.new.self ≡ c.args.agent.now = c.in-Err.ensures.err in
    let of_kept : R c.args.kept.now c.args.agent.now = subst (R c.args.kept.now) same (subst (λ (g : Given). R g c.refuse.new.self) c.taken-taken.ensures rows) in (
      if_told refused (λ a. Reports c.args.agent.now c.args.now c.args.kept.now c.args.why c.args.salt a c.args.agent.now)
          (λ a is. λ k p f q. subst (λ (o : Option (Result (Option (List ℕ)) Refusal)). IfSome o (λ answer. Refuses c.args.agent.now c.args.now c.args.kept.now p c.args.why c.args.salt answer c.args.agent.now)) is (of_kept k p f q)),
      λ is. subst (λ (g : Given). (k : Contexts) (p : PduParts) → ScopedFront g.text k → PduText k.pdu p → RefusalCanBeSent c.args.agent.now c.args.now g p c.args.why c.args.salt) c.taken-taken.ensures
          (λ k p f q. c.in-Err.ensures.memory k p f q is),
    )

use Rattle.std.proofs.Common.{◌≡◌, Option, None, option_map, refl, subst, rules}
use Rattle.snmp_manager.specs.Replies.{IsAnswer}
use Rattle.snmp_manager.specs.declared.pending.Pending.{Pending}
use Rattle.snmp_manager.specs.declared.pending.Answer.{Answer}
use Rattle.snmp_manager.specs.declared.pending.Answer.TheVariants.{Response, Report, NotForIt}
use Rattle.snmp_handles.specs.Managers.{ManagerHeld}
use Rattle.snmp_handles.proofs.manager.ManagerHandle.take_answer.Goals as goal

pub returns-in-Ok-Response : goal.returns-in-Ok-Response
returns-in-Ok-Response c =
    let told = c.in-Ok-Response.ensures in
    let is : c.in-Ok-Response.field-0 ≡ Response = search rules in
    let nothing : Option Pending = None in (
      told.0,
      told.1,
      told.2,
      told.3,
      λ k p f q. subst (λ (answer : Answer). IsAnswer told.1 told.0 k p answer) is (told.4 k p f q),
      subst (λ (h : ManagerHeld). record { manager = c.self.inside.manager; last = c.self.inside.last; message = option_map (λ v. v.items) c.self.inside.message; pending = nothing; requests = c.self.inside.requests } ≡ record h { pending = nothing })
          c.self.view_is refl,
    )

pub returns-in-Ok-Report : goal.returns-in-Ok-Report
returns-in-Ok-Report c =
    let told = c.in-Ok-Report.ensures in
    let is : c.in-Ok-Report.field-0 ≡ Report c.in-Ok-Report.n = search rules in (
      told.0,
      told.1,
      told.2,
      told.3,
      λ k p f q. subst (λ (answer : Answer). IsAnswer told.1 told.0 k p answer) is (told.4 k p f q),
      subst (λ (waiting : Option Pending). c.args.self.now ≡ record c.args.self.now { pending = waiting }) told.3 refl,
    )

pub returns-in-Ok-NotForIt : goal.returns-in-Ok-NotForIt
returns-in-Ok-NotForIt c =
    let told = c.in-Ok-NotForIt.ensures in
    let is : c.in-Ok-NotForIt.field-0 ≡ NotForIt = search rules in (
      told.0,
      told.1,
      told.2,
      told.3,
      λ k p f q. subst (λ (answer : Answer). IsAnswer told.1 told.0 k p answer) is (told.4 k p f q),
      subst (λ (waiting : Option Pending). c.args.self.now ≡ record c.args.self.now { pending = waiting }) told.3 refl,
    )

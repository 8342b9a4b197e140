use Rattle.std.proofs.Common.{◌≡◌, ℕ, List, Option, Some, Ok, Err, option_map, subst, sym, rules, w64}
use Rattle.std.specs.Int.{to_be_bytes}
use Rattle.snmp_incoming.specs.Outcome.{Given}
use Rattle.snmp_agent.specs.Agent.{AgentState}
use Rattle.snmp_agent.specs.declared.unhandled.Unhandled.{Unhandled}
use Rattle.snmp_handles.specs.Agents.{AgentHeld}
use Rattle.snmp_handles.specs.Dispatch.{Reports, AnswersReport, StopsReport}
use Rattle.snmp_handles.specs.declared.fault.CallFault.{CallFault}
use Rattle.snmp_handles.specs.declared.fault.CallFault.TheVariants.{Refused, BadArgument, NothingTaken, NotAsked, BadBindings, ShortBuffer, BadConfiguration, BadClocks, TooManyRequests}
use Rattle.snmp_handles.proofs.agent.AgentHandle.refuse.Goals as goal

pub returns-in-Ok : goal.returns-in-Ok
returns-in-Ok c =
    let report : Option (List ℕ) = option_map (λ v. v.items) c.in-Ok.report in
    let kept : c.args.self.now.last ≡ Some c.in-Some.kept = subst (λ (h : AgentHeld). h.last ≡ Some c.in-Some.kept) c.self.view_is c.in-Some.is in
    let rows : Reports c.self.inside.agent c.args.now c.in-Some.kept c.args.why (to_be_bytes w64 c.args.salt) (Ok report) c.refusal.new.agent = rw c.to_be_bytes-salt.ensures at c.in-Ok.ensures.answer in
    let of_self = subst (λ (h : AgentHeld). Reports h.agent c.args.now c.in-Some.kept c.args.why (to_be_bytes w64 c.args.salt) (Ok report) c.refusal.new.agent) c.self.view_is rows in
    (c.in-Some.kept, report, c.refusal.new.agent, kept, of_self, search rules)

stops : (held : AgentHeld) (g : Given) (now : ℕ) (why : Unhandled) (salt : List ℕ) (fault : CallFault) (new : AgentState)
    → held.last ≡ Some g → AnswersReport held.agent now g why salt (Err fault) new → StopsReport held now why salt fault
stops held g now why salt (Refused fault) new kept answer = (g, kept, answer)
stops held g now why salt BadArgument new kept answer = absurd answer
stops held g now why salt NothingTaken new kept answer = absurd answer
stops held g now why salt NotAsked new kept answer = absurd answer
stops held g now why salt BadBindings new kept answer = absurd answer
stops held g now why salt ShortBuffer new kept answer = absurd answer
stops held g now why salt BadConfiguration new kept answer = absurd answer
stops held g now why salt BadClocks new kept answer = absurd answer
stops held g now why salt TooManyRequests new kept answer = absurd answer

pub returns-in-Err : goal.returns-in-Err
returns-in-Err c =
    let kept : c.args.self.now.last ≡ Some c.in-Some.kept = subst (λ (h : AgentHeld). h.last ≡ Some c.in-Some.kept) c.self.view_is c.in-Some.is in
    let rows : AnswersReport c.self.inside.agent c.args.now c.in-Some.kept c.args.why (to_be_bytes w64 c.args.salt) (Err c.in-Err.fault) c.refusal.new.agent
    = subst (λ (salt : List ℕ). AnswersReport c.self.inside.agent c.args.now c.in-Some.kept c.args.why salt (Err c.in-Err.fault) c.refusal.new.agent) c.to_be_bytes-salt.ensures c.in-Err.ensures.answer in
    let of_self = subst (λ (h : AgentHeld). AnswersReport h.agent c.args.now c.in-Some.kept c.args.why (to_be_bytes w64 c.args.salt) (Err c.in-Err.fault) c.refusal.new.agent) c.self.view_is rows in
    let same : c.refusal.new.agent ≡ c.self.inside.agent = c.in-Err.ensures.err in (
      stops c.args.self.now c.in-Some.kept c.args.now c.args.why (to_be_bytes w64 c.args.salt) c.in-Err.fault c.refusal.new.agent kept of_self,
      subst (λ (agent : AgentState). record { agent = agent; last = c.self.inside.last; message = option_map (λ v. v.items) c.self.inside.message } ≡ c.args.self.now) (sym same) c.self.view_is,
    )

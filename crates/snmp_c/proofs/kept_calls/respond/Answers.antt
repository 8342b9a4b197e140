use Rattle.std.proofs.Common.{ℤ, subst, sym, rules, w32, SFits}
use Rattle.std.proofs.lemmas.Int.{to_z-of_z}
use Rattle.snmp_handles.specs.Agents.{AgentHeld}
use Rattle.snmp_handles.specs.Kept.{WithKept}
use Rattle.snmp_c.specs.AgentCalls.{RespondsTo}
use Rattle.snmp_c.proofs.Keeps.{with_kept, answers_stay}
use Rattle.snmp_c.proofs.kept_calls.respond.Goals as goal

pub returns : goal.returns
returns c =
    let fits : SFits w32 c.respond-answer.result = search rules in
    let Does : ℤ → AgentHeld → AgentHeld → Type 0 = λ answer before after. RespondsTo c.args.asked.now before after answer in
    let answered : WithKept (Does c.respond-answer.result) c.args.agent.now c.args.kept.now c.exchange-2.new.self c.exchange-2.new.kept
    = with_kept (Does c.respond-answer.result) (answers_stay c.args.asked.now c.respond-answer.result)
    c.args.agent.now c.exchange.new.self c.respond-answer.new.handle c.exchange-2.new.self c.args.kept.now c.exchange.new.kept c.exchange-2.new.kept
    c.exchange.ensures.agent c.exchange.ensures.kept c.respond-answer.ensures c.exchange-2.ensures.agent c.exchange-2.ensures.kept in
    subst (λ (answer : ℤ). WithKept (Does answer) c.args.agent.now c.args.kept.now c.exchange-2.new.self c.exchange-2.new.kept)
    (sym (to_z-of_z w32 c.respond-answer.result fits)) answered

use Rattle.std.proofs.Common.{ℤ, subst, sym, rules, w32, SFits}
use Rattle.std.proofs.lemmas.Int.{to_z-of_z}
use Rattle.snmp_handles.specs.Agents.{AgentHeld}
use Rattle.snmp_handles.specs.Kept.{WithKept}
use Rattle.snmp_c.specs.AgentCalls.{RespondsToFront}
use Rattle.snmp_c.proofs.Keeps.{with_kept, answers_front_stay}
use Rattle.snmp_c.proofs.kept_calls.respond_front.Goals as goal

pub returns : goal.returns
returns c =
    let fits : SFits w32 c.respond_front-answer.result = search rules in
    let Does : ℤ → AgentHeld → AgentHeld → Type 0 = λ answer before after. RespondsToFront c.args.asked.now c.args.said.now c.respond_front-answer.new.said before after answer in
    let answered : WithKept (Does c.respond_front-answer.result) c.args.agent.now c.args.kept.now c.exchange-2.new.self c.exchange-2.new.kept
    = with_kept (Does c.respond_front-answer.result) (answers_front_stay c.args.asked.now c.args.said.now c.respond_front-answer.new.said c.respond_front-answer.result)
    c.args.agent.now c.exchange.new.self c.respond_front-answer.new.handle c.exchange-2.new.self c.args.kept.now c.exchange.new.kept c.exchange-2.new.kept
    c.exchange.ensures.agent c.exchange.ensures.kept c.respond_front-answer.ensures c.exchange-2.ensures.agent c.exchange-2.ensures.kept in
    subst (λ (answer : ℤ). WithKept (Does answer) c.args.agent.now c.args.kept.now c.exchange-2.new.self c.exchange-2.new.kept)
    (sym (to_z-of_z w32 c.respond_front-answer.result fits)) answered

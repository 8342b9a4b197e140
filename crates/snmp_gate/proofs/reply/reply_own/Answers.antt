use Rattle.std.proofs.Common.{ℤ, List, map, rules, subst, sym, w32, SFits}
use Rattle.std.proofs.lemmas.Int.{to_z-of_z}
use Rattle.snmp_msg.specs.Variables.{bound_variable}
use Rattle.snmp_msg.specs.declared.variable.VariableBinding.{VariableBinding}
use Rattle.snmp_incoming.specs.Answers.{given_of}
use Rattle.snmp_gate.specs.Replies.{IsOwnList, IsSentOr, answering, told_with}
use Rattle.snmp_gate.proofs.Sending.{on_ok}
use Rattle.snmp_gate.proofs.Telling.{own_reply}
use Rattle.snmp_gate.proofs.reply.reply_own.Goals as goal

pub returns-clause-sent : goal.returns-clause-sent
returns-clause-sent c =
    let a = answering c.args.agent.now c.args.sealing.now in
    let g = given_of c.args.taken.now in
    let says = c.args.says in
    let vs = map bound_variable c.deref.result.now in
    let fits : SFits w32 says.status = search rules in
    on_ok c.reply_with.result (IsSentOr a g (told_with says vs)) _
    (λ r sent client q said again asked own. own_reply a c.args.agent.now.tables q said again g says vs r own
    (subst (λ (bs : List VariableBinding). IsOwnList q says.status (map bound_variable bs)) (sym c.deref.ensures.value)
    (subst (λ (n : ℤ). IsOwnList q n (map bound_variable c.in_ok-bindings.bindings.items)) (to_z-of_z w32 says.status fits) (c.in_ok-bindings.ensures.says client q asked)))
    sent)
    c.reply_with.ensures.sent

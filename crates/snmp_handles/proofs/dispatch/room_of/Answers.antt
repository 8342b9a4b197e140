use Rattle.std.proofs.Common.{◌≡◌, pos, List, [], inr, true, map, refl, subst, ap, rules}
use Rattle.snmp_message.specs.Scoped.{Contexts, ScopedFront}
use Rattle.snmp_msg.specs.Pdu.{PduParts, PduText}
use Rattle.snmp_msg.specs.PduTypes.{is_confirmed}
use Rattle.snmp_msg.specs.Variables.{Variable, bound_variable}
use Rattle.snmp_msg.specs.declared.variable.VariableBinding.{VariableBinding}
use Rattle.snmp_incoming.specs.Outcome.{Given, own_pair}
use Rattle.snmp_incoming.specs.Answers.{given_of}
use Rattle.snmp_outgoing.specs.Fronts.{IsBeyond, IsLongestFront, room}
use Rattle.snmp_agent.specs.Responses.{responding}
use Rattle.snmp_agent.specs.Sent.{CanSendAt}
use Rattle.snmp_handles.proofs.dispatch.room_of.Goals as goal

pub returns-in-Some : goal.returns-in-Some
returns-in-Some c =
    let confirmed : is_confirmed c.args.kept.now.tag ≡ true = search rules in
    let vs : List Variable = map bound_variable c.in_ok-bindings.bindings.items in
    let lent : map bound_variable c.deref.result.now ≡ vs = ap (λ (bs : List VariableBinding). map bound_variable bs) c.deref.ensures.value in
    let agent = c.args.agent.now in
    let R : Given → List Variable → Type 0 = λ g xs. (k : Contexts) (p : PduParts) → ScopedFront g.text k → PduText k.pdu p → IsLongestFront agent.users (room c.args.limit) (λ ys. responding agent.engine (own_pair agent.boots agent.started c.args.now) g k p (pos c.args.reply.now.status) (pos c.args.reply.now.index) ys c.args.reply.now.salt) xs c.in-Some.count in
    let rows : R (given_of c.taken-taken.result) (map bound_variable c.deref.result.now) = rw c.within.ensures at c.in-Some.ensures.some in
    (confirmed, (vs, c.in_ok-bindings.ensures.all, subst (λ (g : Given). R g vs) c.taken-taken.ensures (subst (R (given_of c.taken-taken.result)) lent rows)))

-- there is no room, for a user for whom it can be sent
pub returns : goal.returns
returns c =
    let confirmed : is_confirmed c.args.kept.now.tag ≡ true = search rules in
    let can : CanSendAt c.args.agent.now c.args.now c.args.kept.now.user c.args.kept.now.level = search rules in
    let agent = c.args.agent.now in
    let R : Given → Type 0 = λ g. (k : Contexts) (p : PduParts) → ScopedFront g.text k → PduText k.pdu p → IsBeyond agent.users (room c.args.limit) (responding agent.engine (own_pair agent.boots agent.started c.args.now) g k p (pos c.args.reply.now.status) (pos c.args.reply.now.index) [] c.args.reply.now.salt) in
    let none = rw c.within.ensures at c.in-None.ensures.none in
    let rows : R (given_of c.taken-taken.result) = λ k p f q. none k p f q can.0 in
    (confirmed, inr (can, inr (refl, subst R c.taken-taken.ensures rows)))

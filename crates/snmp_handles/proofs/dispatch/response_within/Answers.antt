use Rattle.snmp_message.specs.declared.refusal.Refusal.{Refusal}
use Rattle.std.proofs.Common.{◌≡◌, ◌≤◌, ℕ, pos, List, length, Option, Result, Ok, inr, true, map, subst, ap, rules}
use Rattle.std.specs.Prelude.{IfSome}
use Rattle.snmp_message.specs.Scoped.{Contexts, ScopedFront}
use Rattle.snmp_msg.specs.Pdu.{PduParts, PduText}
use Rattle.snmp_msg.specs.Variables.{Variable, bound_variable}
use Rattle.snmp_msg.specs.declared.variable.VariableBinding.{VariableBinding}
use Rattle.snmp_incoming.specs.Outcome.{Given, own_pair}
use Rattle.snmp_incoming.specs.Answers.{given_of}
use Rattle.snmp_msg.specs.PduTypes.{is_confirmed}
use Rattle.usm_core.specs.Table.{refusal_answer}
use Rattle.snmp_outgoing.specs.UpTo.{UpTo}
use Rattle.snmp_agent.specs.Responses.{response, responding}
use Rattle.snmp_agent.specs.Sent.{Sends, CanSendAt, IsAcceptedByManagers}
use Rattle.snmp_handles.specs.Agents.{GoesOutAs}
use Rattle.snmp_handles.specs.Dispatch.{RespondsWithin}
use Rattle.snmp_handles.proofs.Fits.{text_fits}
use Rattle.snmp_handles.proofs.Told.{if_told}
use Rattle.snmp_handles.proofs.dispatch.response_within.Goals as goal

pub returns-in-Ok-clause-answer : goal.returns-in-Ok-clause-answer
returns-in-Ok-clause-answer c =
    let confirmed : is_confirmed c.args.kept.now.tag ≡ true = search rules in
    let vs : List Variable = map bound_variable c.in_ok-bindings.bindings.items in
    let lent : map bound_variable c.deref.result.now ≡ vs = ap (λ (bs : List VariableBinding). map bound_variable bs) c.deref.ensures.value in
    let agent = c.args.agent.now in
    let text = c.in-Ok.text.items in
    let Of : (Given → List Variable → Contexts → PduParts → Type 0) → Given → List Variable → Type 0 = λ T g xs. (k : Contexts) (p : PduParts) → ScopedFront g.text k → PduText k.pdu p → T g xs k p in
    let S : Given → List Variable → Contexts → PduParts → Type 0 = λ g xs k p. UpTo c.args.limit (Sends agent c.args.now (λ own. responding agent.engine own g k p (pos c.args.reply.now.status) (pos c.args.reply.now.index) xs c.args.reply.now.salt)) (Ok text) in
    let A : Given → List Variable → Contexts → PduParts → Type 0 = λ g xs k p. IsAcceptedByManagers agent.users (response agent.engine (own_pair agent.boots agent.started c.args.now) g k p (pos c.args.reply.now.status) (pos c.args.reply.now.index) xs c.args.reply.now.salt) text in
    let R : Given → List Variable → Type 0 = Of (λ g xs k p. GoesOutAs agent c.args.now (λ own. response agent.engine own g k p (pos c.args.reply.now.status) (pos c.args.reply.now.index) xs c.args.reply.now.salt) text × (length text ≤ c.args.limit)) in
    let sent : Of S (given_of c.taken-taken.result) (map bound_variable c.deref.result.now) = rw c.within.ensures at c.in-Ok.ensures.answer in
    let accepted : Of A (given_of c.taken-taken.result) (map bound_variable c.deref.result.now) = rw c.within.ensures at c.in-Ok.ensures.accepted in
    let rows : R (given_of c.taken-taken.result) (map bound_variable c.deref.result.now) = λ k p f q. let told = text_fits c.args.limit _ text (sent k p f q) in ((told.0, accepted k p f q), told.1) in
    (confirmed, (vs, c.in_ok-bindings.ensures.all, subst (λ (g : Given). R g vs) c.taken-taken.ensures (subst (R (given_of c.taken-taken.result)) lent rows)))

-- the Response is refused, of a user for whom it can be sent
pub returns-clause-answer : goal.returns-clause-answer
returns-clause-answer c =
    let confirmed : is_confirmed c.args.kept.now.tag ≡ true = search rules in
    let vs : List Variable = map bound_variable c.in_ok-bindings.bindings.items in
    let lent : map bound_variable c.deref.result.now ≡ vs = ap (λ (bs : List VariableBinding). map bound_variable bs) c.deref.ensures.value in
    let refusal = refusal_answer c.in-Err.fault.refusal in
    let R : Given → List Variable → Type 0 = λ g xs. (k : Contexts) (p : PduParts) → ScopedFront g.text k → PduText k.pdu p → IfSome refusal (UpTo c.args.limit (Sends c.args.agent.now c.args.now (λ own. responding c.args.agent.now.engine own g k p (pos c.args.reply.now.status) (pos c.args.reply.now.index) xs c.args.reply.now.salt))) in
    let rows : R (given_of c.taken-taken.result) (map bound_variable c.deref.result.now) = rw c.within.ensures at c.in-Err.ensures.answer in
    let can : CanSendAt c.args.agent.now c.args.now c.args.kept.now.user c.args.kept.now.level = search rules in
    let of_kept : R c.args.kept.now vs = subst (λ (g : Given). R g vs) c.taken-taken.ensures (subst (R (given_of c.taken-taken.result)) lent rows) in (
      confirmed,
      inr (
        can,
        if_told refusal (RespondsWithin c.args.agent.now c.args.now c.args.kept.now c.args.reply.now.status c.args.reply.now.index c.args.reply.now.list.now c.args.reply.now.salt c.args.limit)
            (λ a is. (vs, c.in_ok-bindings.ensures.all, λ k p f q. subst (λ (o : Option (Result (List ℕ) Refusal)). IfSome o (UpTo c.args.limit (Sends c.args.agent.now c.args.now (λ own. responding c.args.agent.now.engine own c.args.kept.now k p (pos c.args.reply.now.status) (pos c.args.reply.now.index) vs c.args.reply.now.salt)))) is (of_kept k p f q))),
      ),
    )

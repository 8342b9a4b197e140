use Rattle.snmp_message.specs.declared.refusal.Refusal.{Refusal}
use Rattle.std.proofs.Common.{◌≡◌, ℕ, pos, List, Option, Result, Ok, inr, map, subst, ap, rules, w32, to_z}
use Rattle.std.specs.Prelude.{IfSome}
use Rattle.snmp_msg.specs.Variables.{Variable, bound_variable}
use Rattle.snmp_msg.specs.declared.variable.VariableBinding.{VariableBinding}
use Rattle.usm_core.specs.Table.{refusal_answer}
use Rattle.snmp_outgoing.specs.Speaks.{spoken}
use Rattle.snmp_incoming.specs.Outcome.{own_pair}
use Rattle.snmp_agent.specs.Sent.{Sends, CanSendAt, IsAcceptedByManagers}
use Rattle.snmp_handles.specs.Agents.{GoesOutAs, trap, NotifiesAt}
use Rattle.snmp_handles.specs.Between.{notice_of}
use Rattle.snmp_handles.proofs.Told.{if_told}
use Rattle.snmp_handles.proofs.agent.notice.Goals as goal

pub returns-in-Ok-clause-answer : goal.returns-in-Ok-clause-answer
returns-in-Ok-clause-answer c =
    let request : to_z w32 c.args.notice.now.to.request_id ≡ pos c.args.notice.now.to.request_id = search rules in
    let vs : List Variable = map bound_variable c.in_ok-bindings.bindings.items in
    let lent : map bound_variable c.deref.result.now ≡ vs = ap (λ (bs : List VariableBinding). map bound_variable bs) c.deref.ensures.value in
    let agent = c.args.agent.now in
    let text = c.in-Ok.text.items in
    let S : List Variable → Type 0 = λ xs. Sends agent c.args.now (λ own. spoken (trap agent.engine own (notice_of c.args.notice.now.to) c.args.notice.now.level xs c.args.salt)) (Ok text) in
    let A : List Variable → Type 0 = λ xs. IsAcceptedByManagers agent.users (trap agent.engine (own_pair agent.boots agent.started c.args.now) (notice_of c.args.notice.now.to) c.args.notice.now.level xs c.args.salt) text in
    let R : List Variable → Type 0 = λ xs. GoesOutAs agent c.args.now (λ own. trap agent.engine own (notice_of c.args.notice.now.to) c.args.notice.now.level xs c.args.salt) text in
    let sent : S (map bound_variable c.deref.result.now) = rw (c.tag.ensures.value, request) at c.in-Ok.ensures.answer in
    let accepted : A (map bound_variable c.deref.result.now) = rw (c.tag.ensures.value, request) at c.in-Ok.ensures.accepted in
    let rows : R (map bound_variable c.deref.result.now) = (sent, accepted) in
    (vs, c.in_ok-bindings.ensures.all, subst R lent rows)

pub returns-clause-answer : goal.returns-clause-answer
returns-clause-answer c =
    let request : to_z w32 c.args.notice.now.to.request_id ≡ pos c.args.notice.now.to.request_id = search rules in
    let vs : List Variable = map bound_variable c.in_ok-bindings.bindings.items in
    let lent : map bound_variable c.deref.result.now ≡ vs = ap (λ (bs : List VariableBinding). map bound_variable bs) c.deref.ensures.value in
    let refusal = refusal_answer c.in-Err-notify_of.fault.refusal in
    let S : List Variable → Result (List ℕ) Refusal → Type 0 = λ xs. Sends c.args.agent.now c.args.now (λ own. spoken (trap c.args.agent.now.engine own (notice_of c.args.notice.now.to) c.args.notice.now.level xs c.args.salt)) in
    let rows : IfSome refusal (S (map bound_variable c.deref.result.now)) = rw (c.tag.ensures.value, request) at c.in-Err-notify_of.ensures.answer in
    let can : CanSendAt c.args.agent.now c.args.now c.args.notice.now.to.user.now c.args.notice.now.level = search rules in
    let of_list : IfSome refusal (S vs) = subst (λ (xs : List Variable). IfSome refusal (S xs)) lent rows in
    inr (
      can,
      if_told refusal (NotifiesAt c.args.agent.now c.args.now (notice_of c.args.notice.now.to) c.args.notice.now.level c.args.list.now c.args.salt)
          (λ a is. (vs, c.in_ok-bindings.ensures.all, subst (λ (o : Option (Result (List ℕ) Refusal)). IfSome o (S vs)) is of_list)),
    )

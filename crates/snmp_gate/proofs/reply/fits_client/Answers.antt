use Rattle.std.proofs.Common.{◌≡◌, ◌≤◌, ◌-◌, ℕ, ℤ, pos, List, [], Some, ap, eqb, length, map, min, replicate, rules, subst, sym, ◌∙◌, to_z, w32}
use Rattle.std.proofs.lemmas.List.{length-map}
use Rattle.std.specs.Option.{option_eq}
use Rattle.std.specs.Prelude.{IfNone, IfSome}
use Rattle.engine_clock.specs.Pairs.{pair_max}
use Rattle.snmp_incoming.specs.Answers.{given_of}
use Rattle.snmp_incoming.specs.Outcome.{Given, own_pair}
use Rattle.snmp_msg.specs.Variables.{Variable, bound_variable, variables_of}
use Rattle.snmp_msg.specs.declared.variable.VariableBinding.{VariableBinding}
use Rattle.snmp_outgoing.specs.Fronts.{IsBeyond, IsLongestFront, room}
use Rattle.snmp_agent.specs.Responses.{responding}
use Rattle.snmp_message.specs.Scoped.{ScopedFront}
use Rattle.usm_core.specs.Sealed.{Sending}
use Rattle.snmp_gate.specs.Limits.{IsLimit}
use Rattle.snmp_gate.specs.Messages.{question_given}
use Rattle.snmp_gate.specs.SetRoom.{longest_response}
use Rattle.snmp_gate.proofs.SetRooms.{own_bindings_are, told_room}
use Rattle.snmp_gate.proofs.reply.fits_client.Goals as goal

pub returns : goal.returns
returns c = λ s p q front is_pdu asked.
    let agent = c.args.agent.now in
    let m = c.args.message.now in
    let kept : given_of c.taken-taken.result ≡ m.kept = c.taken-taken.ensures in
    let vs = map bound_variable c.in_ok-bindings.bindings.items in
    let own : vs ≡ variables_of q.list = own_bindings_are q vs (c.in_ok-bindings.ensures.says m.client.items q (subst (λ (g : Given). question_given m.client.items g ≡ Some q) (sym kept) asked)) in
    let limit = c.limit_of.result in
    let index : to_z w32 c.min.result ≡ pos c.min.result = search rules in
    let items = c.in_ok-bindings.bindings.items in
    let own_len : length items ≡ length (variables_of q.list) = sym (length-map items bound_variable) ∙ ap (λ (ws : List Variable). length ws) own in
    let len : c.len.result ≡ length items = search rules in
    let len_again : c.len-2.result ≡ length items = search rules in
    let least : c.min.result ≡ min (length (variables_of q.list)) 2147483647 = c.min.ensures ∙ ap (λ (n : ℕ). min n 2147483647) (len ∙ own_len) in
    let of : Given → ℤ → List Variable → Sending = λ g n ws. responding agent.engine (own_pair agent.boots agent.started c.args.now) g s p (pos 18) n ws (replicate 8 0) in
    let message : List Variable → Sending = longest_response agent c.args.now m s p (variables_of q.list) in
    let lent : map bound_variable c.deref.result.now ≡ variables_of q.list = ap (λ (bs : List VariableBinding). map bound_variable bs) c.deref.ensures.value ∙ own in
    let number : to_z w32 c.min.result ≡ pos (min (length (variables_of q.list)) 2147483647) = index ∙ ap (λ (n : ℕ). pos n) least in
    let of_text : ScopedFront (given_of c.taken-taken.result).text s = subst (λ (g : Given). ScopedFront g.text s) (sym kept) front in
    let told = c.fits-most.result in
    let Some_at : Given → ℤ → List Variable → Type 0 = λ g n ws. IfSome told (IsLongestFront agent.users (room limit) (of g n) ws) in
    let some : Some_at m.kept (pos (min (length (variables_of q.list)) 2147483647)) (variables_of q.list) =
    subst (λ (g : Given). Some_at g (pos (min (length (variables_of q.list)) 2147483647)) (variables_of q.list)) kept
    (subst (λ (n : ℤ). Some_at (given_of c.taken-taken.result) n (variables_of q.list)) number
    (subst (Some_at (given_of c.taken-taken.result) (to_z w32 c.min.result)) lent (c.fits-most.ensures.some s p of_text is_pdu))) in
    let Runs : Type 0 = c.args.now - agent.started ≤ pair_max in
    let None_at : Given → ℤ → Type 0 = λ g n. Runs → IfNone told (IsBeyond agent.users (room limit) (of g n [])) in
    let none : None_at m.kept (pos (min (length (variables_of q.list)) 2147483647)) =
    subst (λ (g : Given). None_at g (pos (min (length (variables_of q.list)) 2147483647))) kept
    (subst (None_at (given_of c.taken-taken.result)) number (c.fits-most.ensures.none s p of_text is_pdu)) in
    let fits : c.eq.result ≡ option_eq eqb told (Some (length (variables_of q.list))) = c.eq.ensures ∙ ap (λ (n : ℕ). option_eq eqb told (Some n)) (len_again ∙ own_len) in
    (limit, subst (λ (g : Given). IsLimit c.args.limits.now g.level g.max_size m.size limit) kept c.limit_of.ensures, told_room agent limit message (variables_of q.list) Runs told c.eq.result some none fits)

use Rattle.std.proofs.Common.{rules, ◌≡◌, ◌≤◌, ℕ, List, length, sym, ap, subst, ◌∙◌}
use Rattle.std.specs.Prelude.{map, IfOk, IfSome, Ok}
use Rattle.snmp_msg.specs.Pdu.{PduParts, IsSpelled}
use Rattle.usm_core.specs.Sealed.{Sending, Seals, IsSealable}
use Rattle.snmp_incoming.specs.Answers.{given_of}
use Rattle.snmp_outgoing.specs.Sends.{sent_with}
use Rattle.usm_core.specs.Answers.{seal_answer}
use Rattle.snmp_agent.specs.Responses.{response}
use Rattle.snmp_outgoing.specs.Fronts.{IsBeyond, room}
use Rattle.snmp_outgoing.specs.UpTo.{UpTo}
use Rattle.snmp_agent.proofs.Speeches.{speech_fits}
use Rattle.snmp_agent.proofs.response.response_within.Goals as goal

pub returns-clause-rows : goal.returns-clause-rows
returns-clause-rows g c s p front is_pdu =
    let vs = map g.B.Spelled.says c.args.bindings.now in
    let is = ap (sent_with c.envelope-envelope.result) (c.front-front.ensures.scoped s p vs front is_pdu) ∙ c.envelope-envelope.ensures.message s p vs in
    subst (λ (m : Sending). IfSome (seal_answer c.write_within.result) (UpTo c.args.response.now.limit (Seals c.args.users.now.users m))) is c.write_within.ensures.rows

pub returns-clause-sealed : goal.returns-clause-sealed
returns-clause-sealed g c s p front is_pdu =
    let vs = map g.B.Spelled.says c.args.bindings.now in
    let is = ap (sent_with c.envelope-envelope.result) (c.front-front.ensures.scoped s p vs front is_pdu) ∙ c.envelope-envelope.ensures.message s p vs in
    subst (λ (m : Sending). IfOk c.write_within.result (λ text. Seals c.args.users.now.users m (Ok text.items))) is c.write_within.ensures.sealed

pub returns-clause-memory : goal.returns-clause-memory
returns-clause-memory g c s p front is_pdu memory =
    let vs = map g.B.Spelled.says c.args.bindings.now in
    let is = ap (sent_with c.envelope-envelope.result) (c.front-front.ensures.scoped s p vs front is_pdu) ∙ c.envelope-envelope.ensures.message s p vs in
    subst (IsSealable c.args.users.now.users) is (c.write_within.ensures.memory memory)

pub returns-clause-fits : goal.returns-clause-fits
returns-clause-fits g c s p front is_pdu =
    let vs = map g.B.Spelled.says c.args.bindings.now in
    let spelled = subst (λ (q : PduParts). IfOk c.write_within.result (λ _. IsSpelled q)) (c.front-front.ensures.pdu s p vs front is_pdu) c.write_within.ensures.spelled in
    let salt : length c.args.response.now.salt ≡ 8 = search rules in
    speech_fits c.write_within.result (response c.args.engine.now c.args.own (given_of c.args.taken.now) s p c.args.response.now.status c.args.response.now.index vs c.args.response.now.salt)
    c.args.taken.now.id_fits c.envelope-envelope.ensures.bounds c.requires.pair c.args.taken.now.user_fits salt spelled

pub write_within-requires-clause-engine : goal.write_within-requires-clause-engine
write_within-requires-clause-engine g c = subst (λ (engine : List ℕ). length engine ≤ 32) (sym c.envelope-envelope.ensures.engine) c.envelope-envelope.ensures.bounds.at_most

pub returns-clause-counted : goal.returns-clause-counted
returns-clause-counted g c s p front is_pdu memory beyond =
    let vs = map g.B.Spelled.says c.args.bindings.now in
    let is = ap (sent_with c.envelope-envelope.result) (c.front-front.ensures.scoped s p vs front is_pdu) ∙ c.envelope-envelope.ensures.message s p vs in
    c.write_within.ensures.counted memory (subst (IsBeyond c.args.users.now.users (room c.args.response.now.limit)) (sym is) beyond)

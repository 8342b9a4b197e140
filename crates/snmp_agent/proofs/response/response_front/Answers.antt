use Rattle.std.proofs.Common.{rules, ◌≡◌, ◌≤◌, length, List, ℕ, [], sym, ap, subst, ◌∙◌, Ok}
use Rattle.std.specs.Prelude.{map, take}
use Rattle.snmp_msg.specs.Pdu.{IsSpelled}
use Rattle.snmp_msg.specs.Variables.{Variable}
use Rattle.usm_core.specs.Sealed.{IsSealable}
use Rattle.snmp_message.specs.declared.refused_at.RefusedAt.{RefusedAt}
use Rattle.snmp_outgoing.specs.Speaks.{SpeechFits}
use Rattle.snmp_incoming.specs.Answers.{given_of}
use Rattle.snmp_outgoing.specs.Bodies.{pdu_after, scoped_after}
use Rattle.snmp_outgoing.specs.Sends.{sent_with}
use Rattle.snmp_outgoing.specs.Fronts.{front_answer}
use Rattle.snmp_agent.specs.Responses.{response, responding}
use Rattle.snmp_agent.proofs.Speeches.{speech_fits}
use Rattle.snmp_agent.proofs.ResponseFronts.{same_message, fits_by}
use Rattle.snmp_agent.proofs.response.response_front.Goals as goal

pub returns-clause-rows : goal.returns-clause-rows
returns-clause-rows g c s p front is_pdu =
    let vs = map g.B.Spelled.says c.args.bindings.now in
    let is = λ (ws : List Variable). ap (sent_with c.envelope-envelope.result) (c.front-front.ensures.scoped s p ws front is_pdu) ∙ c.envelope-envelope.ensures.message s p ws in
    let after = λ (ws : List Variable). sent_with c.envelope-envelope.result (scoped_after c.front-front.result ws) in
    let of = λ (ws : List Variable). responding c.args.engine.now c.args.own (given_of c.args.taken.now) s p c.args.response.now.status c.args.response.now.index ws c.args.response.now.salt in
    same_message c.args.users.now.users c.args.response.now.limit vs after of is (front_answer c.write_front.result) c.write_front.ensures.rows

pub returns-clause-memory : goal.returns-clause-memory
returns-clause-memory g c s p front is_pdu memory =
    let is = ap (sent_with c.envelope-envelope.result) (c.front-front.ensures.scoped s p [] front is_pdu) ∙ c.envelope-envelope.ensures.message s p [] in
    subst (IsSealable c.args.users.now.users) is (c.write_front.ensures.memory memory)

pub returns-clause-fits : goal.returns-clause-fits
returns-clause-fits g c s p front is_pdu =
    let vs = map g.B.Spelled.says c.args.bindings.now in
    let salt : length c.args.response.now.salt ≡ 8 = search rules in
    let of = λ (ws : List Variable). response c.args.engine.now c.args.own (given_of c.args.taken.now) s p c.args.response.now.status c.args.response.now.index ws c.args.response.now.salt in
    fits_by c.write_front.result (λ f. IsSpelled (pdu_after c.front-front.result (take f.count vs))) (λ f. SpeechFits (of (take f.count vs)))
    (λ f spelled. speech_fits {E = RefusedAt} (Ok f) (of (take f.count vs)) c.args.taken.now.id_fits c.envelope-envelope.ensures.bounds c.requires.pair c.args.taken.now.user_fits salt
    (subst IsSpelled (c.front-front.ensures.pdu s p (take f.count vs) front is_pdu) spelled))
    c.write_front.ensures.spelled

pub write_front-requires-clause-engine : goal.write_front-requires-clause-engine
write_front-requires-clause-engine g c = subst (λ (engine : List ℕ). length engine ≤ 32) (sym c.envelope-envelope.ensures.engine) c.envelope-envelope.ensures.bounds.at_most

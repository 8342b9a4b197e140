use Rattle.std.proofs.Common.{rules, w32, SFits, ℕ, List}
use Rattle.std.specs.Prelude.{Option, Some, None, Result, IfSome, map}
use Rattle.std.proofs.lemmas.Int.{to_z-of_z}
use Rattle.usm_core.specs.Answers.{seal_answer}
use Rattle.engine_clock.specs.Pairs.{BootsAndTime}
use Rattle.snmp_msg.specs.Variables.{variable_of}
use Rattle.snmp_incoming.specs.Answers.{given_of}
use Rattle.snmp_agent.specs.Responses.{responding}
use Rattle.snmp_agent.specs.Sent.{Sends}
use Rattle.snmp_agent.proofs.UpTos.{some_whole}
use Rattle.snmp_agent.proofs.agent.Agent.respond.Goals as goal

pub returns-clause-answer : goal.returns-clause-answer
returns-clause-answer c s p front is_pdu =
    let status : SFits w32 c.args.status = search rules in
    let index : SFits w32 c.args.index = search rules in
    let cut = rw (to_z-of_z w32 c.args.status status, to_z-of_z w32 c.args.index index) at (c.write_response.ensures.answer s p front is_pdu) in
    let message = λ (own : BootsAndTime). responding c.args.self.now.engine own (given_of c.args.taken.now) s p c.args.status c.args.index (map variable_of c.args.bindings.now) c.args.salt in
    some_whole 65507 (Sends c.args.self.now c.args.now message) (c.no_text_is_longer.ensures c.args.self.now c.args.now message) (seal_answer c.write_response.result) cut

pub returns-clause-memory : goal.returns-clause-memory
returns-clause-memory c s p front is_pdu is =
    let status : SFits w32 c.args.status = search rules in
    let index : SFits w32 c.args.index = search rules in
    rw (to_z-of_z w32 c.args.status status, to_z-of_z w32 c.args.index index) at (c.write_response.ensures.memory s p front is_pdu is)

pub returns-clause-accepted : goal.returns-clause-accepted
returns-clause-accepted c s p front is_pdu =
    let status : SFits w32 c.args.status = search rules in
    let index : SFits w32 c.args.index = search rules in
    rw (to_z-of_z w32 c.args.status status, to_z-of_z w32 c.args.index index) at (c.write_response.ensures.accepted s p front is_pdu)

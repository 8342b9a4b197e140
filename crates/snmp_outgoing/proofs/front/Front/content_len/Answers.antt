use Rattle.std.proofs.Common.{ℕ, length, sym, ap, ◌∙◌, rules, w32, SFits}
use Rattle.std.proofs.lemmas.Int.{to_z-of_z}
use Rattle.snmp_message.specs.Scoped.{contexts_size}
use Rattle.snmp_message.proofs.Scopeds.{contexts_text-length}
use Rattle.snmp_msg.specs.Pdu.{pdu_text}
use Rattle.snmp_msg.specs.Variables.{variables_text}
use Rattle.snmp_outgoing.specs.Bodies.{pdu_after}
use Rattle.snmp_outgoing.proofs.front.Front.content_len.Goals as goal

pub returns-clause-size : goal.returns-clause-size
returns-clause-size c = λ vs size.
    let f = c.args.self.now in
    let id : SFits w32 f.id = search rules in
    let second : SFits w32 f.second = search rules in
    let third : SFits w32 f.third = search rules in
    let pdu = rw (to_z-of_z w32 f.id id, to_z-of_z w32 f.second second, to_z-of_z w32 f.third third) at (c.written_pdu_len-pdu_len.ensures.size f.tag (variables_text vs) size) in
    c.contexts_len.ensures.size
    ∙ ap (λ (n : ℕ). contexts_size (length f.context_engine.now) (length f.context_name.now) n) pdu
    ∙ sym (contexts_text-length f.context_engine.now f.context_name.now (pdu_text (pdu_after f vs)))

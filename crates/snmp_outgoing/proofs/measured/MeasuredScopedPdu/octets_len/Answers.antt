use Rattle.std.proofs.Common.{ℕ, ◌+◌, ap, sym, ◌∙◌}
use Rattle.std.specs.Prelude.{map}
use Rattle.snmp_ber.specs.Spelling.{head_size}
use Rattle.snmp_message.proofs.Scopeds.{scoped_text-size}
use Rattle.snmp_msg.specs.Pdu.{pdu_text}
use Rattle.snmp_outgoing.specs.Bodies.{pdu_after}
use Rattle.snmp_outgoing.proofs.measured.MeasuredScopedPdu.octets_len.Goals as goal

pub returns : goal.returns
returns g c =
    let f = c.args.self.now.front in
    let pdu = pdu_text (pdu_after f (map g.B.Spelled.says c.args.self.now.bindings.now)) in
    c.element_len.ensures.size ∙ ap (λ (n : ℕ). head_size n + n) c.requires.content ∙ sym (scoped_text-size f.context_engine.now f.context_name.now pdu)

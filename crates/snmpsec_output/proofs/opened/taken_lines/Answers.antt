use Rattle.std.proofs.Common.{◌≡◌, ◌++◌, ◌∙◌, refl, rules}
use Rattle.std.specs.Prelude.{IfOk, string_bytes, codes}
use Rattle.std.proofs.lemmas.Result.{IfOk-weaker}
use Rattle.snmp_message.specs.Level.{level_of}
use Rattle.snmp_message.specs.Scoped.{contexts_of}
use Rattle.snmp_msg.specs.Pdu.{pdu_of}
use Rattle.usm_core.specs.Answers.{verified_of}
use Rattle.snmpsec_config.specs.Words.{level_word}
use Rattle.snmpsec_output.specs.Opening.{opened_lines}
use Rattle.snmpsec_output.proofs.opened.taken_lines.Goals as goal

pub returns : goal.returns
returns c =
    let v = verified_of c.args.checked.now in
    let s = contexts_of c.scoped-scoped.result in
    let p = pdu_of c.pdu-pdu.result in
    let printed : IfOk c.format.result (λ text. string_bytes text ≡ string_bytes c.in_ok-message.message
    ++ (codes "level " ++ (level_word (level_of v.parts.header) ++ (codes "\n" ++ string_bytes c.in_ok-scoped.scoped)))) = search rules in
    IfOk-weaker c.format.result _ _
    (λ text h. (
      opened_lines v s p,
      (record { contexts = s; is = c.scoped-scoped.ensures }, record { pdu = p; is = c.pdu-pdu.ensures.is_pdu _ c.scoped-scoped.ensures }, refl),
      λ none. h ∙ rw (c.in_ok-message.ensures none, c.in_ok-scoped.ensures none),
    )) printed

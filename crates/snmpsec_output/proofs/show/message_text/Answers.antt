use Rattle.std.proofs.Common.{◌≡◌, ◌++◌, ◌∙◌, refl, rules}
use Rattle.std.specs.Prelude.{string_bytes, codes}
use Rattle.hex.specs.Hex.{encode_lower}
use Rattle.snmp_msg.specs.Canonical.{whole_of, whole_text}
use Rattle.snmp_message.specs.declared.refused_at.RefusedAt.{RefusedAt}
use Rattle.snmp_msg.proofs.Canonicals.{refused_as}
use Rattle.snmpsec_output.specs.Show.{shown_text, RefusesShow}
use Rattle.snmpsec_output.specs.Lines.{IsUnnamed}
use Rattle.snmpsec_output.proofs.Shows.{write_refused}
use Rattle.snmpsec_output.proofs.show.message_text.Goals as goal

pub returns-in_err-spelling : goal.returns-in_err-spelling
returns-in_err-spelling c =
    let f = c.in_err-spelling.field-0.0 in
    let says = c.in_ok-layers.ensures.exact.1 in
    refused_as c.from_residual-in_err-spelling.result _ (λ (e : RefusedAt). RefusesShow c.args.datagram.now e.refusal) f c.from_residual-in_err-spelling.ensures.1
    (write_refused c.args.datagram.now (whole_of c.in_ok-layers.layers) f.refusal says c.in_err-spelling.ensures.refusal c.in_err-spelling.ensures.too_large)

pub returns : goal.returns
returns c =
    let text = string_bytes c.in_ok-text.text in
    let digits = encode_lower (whole_text (whole_of c.in_ok-layers.layers)) in
    let printed : text ≡ string_bytes c.in_ok-message.message ++ (string_bytes c.in_ok-contents.contents ++ (codes "canonical " ++ (digits ++ codes "\n"))) = search rules in
    let lines : IsUnnamed c.args.names (shown_text c.in_ok-layers.layers) text =
    λ none. printed ∙ rw (c.in_ok-message.ensures none, c.in_ok-contents.ensures none) refl in
    record { usm = c.in_ok-layers.ensures.exact.0; layers = c.in_ok-layers.layers; says = c.in_ok-layers.ensures.exact.1; lines = lines }

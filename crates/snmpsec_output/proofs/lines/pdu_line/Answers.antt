use Rattle.std.proofs.Common.{rules, ◌≡◌, ◌++◌, ◌∷◌, [], ◌∙◌}
use Rattle.std.specs.Prelude.{IfOk, string_bytes, codes}
use Rattle.std.specs.Fmt.{signed_decimal}
use Rattle.std.proofs.lemmas.Result.{IfOk-weaker}
use Rattle.hex.specs.Hex.{encode_lower}
use Rattle.snmp_msg.specs.Pdu.{pdu_of}
use Rattle.snmpsec_output.proofs.lines.pdu_line.Goals as goal

pub returns : goal.returns
returns c =
    let p = pdu_of c.args.pdu.now in
    let printed : IfOk c.format.result (λ text. string_bytes text ≡ codes "pdu " ++ (encode_lower (p.tag ∷ [])
    ++ (codes " " ++ (signed_decimal p.id ++ (codes " " ++ (signed_decimal p.second
    ++ (codes " " ++ (signed_decimal p.third ++ (string_bytes c.in_ok-note.note ++ codes "\n"))))))))) = search rules in
    IfOk-weaker c.format.result _ _ (λ text h none. h ∙ rw (c.in_ok-note.ensures none)) printed

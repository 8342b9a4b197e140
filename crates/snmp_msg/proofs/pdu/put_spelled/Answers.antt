use Rattle.std.proofs.Common.{◌≡◌, ◌++◌, List, ℕ, sym, ap, ◌∙◌, length, append_assoc}
use Rattle.std.specs.Prelude.{map}
use Rattle.snmp_msg.specs.Variables.{variables_text}
use Rattle.snmp_msg.specs.Pdu.{pdu_of, with_variables, pdu_text, pdu_front_text}
use Rattle.snmp_msg.proofs.Pdus.{pdu_text-with}
use Rattle.snmp_msg.proofs.pdu.put_spelled.Goals as goal

pub returns : goal.returns
returns g c =
    let p = pdu_of c.args.front.now in
    let vs = map g.B.Spelled.says c.args.bindings.now in
    let out = c.args.out.now.items in
    let front : c.put_pdu_front.new.out.items ≡ out ++ pdu_front_text p c.args.list_len = c.in_ok-put_pdu_front.ensures.ok in
    let all : c.put_bindings.new.out.items ≡ c.put_pdu_front.new.out.items ++ variables_text vs = c.in_ok-put_bindings.ensures.ok in
    let whole : c.put_bindings.new.out.items ≡ out ++ pdu_text (with_variables p vs) =
    all ∙ ap (λ (t : List ℕ). t ++ variables_text vs) (front ∙ ap (λ (n : ℕ). out ++ pdu_front_text p n) c.requires.list)
    ∙ append_assoc out (pdu_front_text p (length (variables_text vs))) (variables_text vs) ∙ ap (λ (t : List ℕ). out ++ t) (sym (pdu_text-with p vs)) in
    record { ok = whole }

use Rattle.std.proofs.Common.{◌++◌, List, ℕ, length, sym, ap, ◌∙◌, append_assoc}
use Rattle.snmp_msg.specs.Variables.{variables_of, variables_text}
use Rattle.snmp_msg.specs.Pdu.{pdu_of, pdu_front_text}
use Rattle.snmp_msg.proofs.Pdus.{pdu_text-with}
use Rattle.snmp_msg.proofs.whole.put_pdu.Goals as goal

pub returns : goal.returns
returns c =
    let p = pdu_of c.args.pdu.now in
    let vs = variables_of c.args.pdu.now.list.now in
    let front = c.in_ok-put_pdu_front.ensures.ok in
    let all = c.in_ok-put_list.ensures.ok in
    record { ok = all ∙ ap (λ (t : List ℕ). t ++ variables_text vs) (front ∙ ap (λ (n : ℕ). c.args.out.now.items ++ pdu_front_text p n) c.requires.size) ∙ append_assoc c.args.out.now.items (pdu_front_text p (length (variables_text vs))) (variables_text vs) ∙ ap (λ (t : List ℕ). c.args.out.now.items ++ t) (sym (pdu_text-with p vs)) }

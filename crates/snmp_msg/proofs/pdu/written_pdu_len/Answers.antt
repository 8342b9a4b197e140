use Rattle.std.proofs.Common.{◌≡◌, ◌+◌, sym, subst, arith, FitsSigned, w32}
use Rattle.std.proofs.lemmas.Int.{ints, to_z-of_z}
use Rattle.snmp_ber.specs.Spelling.{head_size}
use Rattle.snmp_msg.specs.Pdu.{PduParts, pdu_content_size}
use Rattle.snmp_msg.proofs.Pdus.{measured_pdu}
use Rattle.snmp_msg.proofs.pdu.written_pdu_len.Goals as goal

pub returns-clause-size : goal.returns-clause-size
returns-clause-size c = λ tag list size.
    let n = c.args.list_len in
    let id : FitsSigned w32 c.args.id = omega (arith, ints) in
    let second : FitsSigned w32 c.args.second = omega (arith, ints) in
    let third : FitsSigned w32 c.args.third = omega (arith, ints) in
    let measured = subst (λ (p : PduParts). c.pdu_len.result ≡ head_size (pdu_content_size p n) + pdu_content_size p n) c.bare_pdu.ensures c.pdu_len.ensures.size in
    let rounded = rw (to_z-of_z w32 c.args.id id, to_z-of_z w32 c.args.second second, to_z-of_z w32 c.args.third third) at measured in
    sym (measured_pdu (record { tag = tag; id = c.args.id; second = c.args.second; third = c.args.third; list = list }) n c.pdu_len.result (sym size) rounded)

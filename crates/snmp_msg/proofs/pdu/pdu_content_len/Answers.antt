use Rattle.std.proofs.Common.{rules, arith, FitsSigned, w32, ◌≡◌, length}
use Rattle.std.proofs.lemmas.Int.{to_z-of_z}
use Rattle.snmp_message.specs.Spelling.{signed}
use Rattle.snmp_msg.proofs.pdu.pdu_content_len.Goals as goal

pub returns-clause-size : goal.returns-clause-size
returns-clause-size c =
    let p = c.args.pdu.now in
    let f1 : FitsSigned w32 p.id = search rules in
    let f2 : FitsSigned w32 p.second = search rules in
    let f3 : FitsSigned w32 p.third = search rules in
    let first : c.integer_len.result ≡ length (signed p.id) = rw (to_z-of_z w32 p.id f1) at c.integer_len.ensures.size in
    let second : c.integer_len-2.result ≡ length (signed p.second) = rw (to_z-of_z w32 p.second f2) at c.integer_len-2.ensures.size in
    let third : c.integer_len-3.result ≡ length (signed p.third) = rw (to_z-of_z w32 p.third f3) at c.integer_len-3.ensures.size in
    let list = c.element_len.ensures.size in
    omega arith

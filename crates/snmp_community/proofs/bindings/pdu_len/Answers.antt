use Rattle.std.proofs.Common.{rules, FitsSigned, w32}
use Rattle.std.proofs.lemmas.Int.{to_z-of_z}
use Rattle.snmp_community.proofs.bindings.pdu_len.Goals as goal

pub returns-clause-size : goal.returns-clause-size
returns-clause-size c = λ list size.
    let front = c.args.front.now in
    let id : FitsSigned w32 front.id = search rules in
    let second : FitsSigned w32 front.second = search rules in
    let third : FitsSigned w32 front.third = search rules in
    rw (to_z-of_z w32 front.id id, to_z-of_z w32 front.second second, to_z-of_z w32 front.third third) at (c.written_pdu_len.ensures.size front.tag list size)

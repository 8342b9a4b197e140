use Rattle.std.proofs.Common.{refl, arith, FitsSigned, w32}
use Rattle.std.proofs.lemmas.Int.{ints, to_z-of_z}
use Rattle.snmp_msg.proofs.pdu.bare_pdu.Goals as goal

pub returns : goal.returns
returns c =
    let id : FitsSigned w32 c.args.id = omega (arith, ints) in
    let second : FitsSigned w32 c.args.second = omega (arith, ints) in
    let third : FitsSigned w32 c.args.third = omega (arith, ints) in
    rw (to_z-of_z w32 c.args.id id, to_z-of_z w32 c.args.second second, to_z-of_z w32 c.args.third third) refl

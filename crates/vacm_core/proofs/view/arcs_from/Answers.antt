use Rattle.std.proofs.Common.{arith, ap, length}
use Rattle.vacm_core.proofs.Exact.{shorter_from}
use Rattle.vacm_core.proofs.view.arcs_from.Goals as goal

pub returns-in-Some : goal.returns-in-Some
returns-in-Some c k d upto within =
    let h = shorter_from c.args.rows.now c.args.place c.in-Some.row.now c.requires c.in-Some.ensures.lookup.1 k d upto within in
    let e = ap length c.as_slice.ensures.value in
    omega arith

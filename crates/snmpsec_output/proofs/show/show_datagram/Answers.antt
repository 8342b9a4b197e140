use Rattle.std.proofs.Common.{inr}
use Rattle.snmpsec_output.proofs.Printed.{of_four}
use Rattle.snmpsec_output.proofs.show.show_datagram.Goals as goal

pub returns-in-Err : goal.returns-in-Err
returns-in-Err c =
    let e = c.refused_output.ensures in
    of_four c.refused_output.result
    (λ output no_memory out err status. inr (record { told = c.in-Err.refused; cause = c.in-Err.ensures; no_memory = no_memory; out = out; err = err; status = status }))
    e.no_memory e.line e.err e.status

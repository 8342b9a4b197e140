use Rattle.std.proofs.Common.{Option, inr, subst}
use Rattle.std.specs.Prelude.{IfSome}
use Rattle.snmp_message.specs.declared.refusal.Refusal.{Refusal}
use Rattle.usm_core.specs.Table.{refused}
use Rattle.snmp_incoming.proofs.Rows.{is_in_table}
use Rattle.snmpsec_output.specs.Opening.{OpensWith}
use Rattle.snmpsec_output.proofs.Printed.{of_four}
use Rattle.snmpsec_output.proofs.open.open_datagram.Goals as goal

pub returns-in-Err-clause-opens : goal.returns-in-Err-clause-opens
returns-in-Err-clause-opens c =
    let e = c.refused_output.ensures in
    let told = c.in-Err.fault in
    let opens = λ (o : Option Refusal). IfSome (refused o) (OpensWith c.args.names c.args.users.now.users c.args.datagram.now) in
    of_four c.refused_output.result
    (λ output no_memory out err status. inr (record { told = told; cause = subst opens (is_in_table told.refusal no_memory) c.in-Err.ensures.opens; out = out; err = err; status = status }))
    e.no_memory e.line e.err e.status

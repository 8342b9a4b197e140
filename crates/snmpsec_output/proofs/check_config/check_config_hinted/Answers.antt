use Rattle.std.proofs.Common.{inl, inr}
use Rattle.snmpsec_output.proofs.Printed.{of_three}
use Rattle.snmpsec_output.proofs.check_config.check_config_hinted.Goals as goal

pub returns-in-Ok : goal.returns-in-Ok
returns-in-Ok c =
    let e = c.counts_and_hints.ensures in
    of_three c.counts_and_hints.result (λ output some err status. inl (record { users = _; rows = _; says = c.in-Ok.ensures.says; some = some; err = err; status = status }))
    e.some e.err e.status

pub returns-in-Err-2 : goal.returns-in-Err-2
returns-in-Err-2 c =
    let e = c.refusal_and_why.ensures in
    of_three c.refusal_and_why.result (λ output out err status. inr (record { fault = c.in-Err.fault; told = record { cause = c.in-Err.ensures.refuses; no_memory = c.if-is_memory.ensures }; out = out; why = err.0; err = err.1; status = status }))
    e.out e.err e.status

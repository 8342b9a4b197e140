use Rattle.std.proofs.Common.{inr}
use Rattle.vacm_core.specs.Tables.{tables_of}
use Rattle.vacm_core.proofs.Uniqueness.{one_row_each}
use Rattle.snmpsec_output.proofs.Printed.{of_two}
use Rattle.snmpsec_output.proofs.sees.sees_text.Goals as goal

pub list_seen-requires-clause-one_each : goal.list_seen-requires-clause-one_each
list_seen-requires-clause-one_each c = one_row_each (tables_of c.in-Ok.config.rows.access) c.in-Ok.ensures.says.sound_rows

pub returns-in-Ok : goal.returns-in-Ok
returns-in-Ok c =
    let e = c.list_seen.ensures in
    let found = c.in-Some.ensures.found in
    rw (← c.as_bytes.ensures.value) (of_two c.list_seen.result (λ output seen err. inr (
      _,
      record { some = found.0; most = found.1; text = found.2 },
      inr (record { users = _; rows = _; says = c.in-Ok.ensures.says; decisions = seen.0; are = seen.1; err = err; status = seen.2 }),
    ))
    e.seen e.err)

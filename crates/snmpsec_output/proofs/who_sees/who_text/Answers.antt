use Rattle.std.proofs.Common.{inr}
use Rattle.vacm_core.specs.Tables.{tables_of}
use Rattle.vacm_core.proofs.Uniqueness.{one_row_each}
use Rattle.snmpsec_output.proofs.Printed.{of_two}
use Rattle.snmpsec_output.proofs.who_sees.who_text.Goals as goal

pub list_askers-requires-clause-answers : goal.list_askers-requires-clause-answers
list_askers-requires-clause-answers c = record {
  decides = c.in-Ok-read.ensures.decides;
  one_row_each = one_row_each (tables_of c.in-Ok-read.config.rows.access) c.in-Ok-read.ensures.says.sound_rows;
}

pub returns-in-Ok-read : goal.returns-in-Ok-read
returns-in-Ok-read c =
    let e = c.list_askers.ensures in
    of_two c.list_askers.result (λ output listed err. inr (
      _,
      _,
      c.in-Ok.ensures.asks,
      inr (record { users = _; rows = _; says = c.in-Ok-read.ensures.says; seeing = listed.0; are = listed.1; none = listed.2; err = err; status = listed.3 }),
    ))
    e.listed e.err

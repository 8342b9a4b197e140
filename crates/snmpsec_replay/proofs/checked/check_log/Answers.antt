use Rattle.std.proofs.Common.{sym, ◌∙◌, arith, ◌∷◌, []}
use Rattle.std.proofs.lemmas.Bool.{cases_eq}
use Rattle.std.proofs.lemmas.Result.{err_from_is_err_and}
use Rattle.snmpsec_replay.specs.Replay.{from_line_1}
use Rattle.snmpsec_replay.proofs.Replays.{bad_number, octet_given}
use Rattle.snmpsec_replay.proofs.Checks.{goes_on, ends, stops, no_entry}
use Rattle.snmpsec_replay.proofs.checked.check_log.Goals as goal

pub loop-taken-preserved : goal.loop-taken-preserved
loop-taken-preserved g c =
    let got = rw c.in-Entry.is at c.in_ok-next_entry.ensures.ok in
    record {
      stands = goes_on _ _ c.loop-taken.taken c.loop-taken.invariant.stands _ got.0 _ (omega (arith, c.loop-taken-test.true)) got.1 got.3 got.4;
      room = c.next_entry.ensures.capacity;
    }

pub returns-then-is_some-clause-ok : goal.returns-then-is_some-clause-ok
returns-then-is_some-clause-ok g c =
    let got = octet_given _ _ c.in-Ok-read_octet.next (sym c.is_some.ensures ∙ c.if-is_some.true) c.in-Ok-read_octet.ensures.ok in
    ends _ _ c.loop-taken.taken c.loop-taken.invariant.stands _ _ (got.0 ∷ []) got.1 (λ es n. bad_number from_line_1 _ _ got.0 (cases_eq got.0 10) (omega (arith)) es n)

pub returns-in_err-next_entry-clause-err : goal.returns-in_err-next_entry-clause-err
returns-in_err-next_entry-clause-err g c =
    let p = err_from_is_err_and c.from_residual.result c.from_residual.ensures.1 in
    rw (p.1, p.2) (stops _ _ c.loop-taken.taken c.loop-taken.invariant.stands _ c.in_err-next_entry.field-0.0 c.in_err-next_entry.ensures.err)

pub returns-in-Faulty-clause-ok : goal.returns-in-Faulty-clause-ok
returns-in-Faulty-clause-ok g c =
    let got = rw c.in-Faulty.is at c.in_ok-next_entry.ensures.ok in
    ends _ _ c.loop-taken.taken c.loop-taken.invariant.stands _ _ got.0 got.1 (λ es n. no_entry _ c.loop-taken.taken got.0 got.2 es n)

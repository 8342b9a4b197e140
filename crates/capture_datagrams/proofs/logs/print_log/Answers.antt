use Rattle.std.proofs.Common.{◌≡◌, [], arith, refl}
use Rattle.std.proofs.KnownBytes.{Consumes-nil}
use Rattle.std.proofs.lemmas.Result.{IfOk-weaker, IfErr-weaker}
use Rattle.capture_datagrams.proofs.LogEntries.{starts, stands_at, ends, ends_numbered, line_refused, entry_stops, refusal_stops, prints_entry, writes_as, stops_as}
use Rattle.capture_datagrams.proofs.logs.print_log.Goals as goal

pub returns-in_default-clause-err : goal.returns-in_default-clause-err
returns-in_default-clause-err g c = (_, _, stands_at (starts _ _ _ _) _ (λ count part. part ≡ []) [] (Consumes-nil _) (λ count n. refl))

pub returns-in-Ok-End-clause-ok : goal.returns-in-Ok-End-clause-ok
returns-in-Ok-End-clause-ok g c =
    let got = rw c.in-Ok-End.field-0-is at c.in-Ok-End.ensures.ok in ends c.loop-number.invariant.stands _ _ got.0 got.1 c.status_of.ensures

pub returns-in-Ok-Faulty-clause-ok : goal.returns-in-Ok-Faulty-clause-ok
returns-in-Ok-Faulty-clause-ok g c =
    let got = rw c.in-Ok-Faulty.field-0-is at c.in-Ok-Faulty.ensures.ok in
    IfOk-weaker _ _ _ (λ status wrote. line_refused c.loop-number.invariant.stands _ _ _ got.0 status got.1 got.2 wrote) c.refuse.ensures.ok

pub returns-in-Ok-Faulty-clause-err : goal.returns-in-Ok-Faulty-clause-err
returns-in-Ok-Faulty-clause-err g c =
    let got = rw c.in-Ok-Faulty.field-0-is at c.in-Ok-Faulty.ensures.ok in
    IfErr-weaker _ _ _ (λ fault stops. refusal_stops c.args.name.now c.loop-number.invariant.stands _ _ _ got.0 fault got.1 got.2 stops) c.refuse.ensures.err

pub returns-in-Err-CannotRead-clause-err : goal.returns-in-Err-CannotRead-clause-err
returns-in-Err-CannotRead-clause-err g c =
    let p = rw c.in-Err-CannotRead.field-0-is at c.in-Err-CannotRead.ensures.err in (_, stands_at c.loop-number.invariant.stands _ _ p.0 p.2 (λ count n. p.1))

pub returns-in-Err : goal.returns-in-Err
returns-in-Err g c = record {
  ok = tt;
  err = (_, _, stands_at c.loop-number.invariant.stands _ (λ count part. part ≡ []) [] (Consumes-nil _) (λ count n. refl));
}

pub returns-in-Err-print_entry-clause-err : goal.returns-in-Err-print_entry-clause-err
returns-in-Err-print_entry-clause-err g c =
    let got = rw c.in-Ok-Entry.field-0-is at c.in-Ok-Entry.ensures.ok in
    entry_stops c.args.name.now c.loop-number.invariant.stands _ _ got.0 _ c.in-Err-print_entry.fault got.1 got.3 got.4
    (stops_as _ _ _ _ _ _ _ c.loop-number.invariant.keeps c.in-Err-print_entry.ensures.err)

pub loop-number-preserved : goal.loop-number-preserved
loop-number-preserved g c =
    let got = rw c.in-Ok-Entry.field-0-is at c.in-Ok-Entry.ensures.ok in
    record {
      stands = prints_entry c.loop-number.invariant.stands _ _ got.0 _ c.in-Ok-print_entry.tells _ got.1 got.3 got.4
          (writes_as _ _ _ _ _ _ _ c.loop-number.invariant.keeps c.in-Ok-print_entry.ensures.ok) c.either-refused.ensures;
      keeps = λ n moment datagram text refused p. c.loop-number.invariant.keeps n moment datagram text refused (c.in-Ok-print_entry.ensures.keeps n moment datagram text refused p);
      room = c.in-Ok-Entry.ensures.capacity;
    }

pub returns-clause-ok : goal.returns-clause-ok
returns-clause-ok g c = ends_numbered c.loop-number.invariant.stands _ (omega (arith, c.loop-number-test.false)) c.status_of-2.ensures

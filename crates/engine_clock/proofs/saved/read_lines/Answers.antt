use Rattle.std.proofs.Common.{refl, arith}
use Rattle.engine_clock.proofs.SavedTexts.{none_read, one_turn, not_above, not_empty, on_ok, all_read, given_back, first_fault, len-empty_marks, heading_long, entry_well}
use Rattle.engine_clock.proofs.saved.read_lines.Goals as goal

pub loop-rest-init : goal.loop-rest-init
loop-rest-init c =
    let long = heading_long c.args.form c.args.text.now c.args.rest.now c.requires in
    rw c.new-clocks.ensures record {
      so_far = none_read c.args.form c.args.text.now c.args.rest.now c.requires;
      number = rw len-empty_marks refl;
      bound = omega arith;
    }

pub returns-in_default-clause-all : goal.returns-in_default-clause-all
returns-in_default-clause-all c = λ marks listed.
    let so_far = c.loop-rest.invariant.so_far in
    (first_fault c.args.form c.args.text.now c.loop-rest.rest.now c.loop-rest.clocks so_far.fits so_far.read (not_empty c.loop-rest.rest.now c.loop-rest-test.ensures)
    (λ w. c.in_default.ensures.none w.0 w.3.0 w.1 w.3.1)).whole marks listed.0 listed.1

pub returns-in_default-clause-fault : goal.returns-in_default-clause-fault
returns-in_default-clause-fault c =
    let so_far = c.loop-rest.invariant.so_far in
    rw c.loop-rest.invariant.number (first_fault c.args.form c.args.text.now c.loop-rest.rest.now c.loop-rest.clocks so_far.fits so_far.read (not_empty c.loop-rest.rest.now c.loop-rest-test.ensures)
    (λ w. c.in_default.ensures.none w.0 w.3.0 w.1 w.3.1))

pub returns-then-not-all_below-clause-all : goal.returns-then-not-all_below-clause-all
returns-then-not-all_below-clause-all c = λ marks listed.
    let so_far = c.loop-rest.invariant.so_far in
    let read = c.in-Some in
    (first_fault c.args.form c.args.text.now c.loop-rest.rest.now c.loop-rest.clocks so_far.fits so_far.read (not_empty c.loop-rest.rest.now c.loop-rest-test.ensures)
    (not_above c.args.form c.loop-rest.clocks c.loop-rest.rest.now read.after.now (read.engine, read.mark) read.ensures.entry read.ensures.found c.if-not-all_below.ensures)).whole marks listed.0 listed.1

pub returns-then-not-all_below-clause-fault : goal.returns-then-not-all_below-clause-fault
returns-then-not-all_below-clause-fault c =
    let so_far = c.loop-rest.invariant.so_far in
    let read = c.in-Some in
    rw c.loop-rest.invariant.number (first_fault c.args.form c.args.text.now c.loop-rest.rest.now c.loop-rest.clocks so_far.fits so_far.read (not_empty c.loop-rest.rest.now c.loop-rest-test.ensures)
    (not_above c.args.form c.loop-rest.clocks c.loop-rest.rest.now read.after.now (read.engine, read.mark) read.ensures.entry read.ensures.found c.if-not-all_below.ensures))

pub returns-then-is_err-clause-fault : goal.returns-then-is_err-clause-fault
returns-then-is_err-clause-fault c =
    let read = c.in-Some in
    entry_well c.args.form c.args.text.now c.loop-rest.rest.now read.after.now c.loop-rest.clocks (read.engine, read.mark) c.loop-rest.invariant.so_far
    read.ensures.entry c.if-not-all_below.ensures read.ensures.found

pub loop-rest-preserved : goal.loop-rest-preserved
loop-rest-preserved c =
    let kept = c.loop-rest.invariant in
    let read = c.in-Some in
    one_turn c.args.form c.args.text.now c.loop-rest.rest.now read.after.now c.loop-rest.clocks c.join_in.new.self (read.engine, read.mark) c.loop-rest.line
    kept.so_far kept.number kept.bound read.ensures.entry c.if-not-all_below.ensures read.ensures.found (on_ok c.join_in.result c.if-is_err.ensures.negation c.join_in.ensures.ok)

pub returns-clause-all : goal.returns-clause-all
returns-clause-all c = λ p listed. given_back c.args.form c.args.text.now c.loop-rest.rest.now c.loop-rest.clocks p c.loop-rest.invariant.so_far c.loop-rest-test.ensures listed

pub returns-clause-read : goal.returns-clause-read
returns-clause-read c = all_read c.args.form c.args.text.now c.loop-rest.rest.now c.loop-rest.clocks c.loop-rest.invariant.so_far c.loop-rest-test.ensures

use Rattle.std.proofs.Common.{◌∙◌, arith, refl, inr}
use Rattle.std.proofs.lemmas.Result.{err_from_is_err_and}
use Rattle.capture_files.proofs.Logs.{starts, reads_part, reads_item, stops_item, stops_reading, next_number, writes_as, stops_as}
use Rattle.capture_files.proofs.Counts.{starts_below, below_next}
use Rattle.capture_files.proofs.datagrams.write_items.Goals as goal

pub loop-place-init : goal.loop-place-init
loop-place-init g c =
    let near = c.requires.near in
    record {
      stands = starts _ _ _ _ _ _ _ _ _ c.requires.none refl;
      keeps = λ n moment datagram text refused prints. prints;
      below = starts_below _ c.requires.none;
      near = omega arith;
      most = omega (arith, near);
      room = c.as_mut_slice-room.ensures.len ∙ c.requires.room;
    }

pub returns-in_err-item-clause-err : goal.returns-in_err-item-clause-err
returns-in_err-item-clause-err g c =
    let p = err_from_is_err_and c.from_residual.result c.from_residual.ensures.1 in
    rw (p.1, p.2) (stops_reading c.loop-place.invariant.stands _ c.in_err-item.field-0.0 c.in_err-item.ensures.err)

pub returns-in-OutOfForm-clause-err : goal.returns-in-OutOfForm-clause-err
returns-in-OutOfForm-clause-err g c =
    let got = rw c.in-OutOfForm.is at c.in_ok-item.ensures.ok in
    (_, reads_part c.loop-place.invariant.stands _ _ got.part got.consumed (λ count read at. (at, inr (got.some, got.none))))

pub returns-in_err-number-clause-err : goal.returns-in_err-number-clause-err
returns-in_err-number-clause-err g c =
    let p = err_from_is_err_and c.from_residual-in_err-number.result c.from_residual-in_err-number.ensures.1 in
    let got = rw c.in-Item.is at c.in_ok-item.ensures.ok in
    rw (p.1, p.2) (stops_item c.loop-place.invariant.stands _ _ _ got.octets _ _ got.is_item got.consumed c.in_err-number.field-0.0
    (stops_as _ _ _ _ _ _ _ _ _ _ c.in_err-number.field-0.0 c.loop-place.invariant.keeps c.in_err-number.ensures.err))

pub loop-place-preserved : goal.loop-place-preserved
loop-place-preserved g c =
    let got = rw c.in-Item.is at c.in_ok-item.ensures.ok in
    let size = got.size in
    let least = got.least in
    let most = got.most in
    let near = c.loop-place.invariant.near in
    let next = next_number _ _ _ _ _ _ _ _ _ _ _ c.in_ok-number.ensures.ok in
    record {
      stands = reads_item c.loop-place.invariant.stands _ _ _ got.octets _ _ _ _ _ got.is_item got.consumed (writes_as _ _ _ _ _ _ _ _ _ _ _ _ c.loop-place.invariant.keeps c.in_ok-number.ensures.ok) (omega (arith, size));
      keeps = λ n moment datagram text refused prints. c.loop-place.invariant.keeps n moment datagram text refused (c.write_item.ensures.keeps n moment datagram text refused prints);
      below = below_next _ _ _ _ _ _ _ _ _ _ _ c.in_ok-number.ensures.ok c.loop-place.invariant.below;
      near = omega (arith, near, least, next);
      most = omega (arith, most, c.loop-place-test.true);
      room = c.read_item.ensures.room;
    }

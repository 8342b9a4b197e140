use Rattle.std.proofs.Common.{arith}
use Rattle.snmp_ber.proofs.Cuts.{none_not_some}
use Rattle.engine_clock.proofs.Lines.{no_time, no_seen, seen_is, no_old_time}
use Rattle.engine_clock.proofs.saved.read_tail.Goals as goal

pub returns-in_err-time-in-WithMoments-clause-none : goal.returns-in_err-time-in-WithMoments-clause-none
returns-in_err-time-in-WithMoments-clause-none c =
    rw c.from_residual.ensures (λ time seen rest tail. no_time c.args.form c.args.text.now time seen rest tail c.in-WithMoments.is c.in_err-time-in-WithMoments.ensures.none)

pub returns-in_err-seen-in-WithMoments-clause-none : goal.returns-in_err-seen-in-WithMoments-clause-none
returns-in_err-seen-in-WithMoments-clause-none c =
    rw c.from_residual-in_err-seen-in-WithMoments.ensures (λ time seen rest tail.
    no_seen c.args.form c.args.text.now time seen rest tail _ _ c.in-WithMoments.is c.in_ok-time-in-WithMoments.ensures.found c.in_err-seen-in-WithMoments.ensures.none)

pub returns-in_err-read_decimal-in-WithMoments-clause-none : goal.returns-in_err-read_decimal-in-WithMoments-clause-none
returns-in_err-read_decimal-in-WithMoments-clause-none c =
    rw c.from_residual-in_err-read_decimal-in-WithMoments.ensures (λ time seen rest tail.
    let is = seen_is c.args.form c.args.text.now time seen rest tail _ _ _ _ c.in-WithMoments.is c.in_ok-time-in-WithMoments.ensures.found c.in_ok-seen-in-WithMoments.ensures.found in
    none_not_some _ (c.in_err-read_decimal-in-WithMoments.ensures.all seen (omega (arith, is.0), is.1)))

pub returns-in_err-time-in-ReadAt-clause-none : goal.returns-in_err-time-in-ReadAt-clause-none
returns-in_err-time-in-ReadAt-clause-none c =
    rw c.from_residual-in_err-time-in-ReadAt.ensures (λ time seen rest tail.
    no_old_time c.args.form c.args.text.now time seen rest tail c.in-ReadAt.now c.in-ReadAt.is c.in_err-time-in-ReadAt.ensures.none)

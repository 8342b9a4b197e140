use Rattle.std.proofs.Common.{inl, inr, arith, None}
use Rattle.std.proofs.KnownBytes.{Keeps-refl}
use Rattle.std.proofs.lemmas.Result.{IfOk-weaker, IfErr-weaker, err_from_is_err_and}
use Rattle.capture_files.proofs.Logs.{whole_log}
use Rattle.capture_files.proofs.datagrams.print_datagrams_behind.Goals as goal

pub returns-in_default-clause-err : goal.returns-in_default-clause-err
returns-in_default-clause-err g c unread read =
    let short = c.requires.short in
    inl (record { reads = record { part = c.args.front.now; most = omega (arith, short); consumed = read; stops = tt }; wrote = Keeps-refl _; tells = Keeps-refl _ })

pub returns-in_default-none-clause-err : goal.returns-in_default-none-clause-err
returns-in_default-none-clause-err g c unread read =
    let short = c.requires.short in
    inl (record { reads = record { part = c.args.front.now; most = omega (arith, short); consumed = read; stops = tt }; wrote = Keeps-refl _; tells = Keeps-refl _ })

pub returns-in_err-begun-clause-err : goal.returns-in_err-begun-clause-err
returns-in_err-begun-clause-err g c unread read =
    let p = err_from_is_err_and c.from_residual.result c.from_residual.ensures.1 in
    rw (p.1, p.2) (inl (record { reads = c.in_err-begun.ensures.err unread read; wrote = Keeps-refl _; tells = Keeps-refl _ }))

pub write_items-requires-clause-near : goal.write_items-requires-clause-near
write_items-requires-clause-near g c = (c.in_ok-begun.ensures.ok None tt).most

pub returns-clause-ok : goal.returns-clause-ok
returns-clause-ok g c unread read =
    IfOk-weaker c.write_items.result _ _ (λ passed w. whole_log _ _ _ _ _ _ _ _ _ _ _ _ (c.in_ok-begun.ensures.ok unread read) w) c.write_items.ensures.ok

pub returns-clause-err : goal.returns-clause-err
returns-clause-err g c unread read =
    IfErr-weaker c.write_items.result _ _ (λ f h. inr (record { state = _; begin = _; behind = _; begun = c.in_ok-begun.ensures.ok unread read; stops = h })) c.write_items.ensures.err

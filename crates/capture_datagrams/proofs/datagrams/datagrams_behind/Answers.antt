use Rattle.std.proofs.Common.{rules, ◌≡◌, inl, inr, refl}
use Rattle.capture_datagrams.specs.Datagrams.{status_of}
use Rattle.capture_datagrams.proofs.Tellings.{tells_beside, tells_in_log, lost_beside, lost_in_log}
use Rattle.capture_datagrams.proofs.datagrams.datagrams_behind.Goals as goal

pub returns-in-Ok-tell_passed-clause-ok : goal.returns-in-Ok-tell_passed-clause-ok
returns-in-Ok-tell_passed-clause-ok g c unread read =
    let tells = c.in-Ok-tell_passed.ensures.ok in
    let status : c.from.result ≡ status_of c.in-Ok.passed.refused = search rules in
    tells_beside _ _ _ _ _ _ tells.0 (inl (_, status, record { log_is = c.in-Ok.ensures.ok unread read }, refl, tells.1)) tells.2

pub returns-in-Ok-clause-err : goal.returns-in-Ok-clause-err
returns-in-Ok-clause-err g c unread read =
    lost_beside _ _ _ _ _ _ c.in-Err.fault (record { log_is = c.in-Ok.ensures.ok unread read }) c.in-Err.ensures.err

pub returns-in-Ok-refuse-clause-ok : goal.returns-in-Ok-refuse-clause-ok
returns-in-Ok-refuse-clause-ok g c unread read =
    let stops = rw c.in-Err-Octet.field-0-is at (c.in-Err-Octet.ensures.err unread read) in
    tells_in_log _ _ _ _ _ _ _ (inr (refl, c.in-Err-Octet.place, stops, refl, refl)) c.in-Ok-refuse.ensures.ok

pub returns-in-Err-Octet-clause-err : goal.returns-in-Err-Octet-clause-err
returns-in-Err-Octet-clause-err g c unread read =
    let stops = rw c.in-Err-Octet.field-0-is at (c.in-Err-Octet.ensures.err unread read) in
    lost_in_log _ _ _ _ _ _ c.in-Err-refuse.fault stops c.in-Err-refuse.ensures.err

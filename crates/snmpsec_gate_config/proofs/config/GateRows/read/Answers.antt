use Rattle.std.proofs.lemmas.Result.{err_from_is_err_and}
use Rattle.snmpsec_gate_config.proofs.Refused.{user_told, access_told, unfit_told}
use Rattle.snmpsec_gate_config.proofs.config.GateRows.read.Goals as goal

pub returns-in_err-check-clause-refuses : goal.returns-in_err-check-clause-refuses
returns-in_err-check-clause-refuses c =
    let p = err_from_is_err_and c.from_residual-in_err-check.result c.from_residual-in_err-check.ensures.1 in
    let told = rw c.deref.ensures.value at c.in_err-check.ensures.told in
    rw (p.1, p.2) (user_told c.args.text.now _ _ _ _ _ c.in_ok-said.ensures.says _ told)

pub returns-in_err-load-clause-refuses : goal.returns-in_err-load-clause-refuses
returns-in_err-load-clause-refuses c =
    let p = err_from_is_err_and c.from_residual-in_err-load.result c.from_residual-in_err-load.ensures.1 in
    let sound = rw c.deref.ensures.value at c.in_ok-check.ensures.sound in
    rw (p.1, p.2) (access_told c.args.text.now _ _ _ _ _ c.in_ok-said.ensures.says sound _ c.in_err-load.ensures.told)

pub returns-in_err-check_receivers-clause-refuses : goal.returns-in_err-check_receivers-clause-refuses
returns-in_err-check_receivers-clause-refuses c =
    let p = err_from_is_err_and c.from_residual-in_err-check_receivers.result c.from_residual-in_err-check_receivers.ensures.1 in
    let first = rw (c.deref-2.ensures.value, c.deref-3.ensures.value) at c.in_err-check_receivers.ensures.unfit in
    let sound = rw c.deref.ensures.value at c.in_ok-check.ensures.sound in
    rw (p.1, p.2) (unfit_told c.args.text.now _ _ _ _ _ c.in_ok-said.ensures.says sound c.in_ok-load.ensures.sound _ _ first)

pub returns-clause-says : goal.returns-clause-says
returns-clause-says c =
    record { says = c.in_ok-said.ensures.says; sound_users = rw c.deref.ensures.value at c.in_ok-check.ensures.sound; sound_rows = c.in_ok-load.ensures.sound; sound_receivers = rw (c.deref-2.ensures.value, c.deref-3.ensures.value) at c.in_ok-check_receivers.ensures.ok }

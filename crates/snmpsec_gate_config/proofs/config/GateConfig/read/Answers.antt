use Rattle.std.proofs.lemmas.Result.{err_from_is_err_and}
use Rattle.vacm_core.specs.Tables.{tables_of}
use Rattle.snmpsec_gate_config.proofs.Contexts.{own_contexts}
use Rattle.snmpsec_gate_config.proofs.Refused.{user_told, access_told, unfit_told}
use Rattle.snmpsec_gate_config.proofs.config.GateConfig.read.Goals as goal

pub returns-in_err-users-clause-refuses : goal.returns-in_err-users-clause-refuses
returns-in_err-users-clause-refuses c =
    let p = err_from_is_err_and c.from_residual-in_err-users.result c.from_residual-in_err-users.ensures.1 in
    let told = rw c.deref.ensures.value at c.in_err-users.ensures.told in
    rw (p.1, p.2) (user_told c.args.text.now _ _ _ _ _ c.in_ok-gate.ensures.says _ told)

pub returns-in_err-access-clause-refuses : goal.returns-in_err-access-clause-refuses
returns-in_err-access-clause-refuses c =
    let p = err_from_is_err_and c.from_residual-in_err-access.result c.from_residual-in_err-access.ensures.1 in
    let sound = rw c.deref.ensures.value at c.in_ok-users.ensures.sound in
    rw (p.1, p.2) (access_told c.args.text.now _ _ _ _ _ c.in_ok-gate.ensures.says sound _ c.in_err-access.ensures.told)

pub returns-in_err-check_receivers-clause-refuses : goal.returns-in_err-check_receivers-clause-refuses
returns-in_err-check_receivers-clause-refuses c =
    let p = err_from_is_err_and c.from_residual-in_err-check_receivers.result c.from_residual-in_err-check_receivers.ensures.1 in
    let first = rw (c.deref-2.ensures.value, c.deref-3.ensures.value) at c.in_err-check_receivers.ensures.unfit in
    let sound = rw c.deref.ensures.value at c.in_ok-users.ensures.sound in
    rw (p.1, p.2) (unfit_told c.args.text.now _ _ _ _ _ c.in_ok-gate.ensures.says sound c.in_ok-access.ensures.sound _ _ first)

pub returns-clause-loads : goal.returns-clause-loads
returns-clause-loads c =
    let sound = rw c.deref.ensures.value at c.in_ok-users.ensures.sound in
    let same = rw c.deref.ensures.value at c.in_ok-users.ensures.users in
    record {
      users = c.in_ok-gate.field-0.rows.users.items;
      rows = tables_of c.in_ok-gate.field-0.rows.access;
      sound = record { says = c.in_ok-gate.ensures.says; sound_users = sound; sound_rows = c.in_ok-access.ensures.sound; sound_receivers = rw (c.deref-2.ensures.value, c.deref-3.ensures.value) at c.in_ok-check_receivers.ensures.ok };
      same_users = same;
      same_rows = c.in_ok-access.ensures.same_rows;
    }

pub returns-clause-own_contexts : goal.returns-clause-own_contexts
returns-clause-own_contexts c = own_contexts _ _ c.in_ok-gate.ensures.says.stands.config_rows.contexts c.in_ok-access.ensures.sound

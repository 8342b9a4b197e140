use Rattle.std.proofs.Common.{inl, inr, refl}
use Rattle.std.proofs.lemmas.Result.{err_from_is_err_and}
use Rattle.toml.specs.View.{table_view}
use Rattle.snmpsec_gate_config.specs.declared.table.GateKey.TheVariants as keys
use Rattle.snmpsec_gate_config.specs.declared.table.LimitKey.TheVariants as limits
use Rattle.snmpsec_gate_config.proofs.Told.{device_limit_keys, right_limit, wrong_limit, first_fault}
use Rattle.snmpsec_gate_config.proofs.device.device_limits.Goals as goal

pub returns-in_err-repetitions-clause-fault : goal.returns-in_err-repetitions-clause-fault
returns-in_err-repetitions-clause-fault c =
    let p = err_from_is_err_and c.from_residual.result c.from_residual.ensures.1 in
    let f = c.in_err-repetitions.ensures.fault in
    rw (p.1, p.2) (first_fault (table_view c.args.row.now) device_limit_keys _ (keys.Limit limits.Repetitions) f.0 (inl (refl, wrong_limit _ _ f.1)))

pub returns-in_err-max_size-clause-fault : goal.returns-in_err-max_size-clause-fault
returns-in_err-max_size-clause-fault c =
    let p = err_from_is_err_and c.from_residual-in_err-max_size.result c.from_residual-in_err-max_size.ensures.1 in
    let f = c.in_err-max_size.ensures.fault in
    rw (p.1, p.2) (first_fault (table_view c.args.row.now) device_limit_keys _ (keys.Limit limits.MaxSize) f.0 (inr (right_limit _ _ _ c.in_ok-repetitions.ensures.ok, inl (refl, wrong_limit _ _ f.1))))

pub returns-in_err-at_once-clause-fault : goal.returns-in_err-at_once-clause-fault
returns-in_err-at_once-clause-fault c =
    let p = err_from_is_err_and c.from_residual-in_err-at_once.result c.from_residual-in_err-at_once.ensures.1 in
    let f = c.in_err-at_once.ensures.fault in
    rw (p.1, p.2) (first_fault (table_view c.args.row.now) device_limit_keys _ (keys.Limit limits.AtOnce) f.0 (inr (right_limit _ _ _ c.in_ok-repetitions.ensures.ok, inr (right_limit _ _ _ c.in_ok-max_size.ensures.ok, inl (refl, wrong_limit _ _ f.1)))))

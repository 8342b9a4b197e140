use Rattle.std.proofs.Common.{inl, inr, refl}
use Rattle.std.proofs.lemmas.Result.{err_from_is_err_and}
use Rattle.toml.specs.View.{table_view}
use Rattle.snmpsec_gate_config.specs.declared.table.GateKey.TheVariants as keys
use Rattle.snmpsec_gate_config.specs.declared.table.LimitKey.TheVariants as limits
use Rattle.snmpsec_gate_config.proofs.Told.{gate_limit_keys, right_limit, wrong_limit, first_fault}
use Rattle.snmpsec_gate_config.proofs.gate.gate_limits.Goals as goal

pub returns-in_err-waiting-clause-fault : goal.returns-in_err-waiting-clause-fault
returns-in_err-waiting-clause-fault c =
    let p = err_from_is_err_and c.from_residual.result c.from_residual.ensures.1 in
    let f = c.in_err-waiting.ensures.fault in
    rw (p.1, p.2) (first_fault (table_view c.args.row.now) gate_limit_keys _ (keys.Limit limits.Waiting) f.0 (inl (refl, wrong_limit _ _ f.1)))

pub returns-in_err-rounds-clause-fault : goal.returns-in_err-rounds-clause-fault
returns-in_err-rounds-clause-fault c =
    let p = err_from_is_err_and c.from_residual-in_err-rounds.result c.from_residual-in_err-rounds.ensures.1 in
    let f = c.in_err-rounds.ensures.fault in
    rw (p.1, p.2) (first_fault (table_view c.args.row.now) gate_limit_keys _ (keys.Limit limits.Rounds) f.0 (inr (right_limit _ _ _ c.in_ok-waiting.ensures.ok, inl (refl, wrong_limit _ _ f.1))))

pub returns-in_err-again-clause-fault : goal.returns-in_err-again-clause-fault
returns-in_err-again-clause-fault c =
    let p = err_from_is_err_and c.from_residual-in_err-again.result c.from_residual-in_err-again.ensures.1 in
    let f = c.in_err-again.ensures.fault in
    rw (p.1, p.2) (first_fault (table_view c.args.row.now) gate_limit_keys _ (keys.Limit limits.Again) f.0 (inr (right_limit _ _ _ c.in_ok-waiting.ensures.ok, inr (right_limit _ _ _ c.in_ok-rounds.ensures.ok, inl (refl, wrong_limit _ _ f.1)))))

pub returns-in_err-tries-clause-fault : goal.returns-in_err-tries-clause-fault
returns-in_err-tries-clause-fault c =
    let p = err_from_is_err_and c.from_residual-in_err-tries.result c.from_residual-in_err-tries.ensures.1 in
    let f = c.in_err-tries.ensures.fault in
    rw (p.1, p.2) (first_fault (table_view c.args.row.now) gate_limit_keys _ (keys.Limit limits.Tries) f.0 (inr (right_limit _ _ _ c.in_ok-waiting.ensures.ok, inr (right_limit _ _ _ c.in_ok-rounds.ensures.ok, inr (right_limit _ _ _ c.in_ok-again.ensures.ok, inl (refl, wrong_limit _ _ f.1))))))

pub returns-in_err-last-clause-fault : goal.returns-in_err-last-clause-fault
returns-in_err-last-clause-fault c =
    let p = err_from_is_err_and c.from_residual-in_err-last.result c.from_residual-in_err-last.ensures.1 in
    let f = c.in_err-last.ensures.fault in
    rw (p.1, p.2) (first_fault (table_view c.args.row.now) gate_limit_keys _ (keys.Limit limits.Last) f.0 (inr (right_limit _ _ _ c.in_ok-waiting.ensures.ok, inr (right_limit _ _ _ c.in_ok-rounds.ensures.ok, inr (right_limit _ _ _ c.in_ok-again.ensures.ok, inr (right_limit _ _ _ c.in_ok-tries.ensures.ok, inl (refl, wrong_limit _ _ f.1)))))))

pub returns-in_err-gather-clause-fault : goal.returns-in_err-gather-clause-fault
returns-in_err-gather-clause-fault c =
    let p = err_from_is_err_and c.from_residual-in_err-gather.result c.from_residual-in_err-gather.ensures.1 in
    let f = c.in_err-gather.ensures.fault in
    rw (p.1, p.2) (first_fault (table_view c.args.row.now) gate_limit_keys _ (keys.Limit limits.Gather) f.0 (inr (right_limit _ _ _ c.in_ok-waiting.ensures.ok, inr (right_limit _ _ _ c.in_ok-rounds.ensures.ok, inr (right_limit _ _ _ c.in_ok-again.ensures.ok, inr (right_limit _ _ _ c.in_ok-tries.ensures.ok, inr (right_limit _ _ _ c.in_ok-last.ensures.ok, inl (refl, wrong_limit _ _ f.1))))))))

pub returns-in_err-waiting_per_device-clause-fault : goal.returns-in_err-waiting_per_device-clause-fault
returns-in_err-waiting_per_device-clause-fault c =
    let p = err_from_is_err_and c.from_residual-in_err-waiting_per_device.result c.from_residual-in_err-waiting_per_device.ensures.1 in
    let f = c.in_err-waiting_per_device.ensures.fault in
    rw (p.1, p.2) (first_fault (table_view c.args.row.now) gate_limit_keys _ (keys.Limit limits.WaitingPerDevice) f.0 (inr (right_limit _ _ _ c.in_ok-waiting.ensures.ok, inr (right_limit _ _ _ c.in_ok-rounds.ensures.ok, inr (right_limit _ _ _ c.in_ok-again.ensures.ok, inr (right_limit _ _ _ c.in_ok-tries.ensures.ok, inr (right_limit _ _ _ c.in_ok-last.ensures.ok, inr (right_limit _ _ _ c.in_ok-gather.ensures.ok, inl (refl, wrong_limit _ _ f.1)))))))))

use Rattle.std.proofs.Common.{inl, inr, refl, rules}
use Rattle.std.proofs.lemmas.Result.{err_from_is_err_and}
use Rattle.toml.specs.View.{table_view}
use Rattle.snmpsec_config.proofs.Told.{wrong}
use Rattle.snmpsec_gate_config.specs.Values.{IsRightAt}
use Rattle.snmpsec_gate_config.specs.Rows.{IsGate}
use Rattle.snmpsec_gate_config.specs.declared.table.GateTable.TheVariants as tables
use Rattle.snmpsec_gate_config.specs.declared.table.GateKey.TheVariants as keys
use Rattle.snmpsec_gate_config.proofs.Told.{tells, tells_unlisted, tells_addresses, tells_traps, right_addresses_if_any, gate_right, gate_limits_right, right_flag, wrong_flag, first_more, first_behind, gate_limit_keys, flag_keys}
use Rattle.snmpsec_gate_config.proofs.gate.read_gate.Goals as goal

pub returns-in_err-only_listed-clause-fault : goal.returns-in_err-only_listed-clause-fault
returns-in_err-only_listed-clause-fault c =
    let p = err_from_is_err_and c.from_residual.result c.from_residual.ensures.1 in
    rw (p.1, p.2) (tells_unlisted tables.Gate IsGate (table_view c.args.row.now) _ c.in_err-only_listed.ensures.fault (λ made stands. stands.only))

pub returns-in_err-engine-clause-fault : goal.returns-in_err-engine-clause-fault
returns-in_err-engine-clause-fault c =
    let row = table_view c.args.row.now in
    let p = err_from_is_err_and c.from_residual-in_err-engine.result c.from_residual-in_err-engine.ensures.1 in
    let f = c.in_err-engine.ensures.fault in
    rw (p.1, p.2) (tells tables.Gate IsGate row _ keys.Engine f.0 c.in_ok-only_listed.ensures.ok (inl (refl, wrong (λ h. f.1 h.0 h.1))) (λ made stands. gate_right _ stands))

pub returns-in_err-path-clause-fault : goal.returns-in_err-path-clause-fault
returns-in_err-path-clause-fault c =
    let row = table_view c.args.row.now in
    let p = err_from_is_err_and c.from_residual-in_err-path.result c.from_residual-in_err-path.ensures.1 in
    let f = c.in_err-path.ensures.fault in
    rw (p.1, p.2) (tells tables.Gate IsGate row _ keys.Boots f.0 c.in_ok-only_listed.ensures.ok (inr (inl (_, c.in_ok-engine.ensures.ok), inl (refl, wrong (λ h. f.1 h.0 h.1)))) (λ made stands. gate_right _ stands))

pub returns-in_err-listen-clause-fault : goal.returns-in_err-listen-clause-fault
returns-in_err-listen-clause-fault c =
    let p = err_from_is_err_and c.from_residual-in_err-listen.result c.from_residual-in_err-listen.ensures.1 in
    rw (p.1, p.2) (tells_addresses (table_view c.args.row.now) _ c.in_ok-only_listed.ensures.ok (inl (_, c.in_ok-engine.ensures.ok)) (inl (_, c.in_ok-path.ensures.ok)) c.in_err-listen.ensures.fault)

pub returns-in_err-traps-clause-fault : goal.returns-in_err-traps-clause-fault
returns-in_err-traps-clause-fault c =
    let p = err_from_is_err_and c.from_residual-in_err-traps.result c.from_residual-in_err-traps.ensures.1 in
    rw (p.1, p.2) (tells_traps (table_view c.args.row.now) _ c.in_ok-only_listed.ensures.ok (inl (_, c.in_ok-engine.ensures.ok)) (inl (_, c.in_ok-path.ensures.ok)) (inl (_, c.in_ok-listen.ensures.ok)) c.in_err-traps.ensures.fault)

pub returns-in_err-limits-clause-fault : goal.returns-in_err-limits-clause-fault
returns-in_err-limits-clause-fault c =
    let row = table_view c.args.row.now in
    let p = err_from_is_err_and c.from_residual-in_err-limits.result c.from_residual-in_err-limits.ensures.1 in
    let f = c.in_err-limits.ensures.fault in
    rw (p.1, p.2) (tells tables.Gate IsGate row _ _ f.told c.in_ok-only_listed.ensures.ok (inr (inl (_, c.in_ok-engine.ensures.ok), inr (inl (_, c.in_ok-path.ensures.ok), inr (inl (_, c.in_ok-listen.ensures.ok), inr (right_addresses_if_any _ _ c.in_ok-traps.ensures.ok, first_more (IsRightAt row) gate_limit_keys flag_keys _ f.first))))) (λ made stands. gate_right _ stands))

pub returns-in_err-long_answers-clause-fault : goal.returns-in_err-long_answers-clause-fault
returns-in_err-long_answers-clause-fault c =
    let row = table_view c.args.row.now in
    let p = err_from_is_err_and c.from_residual-in_err-long_answers.result c.from_residual-in_err-long_answers.ensures.1 in
    let f = c.in_err-long_answers.ensures.fault in
    rw (p.1, p.2) (tells tables.Gate IsGate row _ keys.LongAnswers f.0 c.in_ok-only_listed.ensures.ok (inr (inl (_, c.in_ok-engine.ensures.ok), inr (inl (_, c.in_ok-path.ensures.ok), inr (inl (_, c.in_ok-listen.ensures.ok), inr (right_addresses_if_any _ _ c.in_ok-traps.ensures.ok, first_behind (IsRightAt row) gate_limit_keys flag_keys _ (gate_limits_right row c.in_ok-limits.ensures.ok) (inl (refl, wrong_flag _ f.1))))))) (λ made stands. gate_right _ stands))

pub returns-in_err-report_unreachable-clause-fault : goal.returns-in_err-report_unreachable-clause-fault
returns-in_err-report_unreachable-clause-fault c =
    let row = table_view c.args.row.now in
    let p = err_from_is_err_and c.from_residual-in_err-report_unreachable.result c.from_residual-in_err-report_unreachable.ensures.1 in
    let f = c.in_err-report_unreachable.ensures.fault in
    rw (p.1, p.2) (tells tables.Gate IsGate row _ keys.ReportUnreachable f.0 c.in_ok-only_listed.ensures.ok (inr (inl (_, c.in_ok-engine.ensures.ok), inr (inl (_, c.in_ok-path.ensures.ok), inr (inl (_, c.in_ok-listen.ensures.ok), inr (right_addresses_if_any _ _ c.in_ok-traps.ensures.ok, first_behind (IsRightAt row) gate_limit_keys flag_keys _ (gate_limits_right row c.in_ok-limits.ensures.ok) (inr (right_flag _ _ c.in_ok-long_answers.ensures.ok, inl (refl, wrong_flag _ f.1)))))))) (λ made stands. gate_right _ stands))

pub returns-clause-gate : goal.returns-clause-gate
returns-clause-gate c = record {
  only = c.in_ok-only_listed.ensures.ok;
  engine = c.in_ok-engine.ensures.ok;
  boots = search rules;
  listen = c.in_ok-listen.ensures.ok;
  traps = c.in_ok-traps.ensures.ok;
  limits = c.in_ok-limits.ensures.ok;
  long_answers = c.in_ok-long_answers.ensures.ok;
  report_unreachable = c.in_ok-report_unreachable.ensures.ok;
}

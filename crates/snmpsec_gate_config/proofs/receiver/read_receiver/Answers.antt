use Rattle.std.proofs.Common.{inl, inr, refl}
use Rattle.std.proofs.lemmas.Result.{err_from_is_err_and}
use Rattle.toml.specs.View.{table_view}
use Rattle.snmpsec_config.proofs.Told.{wrong}
use Rattle.snmpsec_gate_config.specs.Rows.{IsReceiver}
use Rattle.snmpsec_gate_config.specs.declared.table.GateTable.TheVariants as tables
use Rattle.snmpsec_gate_config.specs.declared.table.GateKey.TheVariants as keys
use Rattle.snmpsec_gate_config.proofs.Told.{tells, tells_unlisted, receiver_right, wrong_kind}
use Rattle.snmpsec_gate_config.proofs.receiver.read_receiver.Goals as goal

pub returns-in_err-only_listed-clause-fault : goal.returns-in_err-only_listed-clause-fault
returns-in_err-only_listed-clause-fault c =
    let p = err_from_is_err_and c.from_residual.result c.from_residual.ensures.1 in
    rw (p.1, p.2) (tells_unlisted tables.Receiver IsReceiver (table_view c.args.row.now) _ c.in_err-only_listed.ensures.fault (λ made stands. stands.only))

pub returns-in_err-address-clause-fault : goal.returns-in_err-address-clause-fault
returns-in_err-address-clause-fault c =
    let p = err_from_is_err_and c.from_residual-in_err-address.result c.from_residual-in_err-address.ensures.1 in
    let f = c.in_err-address.ensures.fault in
    rw (p.1, p.2) (tells tables.Receiver IsReceiver (table_view c.args.row.now) _ keys.Address f.0 c.in_ok-only_listed.ensures.ok (inl (refl, wrong (λ h. f.1 h.0 h.1))) (λ made stands. receiver_right _ stands))

pub returns-in_err-user-clause-fault : goal.returns-in_err-user-clause-fault
returns-in_err-user-clause-fault c =
    let p = err_from_is_err_and c.from_residual-in_err-user.result c.from_residual-in_err-user.ensures.1 in
    let f = c.in_err-user.ensures.fault in
    rw (p.1, p.2) (tells tables.Receiver IsReceiver (table_view c.args.row.now) _ keys.User f.0 c.in_ok-only_listed.ensures.ok (inr (inl (_, c.in_ok-address.ensures.ok), inl (refl, wrong (λ h. f.1 h.0 h.1)))) (λ made stands. receiver_right _ stands))

pub returns-in_err-level-clause-fault : goal.returns-in_err-level-clause-fault
returns-in_err-level-clause-fault c =
    let p = err_from_is_err_and c.from_residual-in_err-level.result c.from_residual-in_err-level.ensures.1 in
    let f = c.in_err-level.ensures.fault in
    rw (p.1, p.2) (tells tables.Receiver IsReceiver (table_view c.args.row.now) _ keys.Level f.0 c.in_ok-only_listed.ensures.ok (inr (inl (_, c.in_ok-address.ensures.ok), inr (inl (_, c.in_ok-user.ensures.ok), inl (refl, wrong (λ h. f.1 h.0 h.1))))) (λ made stands. receiver_right _ stands))

pub returns-in_err-kind-clause-fault : goal.returns-in_err-kind-clause-fault
returns-in_err-kind-clause-fault c =
    let p = err_from_is_err_and c.from_residual-in_err-kind.result c.from_residual-in_err-kind.ensures.1 in
    let f = c.in_err-kind.ensures.fault in
    rw (p.1, p.2) (tells tables.Receiver IsReceiver (table_view c.args.row.now) _ keys.Kind f.0 c.in_ok-only_listed.ensures.ok (inr (inl (_, c.in_ok-address.ensures.ok), inr (inl (_, c.in_ok-user.ensures.ok), inr (inl (_, c.in_ok-level.ensures.ok), inl (refl, wrong_kind _ f.1))))) (λ made stands. receiver_right _ stands))

use Rattle.std.proofs.Common.{inl, inr, refl}
use Rattle.std.proofs.lemmas.Result.{err_from_is_err_and}
use Rattle.toml.specs.View.{table_view}
use Rattle.snmpsec_config.proofs.Told.{wrong}
use Rattle.snmpsec_gate_config.specs.Rows.{IsDevice}
use Rattle.snmpsec_gate_config.specs.declared.table.GateTable.TheVariants as tables
use Rattle.snmpsec_gate_config.specs.declared.table.GateKey.TheVariants as keys
use Rattle.snmpsec_gate_config.proofs.Told.{tells, tells_unlisted, device_right, right_if_any, wrong_community_if_any}
use Rattle.snmpsec_gate_config.proofs.device.read_device.Goals as goal

pub returns-in_err-only_listed-clause-fault : goal.returns-in_err-only_listed-clause-fault
returns-in_err-only_listed-clause-fault c =
    let p = err_from_is_err_and c.from_residual.result c.from_residual.ensures.1 in
    rw (p.1, p.2) (tells_unlisted tables.Device IsDevice (table_view c.args.row.now) _ c.in_err-only_listed.ensures.fault (λ made stands. stands.only))

pub returns-in_err-context-clause-fault : goal.returns-in_err-context-clause-fault
returns-in_err-context-clause-fault c =
    let p = err_from_is_err_and c.from_residual-in_err-context.result c.from_residual-in_err-context.ensures.1 in
    let f = c.in_err-context.ensures.fault in
    rw (p.1, p.2) (tells tables.Device IsDevice (table_view c.args.row.now) _ keys.Context f.0 c.in_ok-only_listed.ensures.ok (inl (refl, wrong (λ h. f.1 h.0 h.1))) (λ made stands. device_right _ stands))

pub returns-in_err-address-clause-fault : goal.returns-in_err-address-clause-fault
returns-in_err-address-clause-fault c =
    let p = err_from_is_err_and c.from_residual-in_err-address.result c.from_residual-in_err-address.ensures.1 in
    let f = c.in_err-address.ensures.fault in
    rw (p.1, p.2) (tells tables.Device IsDevice (table_view c.args.row.now) _ keys.Address f.0 c.in_ok-only_listed.ensures.ok (inr (inl (_, c.in_ok-context.ensures.ok), inl (refl, wrong (λ h. f.1 h.0 h.1)))) (λ made stands. device_right _ stands))

pub returns-in_err-community-clause-fault : goal.returns-in_err-community-clause-fault
returns-in_err-community-clause-fault c =
    let p = err_from_is_err_and c.from_residual-in_err-community.result c.from_residual-in_err-community.ensures.1 in
    let f = c.in_err-community.ensures.fault in
    rw (p.1, p.2) (tells tables.Device IsDevice (table_view c.args.row.now) _ keys.Community f.0 c.in_ok-only_listed.ensures.ok (inr (inl (_, c.in_ok-context.ensures.ok), inr (inl (_, c.in_ok-address.ensures.ok), inl (refl, wrong (λ h. f.1 h.0 h.1))))) (λ made stands. device_right _ stands))

pub returns-in_err-write_community-clause-fault : goal.returns-in_err-write_community-clause-fault
returns-in_err-write_community-clause-fault c =
    let p = err_from_is_err_and c.from_residual-in_err-write_community.result c.from_residual-in_err-write_community.ensures.1 in
    let f = c.in_err-write_community.ensures.fault in
    rw (p.1, p.2) (tells tables.Device IsDevice (table_view c.args.row.now) _ keys.WriteCommunity f.0 c.in_ok-only_listed.ensures.ok (inr (inl (_, c.in_ok-context.ensures.ok), inr (inl (_, c.in_ok-address.ensures.ok), inr (inl (_, c.in_ok-community.ensures.ok), inl (refl, wrong_community_if_any _ f.1))))) (λ made stands. device_right _ stands))

pub returns-in_err-limits-clause-fault : goal.returns-in_err-limits-clause-fault
returns-in_err-limits-clause-fault c =
    let p = err_from_is_err_and c.from_residual-in_err-limits.result c.from_residual-in_err-limits.ensures.1 in
    let f = c.in_err-limits.ensures.fault in
    rw (p.1, p.2) (tells tables.Device IsDevice (table_view c.args.row.now) _ _ f.told c.in_ok-only_listed.ensures.ok (inr (inl (_, c.in_ok-context.ensures.ok), inr (inl (_, c.in_ok-address.ensures.ok), inr (inl (_, c.in_ok-community.ensures.ok), inr (right_if_any _ _ c.in_ok-write_community.ensures.ok, f.first))))) (λ made stands. device_right _ stands))

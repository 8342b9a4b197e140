-- The devices of a gateway have the contexts that its configuration says, so none is repeated.
use Rattle.std.proofs.Common.{◌≡◌, ◌<◌, ◌∙◌, ℕ, List, [], ◌∷◌, length, map, ap, sym, arith, slice_index_or}
use Rattle.std.proofs.lemmas.List.{get_or-map, get_or-take, length-map, length-take}
use Rattle.snmp_gate.specs.Devices.{context_of, IsFirstRepeated}
use Rattle.snmp_gate.specs.declared.devices.Device.{Device}
use Rattle.snmpsec_gate_config.specs.Rows.{HaveOwnContexts}
use Rattle.snmpsec_gate_config.specs.declared.settings.DeviceSettings.{DeviceSettings}
use Rattle.gate_handles.specs.Gates.{DeviceParts, device_parts, device_said}

abbrev Same : List Device → List DeviceSettings → Type 0
Same list said = map device_parts list ≡ map device_said said

-- the context at a place
context_at : (list : List Device) (said : List DeviceSettings) → Same list said → (i : ℕ) (d : Device) (s : DeviceSettings)
    → i < length list → context_of (slice_index_or list i d) ≡ (slice_index_or said i s).context
context_at list said same i d s within =
    let lengths : length list ≡ length said = sym (length-map list device_parts) ∙ (ap length same ∙ length-map said device_said) in
    let within_said : i < length said = omega (arith, lengths, within) in
    let parts = sym (get_or-map device_parts list i d (device_parts d) within)
    ∙ (ap (λ (ps : List DeviceParts). slice_index_or ps i (device_parts d)) same ∙ get_or-map device_said said i s (device_parts d) within_said) in
    ap (λ (p : DeviceParts). p.context) parts

pub not_repeated : (list : List Device) (said : List DeviceSettings) (n : ℕ) → Same list said → HaveOwnContexts said → IsFirstRepeated list n → ⊥
not_repeated [] said n same own repeated = absurd (omega (arith, repeated.within))
not_repeated (d ∷ list) [] n same own repeated = absurd (omega (arith, ap length same))
not_repeated (d ∷ list) (s ∷ said) n same own repeated =
    let known = repeated.repeats d in
    let before = known.1.within in
    let earlier : known.0 < n = omega (arith, length-take n (d ∷ list), before) in
    let lengths : length (d ∷ list) ≡ length (s ∷ said) = sym (length-map (d ∷ list) device_parts) ∙ (ap length same ∙ length-map (s ∷ said) device_said) in
    let within = repeated.within in
    let first = context_at (d ∷ list) (s ∷ said) same known.0 d s (omega (arith, earlier, within)) in
    let second = context_at (d ∷ list) (s ∷ said) same n d s within in
    let named = ap context_of (sym (get_or-take n (d ∷ list) known.0 d earlier)) ∙ known.1.named d in
    own known.0 n s earlier (omega (arith, within, lengths)) (sym first ∙ (named ∙ second))

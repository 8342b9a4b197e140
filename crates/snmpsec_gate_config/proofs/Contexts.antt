-- No two devices have one context.
use Rattle.std.proofs.Common.{◌≡◌, ◌<◌, ℕ, List, length, get_or, map, None, sym, subst, arith}
use Rattle.std.proofs.lemmas.List.{get_or-map, length-map}
use Rattle.std.proofs.lemmas.Slice.Eq.{bytes_eq-Decides}
use Rattle.vacm_core.specs.Tables.{Tables}
use Rattle.vacm_core.specs.Faults as access_rows
use Rattle.vacm_core.specs.Faults.{fault_in, is_bad_context, is_same_context}
use Rattle.vacm_core.specs.declared.fault.Table.TheVariants.{Contexts}
use Rattle.vacm_core.specs.declared.rows.ContextRow.{ContextRow}
use Rattle.vacm_core.proofs.Distinct.{one_place}
use Rattle.snmpsec_gate_config.specs.Rows.{HaveOwnContexts, context_row}
use Rattle.snmpsec_gate_config.specs.declared.settings.DeviceSettings.{DeviceSettings}

pub own_contexts : (devices : List DeviceSettings) (rows : Tables) → rows.contexts ≡ map context_row devices → access_rows.AreSound rows → HaveOwnContexts devices
own_contexts devices rows are sound i j d below last same =
    let made = map context_row devices in
    let fine : (k : ℕ) → fault_in is_bad_context is_same_context made k ≡ None = λ k. subst (λ (rs : List ContextRow). fault_in is_bad_context is_same_context rs k ≡ None) are (sound Contexts k) in
    let x = context_row (get_or devices i d) in
    let y = context_row (get_or devices j d) in
    let short : i < length devices = omega arith in
    let i_within : i < length made = rw length-map short in
    let j_within : j < length made = rw length-map last in
    let xy = (bytes_eq-Decides x.name y.name).1 same in
    let yx = (bytes_eq-Decides y.name x.name).1 (sym same) in
    let one : i ≡ j = one_place is_bad_context is_same_context made fine i j x y i_within j_within (get_or-map context_row devices i d x short) (get_or-map context_row devices j d y last) xy yx in
    omega (arith, one)

-- A handle that was made, and is written where there is memory for it.
use Rattle.std.specs.Prelude.{◌≡◌, ◌⊎◌, ℕ, ℤ, pos, List, Result, Ok, Err}
use Rattle.std.proofs.Common.{inl, inr, refl}
use Rattle.snmp_message.specs.declared.refusal.Refusal.TheVariants.{OutOfMemory}
use Rattle.snmp_handles.specs.Faults.{code, fault_code}
use Rattle.snmp_handles.specs.declared.fault.CallFault.{CallFault}
use Rattle.snmp_handles.specs.declared.fault.CallFault.TheVariants.{Refused}
use Rattle.gate_handles.specs.Gates.{GateHeld, MakesGate, ReadsGate}

-- it is written, or there is no memory for it
abbrev pub IsWrittenOr : ℤ → Type 0
IsWrittenOr answer = (answer ≡ pos 0) ⊎ (answer ≡ fault_code (Refused OutOfMemory))

abbrev pub told : (answer : ℤ) → IsWrittenOr answer → GateHeld → Result GateHeld CallFault
told answer (inl written) held = Ok held
told answer (inr none) held = Err (Refused OutOfMemory)

pub told_is : (answer : ℤ) (h : IsWrittenOr answer) (held : GateHeld) → answer ≡ code (told answer h held)
told_is answer (inl written) held = written
told_is answer (inr none) held = none

pub told_made : (config : List ℕ) (boots started : ℕ) (answer : ℤ) (h : IsWrittenOr answer) (held : GateHeld) → MakesGate config boots started (Ok held) → MakesGate config boots started (told answer h held)
told_made config boots started answer (inl written) held made = made
told_made config boots started answer (inr none) held made = (made.in_range, refl)

pub told_read : (config : List ℕ) (answer : ℤ) (h : IsWrittenOr answer) (held : GateHeld) → ReadsGate config (Ok held) → ReadsGate config (told answer h held)
told_read config answer (inl written) held read = read
told_read config answer (inr none) held read = refl

-- Devices with contextNames of their own.
use Rattle.std.specs.Prelude.{◌≡◌, ℕ, List, [], ◌∷◌, Option, Some, None, IfSome, MatchOption}
use Rattle.std.proofs.Common.{sym, ◌∙◌, arith, inl, inr}
use Rattle.std.proofs.lemmas.Bool.{cases_lt}
use Rattle.snmp_gate.specs.Devices.{HaveOwnContexts, IsDeviceOf, IsUnknownContext}
use Rattle.snmp_gate.specs.declared.devices.Device.{Device}

-- two devices with one contextName are one
one_device : (devices : List Device) (context : List ℕ) (a b : ℕ) → HaveOwnContexts devices → IsDeviceOf devices context a → IsDeviceOf devices context b → b ≡ a
one_device [] context a b own x y = absurd (omega (arith, x.within))
one_device (d ∷ devices) context a b own x y = elim (cases_lt a b) [
  | inl less ↦ absurd (own a b d less y.within (x.named d ∙ sym (y.named d)))
  | inr from ↦ elim (cases_lt b a) [
    | inl less ↦ absurd (own b a d less x.within (y.named d ∙ sym (x.named d)))
    | inr upto ↦ omega (arith, from, upto)
  ]
]

-- So the device that was found is the only one.
pub only_found : (devices : List Device) (context : List ℕ) (found : Option ℕ) → MatchOption found (IsUnknownContext devices context) (IsDeviceOf devices context) → HaveOwnContexts devices
    → IfSome found (λ number. (other : ℕ) → IsDeviceOf devices context other → other ≡ number)
only_found devices context None is own = tt
only_found devices context (Some number) is own = λ other other_is. one_device devices context number other own is other_is

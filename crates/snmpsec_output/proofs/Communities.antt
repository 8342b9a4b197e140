-- Why a message of version-1 or SNMPv2c is refused.
use Rattle.std.proofs.Common.{◌≡◌, ℕ, List, Option, Some, None, refl, subst}
use Rattle.std.specs.Prelude.{◌≢◌}
use Rattle.snmp_message.specs.declared.refusal.Refusal.TheVariants.{NotMessage, BadVersion, NotSecurity}
use Rattle.snmp_message.specs.declared.refusal.Refusal.{Refusal}
use Rattle.snmp_community.specs.Layout.{OtherVersion}
use Rattle.snmp_community.specs.Faults.{FaultsAt}
use Rattle.snmp_community.specs.Refusals.{RefusesMessage}

pub other_version : (w : List ℕ) (r : Refusal) (at : Option ℕ) → r ≡ BadVersion → RefusesMessage w r at → OtherVersion w
other_version w r None is refuses = subst (λ r. RefusesMessage w r None) is refuses
other_version w r (Some at) is refuses = absurd (subst (λ r. RefusesMessage w r (Some at)) is refuses)

pub fault_parts : (w : List ℕ) (r : Refusal) (at : Option ℕ) → r ≢ BadVersion → RefusesMessage w r at
    → (OtherVersion w → ⊥) × ((p : ℕ) × FaultsAt w p × (r ≡ NotMessage) × (at ≡ Some p))
fault_parts w NotMessage (Some p) other h = (h.0, (p, h.2, refl, refl))
fault_parts w NotMessage None other h = absurd h
fault_parts w BadVersion None other h = absurd (other refl)
fault_parts w BadVersion (Some p) other h = absurd h
fault_parts w NotSecurity at other h = absurd h
fault_parts w _ at other h = absurd h

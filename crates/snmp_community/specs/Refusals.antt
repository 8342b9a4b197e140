-- Why octets are refused: for each call the refusals that it answers, each with its cause.
use Rattle.std.specs.Prelude.{List, ℕ, Option, Some, None}
use Rattle.snmp_message.specs.declared.refusal.Refusal.{Refusal}
use Rattle.snmp_message.specs.declared.refusal.Refusal.TheVariants.{NotMessage, BadVersion}
use Rattle.snmp_community.specs.Layout.{Parts, IsMessage, OtherVersion}
use Rattle.snmp_community.specs.Faults.{FaultsAt}

-- The refusal, at this place, is why the datagram isn't a message.
abbrev pub RefusesMessage : List ℕ → Refusal → Option ℕ → Type 0
RefusesMessage w BadVersion None = OtherVersion w
RefusesMessage w NotMessage (Some at) = (OtherVersion w → ⊥) × ((m : Parts) → IsMessage w m → ⊥) × FaultsAt w at
RefusesMessage w _ _ = ⊥

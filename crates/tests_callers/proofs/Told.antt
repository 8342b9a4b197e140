-- What a caller writes to use the laws.
use Rattle.std.proofs.Common.{ℕ, List, [], ◌∷◌, Option, Some, None, refl, inl, inr}
use Rattle.std.specs.Prelude.{◌↔◌, ◌≢◌, Result, Err, Contains}
use Rattle.std.proofs.lemmas.List.Elements.{Contains-append_left, Contains-append_right, Contains-append_cases}
use Rattle.usm_core.specs.Table.{refused}
use Rattle.snmp_message.specs.declared.refusal.Refusal.{Refusal}
use Rattle.snmp_incoming.specs.Outcome.{Given}
use Rattle.snmp_manager.specs.Takes.{Takes}
use Rattle.snmp_manager.specs.Views.{Held}

pub told : (old new : Held) (now : ℕ) (w : List ℕ) (o : Option Refusal) → o ≢ None → Takes old now w (refused o) new → (a : Result Given Refusal) × Takes old now w (Some a) new
told old new now w None some takes = absurd (some refl)
told old new now w (Some n) some takes = (Err n, takes)

pub swapped : (x y w : List ℕ) → Contains (x ∷ y ∷ []) w ↔ Contains (y ∷ x ∷ y ∷ []) w
swapped x y w = (
  (λ c. elim (Contains-append_cases (x ∷ []) (y ∷ []) w c) [ inl e ↦ Contains-append_right (y ∷ []) (x ∷ y ∷ []) w (Contains-append_left (x ∷ []) (y ∷ []) w e) | inr d ↦ Contains-append_left (y ∷ []) (x ∷ y ∷ []) w d ]),
  (λ c. elim (Contains-append_cases (y ∷ []) (x ∷ y ∷ []) w c) [ inl e ↦ Contains-append_right (x ∷ []) (y ∷ []) w e | inr d ↦ d ]),
)

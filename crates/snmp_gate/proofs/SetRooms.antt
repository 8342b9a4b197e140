-- Whether the Response to a Set has room.
use Rattle.std.proofs.Common.{◌≡◌, ℕ, ◌+◌, ◌<◌, ◌≤◌, pos, Bool, true, false, List, [], ◌∷◌, Option, Some, None, ap, arith, eqb, inl, inr, length, refl, subst, sym, take, ◌∙◌}
use Rattle.std.proofs.lemmas.Bool.{eq-eqb, eqb-true}
use Rattle.std.proofs.Math.Seq.{take-length}
use Rattle.std.specs.Option.{option_eq}
use Rattle.std.specs.Prelude.{IfNone, IfSome}
use Rattle.snmp_msg.specs.Variables.{Variable, variables_of}
use Rattle.usm_core.specs.Sealed.{Sending}
use Rattle.snmp_agent.specs.Agent.{AgentState}
use Rattle.snmp_outgoing.specs.Fronts.{IsBeyond, IsLongestFront, IsWithin, room}
use Rattle.snmp_gate.specs.Question.{Question}
use Rattle.snmp_gate.specs.Replies.{IsOwnList}

-- the bindings of a Response that isn't tooBig are the request's own
pub own_bindings_are : (q : Question) (vs : List Variable) → IsOwnList q (pos 0) vs → vs ≡ variables_of q.list
own_bindings_are q vs (inl big) = absurd (cc big.0)
own_bindings_are q vs (inr own) = own.1

take_none : (own : List Variable) → take 0 own ≡ []
take_none [] = refl
take_none (v ∷ own) = refl

module _ (agent : AgentState) (limit : ℕ) (message : List Variable → Sending) (own : List Variable) (runs : Type 0) where
  abbrev pub Tells : Bool → Type 0
  Tells true = IsWithin agent.users (room limit) (message own)
  Tells false = runs → (n : ℕ) × IsBeyond agent.users (room limit) (message (take n own))

  none_fits : (fits : Bool) → (runs → IsBeyond agent.users (room limit) (message [])) → fits ≡ false → Tells fits
  none_fits true none is = absurd (cc is)
  none_fits false none is = λ r. (0, subst (λ (vs : List Variable). IsBeyond agent.users (room limit) (message vs)) (sym (take_none own)) (none r))

  some_fit : (fits : Bool) (count : ℕ) → IsLongestFront agent.users (room limit) message own count → fits ≡ eqb count (length own) → Tells fits
  some_fit true count h is =
      subst (λ (vs : List Variable). IsWithin agent.users (room limit) (message vs)) (ap (λ (n : ℕ). take n own) (eqb-true count (length own) (sym is)) ∙ take-length own) h.fits
  some_fit false count h is = λ r. (count + 1, h.longest (less (λ same. absurd (cc (is ∙ eq-eqb count (length own) same))) h.most))
    where
      less : (count ≡ length own → ⊥) → count ≤ length own → count < length own
      less differs most = omega (arith, differs, most)

  pub told_room : (told : Option ℕ) (fits : Bool) → IfSome told (IsLongestFront agent.users (room limit) message own) → (runs → IfNone told (IsBeyond agent.users (room limit) (message [])))
      → fits ≡ option_eq eqb told (Some (length own)) → Tells fits
  told_room None fits some none is = none_fits fits none is
  told_room (Some count) fits some none is = some_fit fits count some is

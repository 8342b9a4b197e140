-- A datagram that is opened has one answer.
use Rattle.snmp_message.specs.declared.refusal.Refusal.TheVariants.{DecryptionError}
use Rattle.snmp_message.specs.declared.refusal.Refusal.{Refusal}
use Rattle.std.proofs.Common.{◌≡◌, ℕ, List, sym, ap, subst, ◌∙◌}
use Rattle.std.specs.Prelude.{Result, Ok, Err}
use Rattle.snmp_message.specs.Scoped.{Contexts, ScopedFront}
use Rattle.snmp_msg.specs.Pdu.{PduParts, PduText}
use Rattle.usm_users.specs.User.{User}
use Rattle.usm_core.specs.Verified.{Side, Verified, Verifies, manager}
use Rattle.usm_core.proofs.Determined.{needs_one, then_one}
use Rattle.snmp_incoming.proofs.Determined.{message_one}
use Rattle.snmpsec_output.specs.Opening.{TellsText, Tells, Opens, opened_lines}

module _ (front : (z : List ℕ) (s t : Contexts) → ScopedFront z s → ScopedFront z t → s ≡ t) (pdu : (z : List ℕ) (p q : PduParts) → PduText z p → PduText z q → p ≡ q) where
  lines_one : (v : Verified) (text a b : List ℕ) → TellsText v text a → TellsText v text b → a ≡ b
  lines_one v text a b (s, p, e) (t, q, f) =
      let contexts = front text s.contexts t.contexts s.is t.is in
      let parts = pdu t.contexts.pdu p.pdu q.pdu (subst (λ (c : Contexts). PduText c.pdu p.pdu) contexts p.is) q.is in
      e ∙ (λ i. opened_lines v (contexts i) (parts i)) ∙ sym f

  tells_one : (v : Verified) (text : List ℕ) (a b : Result (List ℕ) Refusal) → Tells v text a → Tells v text b → a ≡ b
  tells_one v text (Ok a) (Ok b) x y = ap (λ lines. Ok lines) (lines_one v text a b x y)
  tells_one v text (Ok a) (Err n) x y = absurd y
  tells_one v text (Err n) b x y = absurd x

  pub opening_one : ((side : Side) (users : List User) (w : List ℕ) (a b : Result Verified Refusal) → Verifies side users w a → Verifies side users w b → a ≡ b)
      → (users : List User) (w : List ℕ) (a b : Result (List ℕ) Refusal) → Opens users w a → Opens users w b → a ≡ b
  unfolding Opens
  opening_one verified users w =
      then_one _ _ (verified manager users w) (λ v. needs_one _ DecryptionError _ (λ p q. then_one _ _ (message_one front pdu users w v) (λ given. tells_one v given.text)))

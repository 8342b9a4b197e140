-- Messages that ask for reports.
use Rattle.std.proofs.Common.{◌≡◌, ℕ, List, true, false, sym, ap, subst, ◌∙◌}
use Rattle.snmp_message.specs.Layout.{Parts, Outer}
use Rattle.snmp_message.specs.Scoped.{Contexts, HasScoped}
use Rattle.snmp_msg.specs.Pdu.{PduParts, PduText}
use Rattle.snmp_msg.specs.PduTypes.{is_confirmed}
use Rattle.snmp_agent.specs.Report.{PlainPdu, AsksForReport}

module _ (w : List ℕ)
    (one_scoped : (w : List ℕ) (m : Parts) (s t : Contexts) → HasScoped w m s → HasScoped w m t → s ≡ t)
    (one_pdu : (z : List ℕ) (p q : PduParts) → PduText z p → PduText z q → p ≡ q) where
  -- a message has one PDU
  pub same_pdu : (m : Parts) (p q : PlainPdu w m) → p.pdu ≡ q.pdu
  same_pdu m p q =
      let same = one_scoped w m p.contexts q.contexts p.is_scoped q.is_scoped in
      one_pdu q.contexts.pdu p.pdu q.pdu (subst (λ (s : Contexts). PduText s.pdu p.pdu) same p.is_pdu) q.is_pdu

module _ (w : List ℕ) (one : (w : List ℕ) (m n : Parts) → Outer w m → Outer w n → m ≡ n) where
  pub same_parts : (m : Parts) → Outer w m → (a : AsksForReport w) → a.outer.parts ≡ m
  same_parts m outer a = one w a.outer.parts m a.outer.is outer

  pub not_reportable : (m : Parts) → Outer w m → m.header.reportable ≡ false → AsksForReport w → ⊥
  not_reportable m outer never a =
      let is : m.header.reportable ≡ true = ap (λ (p : Parts). p.header.reportable) (sym (same_parts m outer a)) ∙ a.reportable in
      let e : true ≡ false = sym is ∙ never in absurd cc

  pub not_answered : (m : Parts) → Outer w m → (plain : PlainPdu w m) → is_confirmed plain.pdu.tag ≡ false → AsksForReport w → ⊥
  not_answered m outer plain never a =
      let confirmed : (p : PlainPdu w m) → is_confirmed p.pdu.tag ≡ true = subst (λ (n : Parts). (p : PlainPdu w n) → is_confirmed p.pdu.tag ≡ true) (same_parts m outer a) a.confirmed in
      let e : true ≡ false = sym (confirmed plain) ∙ never in absurd cc

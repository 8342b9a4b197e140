-- A message is a discovery exactly where it says no engine and has no authentication.
use Rattle.std.proofs.Common.{◌≡◌, ℕ, List, [], Bool, true, false, length, sym, ap, subst, ◌∙◌}
use Rattle.std.proofs.lemmas.Bool.{eqb-true, eqb-false}
use Rattle.std.specs.Prelude.{◌==◌, MatchBool}
use Rattle.std.proofs.lemmas.List.{nil_from_length}
use Rattle.snmp_message.specs.Layout.{Parts, Outer}
use Rattle.snmp_message.specs.Security.{Fields, SecText}
use Rattle.diagnose_judge.specs.Judging.{IsDiscovery}

module _ (one : (w : List ℕ) (m n : Parts) → Outer w m → Outer w n → m ≡ n) where
  pub not_plain : (w : List ℕ) (p : Parts) → Outer w p → p.header.auth ≡ true → IsDiscovery w → ⊥
  not_plain w p outer auth d =
      let same : d.parts ≡ p = one w d.parts p d.outer outer in
      let wrong : true ≡ false = sym auth ∙ sym (ap (λ (x : Parts). x.header.auth) same) ∙ d.plain in
      cc wrong

  module _ (fields : (at : ℕ) (x : List ℕ) (s t : Fields) → SecText at x s → SecText at x t → s ≡ t) where
    no_engine : (w : List ℕ) (p : Parts) (f : Fields) → Outer w p → SecText p.security_at p.security f → IsDiscovery w → f.engine ≡ []
    no_engine w p f outer security d =
        let same : d.parts ≡ p = one w d.parts p d.outer outer in
        let there : SecText p.security_at p.security d.fields = subst (λ (x : Parts). SecText x.security_at x.security d.fields) same d.security in
        ap (λ (x : Fields). x.engine) (fields p.security_at p.security f d.fields security there) ∙ d.no_engine

    pub by_engine : (w : List ℕ) (p : Parts) (f : Fields) → Outer w p → SecText p.security_at p.security f → p.header.auth ≡ false → (b : Bool) → b ≡ (length f.engine == 0)
        → MatchBool b (IsDiscovery w) (IsDiscovery w → ⊥)
    by_engine w p f outer security plain true is = record { parts = p; fields = f; outer = outer; security = security; plain = plain; no_engine = nil_from_length f.engine (eqb-true (length f.engine) 0 (sym is)) }
    by_engine w p f outer security plain false is = λ d. eqb-false (length f.engine) 0 (sym is) (ap length (no_engine w p f outer security d))

-- What agents of one engine that accept one datagram have in common.
use Rattle.snmp_message.specs.declared.refusal.Refusal.{Refusal}
use Rattle.std.proofs.Common.{◌≡◌, ◌≤◌, ◌+◌, ◌-◌, ℕ, List, Bool, true, false, refl, sym, ap, ◌∙◌, subst, arith}
use Rattle.std.specs.Prelude.{◌≢◌, Result, Ok}
use Rattle.snmp_ber.specs.declared.level.Level.TheVariants.{NoAuthNoPriv}
use Rattle.snmp_message.specs.Layout.{Parts, Outer}
use Rattle.snmp_message.specs.Security.{Fields, SecText}
use Rattle.snmp_message.specs.Level.{level_of}
use Rattle.snmp_message.specs.declared.header.Header.{Header}
use Rattle.usm_users.specs.User.{User}
use Rattle.usm_core.specs.Table.{holds, gives}
use Rattle.usm_core.specs.Verified.{Side, Verified, Verifies, IsReadAs}
use Rattle.snmp_incoming.specs.Outcome.{Given, Taker, as_agent, side_at, IsFresh, ReadsText, Weighs, Outcome}

-- what is said of the datagram by who accepts it
record Accepted (taker : Taker) (users : List User) (now : ℕ) (w : List ℕ) (given : Given) : Type 0 where
  pub v : Verified
  pub rows : Verifies (side_at taker) users w (Ok v)
  pub fresh : v.parts.header.auth ≡ true → IsFresh taker now v
  pub level : given.level ≡ level_of v.parts.header

same_given : (v u : Given) → ◌≡◌ {A = Result Given Refusal} (Ok v) (Ok u) → v ≡ u
same_given v u e = cc

level_read : (v : Verified) (text : List ℕ) (given : Given) → ReadsText v text (Ok given) → given.level ≡ level_of v.parts.header
unfolding ReadsText
level_read v text given (holds s (holds p e)) = ap (λ (g : Given). g.level) (same_given given _ e)

weighed : (taker : Taker) (users : List User) (now : ℕ) (w : List ℕ) (v : Verified) (given : Given) → Weighs taker users now w v (Ok given)
    → (v.parts.header.auth ≡ true → IsFresh taker now v) × (given.level ≡ level_of v.parts.header)
unfolding Weighs
weighed taker users now w v given (holds fresh (holds salt (text, is, below))) = (fresh, level_read v text given below)

accepted : (taker : Taker) (users : List User) (now : ℕ) (w : List ℕ) (given : Given) → Outcome taker users now w (Ok given) → Accepted taker users now w given
unfolding Outcome
accepted taker users now w given (holds clock (gives v rows below)) =
    let found = weighed taker users now w v given below in
    record { v = v; rows = rows; fresh = found.0; level = found.1 }

has_auth : (h : Header) (b : Bool) → h.auth ≡ b → level_of h ≢ NoAuthNoPriv → h.auth ≡ true
has_auth h true e n = e
has_auth h false e n = absurd (n (rw e refl))

near : (engine : List ℕ) (boots started now other_boots other_started later : ℕ) (v : Verified) → IsFresh (as_agent engine boots started) now v → IsFresh (as_agent engine other_boots other_started) later v
    → (boots ≡ other_boots) × (now - started ≤ (later - other_started) + 300) × (later - other_started ≤ (now - started) + 300)
near engine boots started now other_boots other_started later v f g = (sym f.1 ∙ g.1, omega (arith, f.2, f.3, g.2, g.3), omega (arith, f.2, f.3, g.2, g.3))

module _ (one : (w : List ℕ) (m n : Parts) → Outer w m → Outer w n → m ≡ n) (same : (at : ℕ) (x : List ℕ) (s t : Fields) → SecText at x s → SecText at x t → s ≡ t)
    (read : (side : Side) (users : List User) (w : List ℕ) (v : Verified) → Verifies side users w (Ok v) → IsReadAs w v) where
  one_verified : (w : List ℕ) (v u : Verified) → IsReadAs w v → IsReadAs w u → v ≡ u
  one_verified w v u a b =
      let parts = one w v.parts u.parts a.outer b.outer in
      let fields = same u.parts.security_at u.parts.security v.fields u.fields (subst (λ (p : Parts). SecText p.security_at p.security v.fields) parts a.security) b.security in
      λ i. record { parts = parts i; fields = fields i }

  pub replay : (engine : List ℕ) (boots started now other_boots other_started later : ℕ) (users others : List User) (w : List ℕ) (given again : Given)
      → Outcome (as_agent engine boots started) users now w (Ok given) → Outcome (as_agent engine other_boots other_started) others later w (Ok again) → given.level ≢ NoAuthNoPriv
      → (boots ≡ other_boots) × (now - started ≤ (later - other_started) + 300) × (later - other_started ≤ (now - started) + 300)
  replay engine boots started now other_boots other_started later users others w given again first second level =
      let a = accepted (as_agent engine boots started) users now w given first in
      let b = accepted (as_agent engine other_boots other_started) others later w again second in
      let v_is = one_verified w a.v b.v (read (side_at (as_agent engine boots started)) users w a.v a.rows) (read (side_at (as_agent engine other_boots other_started)) others w b.v b.rows) in
      let auth = has_auth a.v.parts.header a.v.parts.header.auth refl (λ e. level (a.level ∙ e)) in
      near engine boots started now other_boots other_started later a.v (a.fresh auth)
      (subst (λ (v : Verified). IsFresh (as_agent engine other_boots other_started) later v) (sym v_is) (b.fresh (ap (λ (v : Verified). v.parts.header.auth) (sym v_is) ∙ auth)))

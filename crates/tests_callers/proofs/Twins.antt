-- One datagram under two keys.
use Rattle.std.proofs.Common.{◌≡◌, ◌∙◌, ℕ, List, ◌+◌, Option, Some, sym, ap, subst, length}
use Rattle.std.specs.Prelude.{IsSomeAnd, take, drop, slice_range}
use Rattle.snmp_message.specs.Layout.{Parts, Outer}
use Rattle.snmp_message.specs.Security.{Fields, SecText, IsCut}
use Rattle.usm_keys.specs.AuthKey.{AuthKey}
use Rattle.usm_users.specs.User.{User}
use Rattle.usm_users.specs.Users.{user_named}
use Rattle.usm_core.specs.Authentic.{AuthenticMessage, IsMac, IsDigestRight}
use Rattle.tests_callers.specs.Codes.{HaveOneCode, code_of}

-- the code under the key of the user that the message names
mac_of : (users : List User) (w : List ℕ) (p : Parts) (f : Fields) (u : User) (key : AuthKey) → IsDigestRight users w p f → user_named users f.user ≡ Some u → u.auth ≡ Some key → IsMac key w p f
mac_of users w p f u key digest named keyed =
    let user = subst (λ (o : Option User). IsSomeAnd o (λ user. IsSomeAnd user.auth (λ key. IsMac key w p f))) named digest in
    subst (λ (o : Option AuthKey). IsSomeAnd o (λ key. IsMac key w p f)) keyed user

module _ (one_message : (w : List ℕ) (m n : Parts) → Outer w m → Outer w n → m ≡ n)
    (one_text : (at : ℕ) (x : List ℕ) (s t : Fields) → SecText at x s → SecText at x t → s ≡ t)
    (places : (w : List ℕ) (m : Parts) (s : Fields) (front back : List ℕ) → IsCut w m s front back
    → (front ≡ take s.auth_at w) × (slice_range w s.auth_at (s.auth_at + length s.auth) ≡ s.auth) × (back ≡ drop (s.auth_at + length s.auth) w)) where
  same_parts : (key other : AuthKey) (w : List ℕ) (p : Parts) (f : Fields) → IsMac key w p f → IsMac other w p f → HaveOneCode key other w
  same_parts key other w p f a b =
      let at = places w p f a.front a.back a.cut in
      let bt = places w p f b.front b.back b.cut in
      let front = at.0 ∙ sym bt.0 in
      let back = at.2 ∙ sym bt.2 in
      record {
        parts = p;
        fields = f;
        front = a.front;
        back = a.back;
        cut = a.cut;
        codes = sym a.code ∙ b.code
            ∙ ap (λ (x : List ℕ). code_of other f x b.back) (sym front) ∙ ap (λ (x : List ℕ). code_of other f a.front x) (sym back);
      }

  pub one_code : (users others : List User) (w : List ℕ) (p q : Parts) (f g : Fields) (u v : User) (key other : AuthKey)
      → AuthenticMessage users w p f → user_named users f.user ≡ Some u → u.auth ≡ Some key
      → AuthenticMessage others w q g → user_named others g.user ≡ Some v → v.auth ≡ Some other → HaveOneCode key other w
  one_code users others w p q f g u v key other a named keyed b other_named other_keyed =
      let mine = mac_of users w p f u key a.digest named keyed in
      let theirs = mac_of others w q g v other b.digest other_named other_keyed in
      let parts = one_message w q p b.outer a.outer in
      let text = subst (λ (m : Parts). SecText m.security_at m.security g) parts b.security in
      let fields = one_text p.security_at p.security g f text a.security in
      same_parts key other w p f mine
      (subst (λ (s : Fields). IsMac other w p s) fields (subst (λ (m : Parts). IsMac other w m g) parts theirs))

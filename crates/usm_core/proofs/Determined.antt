-- The table down to the digest gives one answer, and says what was read where it refuses below the layout.
use Rattle.snmp_message.specs.declared.refusal.Refusal.TheVariants.{NotMessage, BadVersion, InvalidFlags, NotScoped, NotSecurity, UnknownEngine, UnknownModel, UnknownUser, UnsupportedLevel, WrongDigest, NotPdu, NotInWindow, DecryptionError, BadScoped, BadPdu, ClockExhausted, TooLarge}
use Rattle.snmp_message.specs.declared.refusal.Refusal.{Refusal}
use Rattle.std.proofs.Common.{◌≡◌, ℕ, List, [], Bool, true, false, Option, Some, None, refl, sym, ap, subst, ◌∙◌}
use Rattle.std.specs.Prelude.{◌≢◌, Result, Ok, Err, IfOk, IfErr, IsSomeAnd, MatchBool, if◌then◌else◌}
use Rattle.snmp_message.specs.Layout.{Parts, Outer}
use Rattle.snmp_message.specs.Security.{Fields, SecText}
use Rattle.snmp_message.specs.Refusals.{AgreesWithPriv}
use Rattle.snmp_message.specs.Level.{level_of}
use Rattle.snmp_ber.specs.Element.{IsElement}
use Rattle.snmp_ber.specs.declared.level.Level.TheVariants.{NoAuthNoPriv, AuthNoPriv, AuthPriv}
use Rattle.usm_keys.specs.AuthKey.{AuthKey}
use Rattle.usm_aes.specs.Feedback.{IsSealed, iv_of}
use Rattle.usm_users.specs.User.{User}
use Rattle.usm_users.specs.Users.{user_named, supports}
use Rattle.usm_core.specs.Table.{Needs, Then, Gives, holds, fails, gives, refuses}
use Rattle.usm_core.specs.Authentic.{Authentic, IsMac}
use Rattle.engine_clock.specs.Pairs.{BootsAndTime}
use Rattle.usm_core.specs.Verified.{ReadsLayout, Verified, OuterOf, SecurityOf, Side, Judges, Verifies, IsReadAs, IsJudged}
use Rattle.usm_core.specs.declared.checked.Checked.{Checked}
use Rattle.snmp_message.specs.declared.refused_at.RefusedAt.{RefusedAt}
use Rattle.snmp_message.specs.declared.refusal.Refusal.TheVariants.{OutOfMemory}
use Rattle.usm_core.specs.Refusals.{IsOfLayout, IsOfRead}
use Rattle.usm_core.specs.Answers.{checked_answer, verified_of}
use Rattle.usm_core.specs.Sealed.{Sending, SendingFits, SealedText, IsSealable, UserKey, cipher, spelled_with, digest_of}
use Rattle.usm_core.proofs.Tables.{has_privacy}

-- no row of the table down to the digest has this refusal
abbrev pub IsNoRow : Refusal → Type 0
IsNoRow NotPdu = Unit {0}
IsNoRow NotInWindow = Unit {0}
IsNoRow DecryptionError = Unit {0}
IsNoRow BadScoped = Unit {0}
IsNoRow BadPdu = Unit {0}
IsNoRow OutOfMemory = Unit {0}
IsNoRow ClockExhausted = Unit {0}
IsNoRow TooLarge = Unit {0}
IsNoRow _ = ⊥

-- one row gives one answer, if what stands below it does
pub needs_one : {X : Type 0} (P : Type 0) (n : Refusal) (below : P → Result X Refusal → Type 0) → ((p q : P) (a b : Result X Refusal) → below p a → below q b → a ≡ b)
    → (a b : Result X Refusal) → Needs P n below a → Needs P n below b → a ≡ b
needs_one P n below one a b (holds p x) (holds q y) = one p q a b x y
needs_one P n below one a b (holds p x) (fails never) = absurd (never p)
needs_one P n below one a b (fails never) (holds q y) = absurd (never q)
needs_one P n below one a b (fails x) (fails y) = refl

-- one table after another gives one answer, if each of them does
pub then_one : {X Y : Type 0} (first : Result X Refusal → Type 0) (below : X → Result Y Refusal → Type 0) → ((a b : Result X Refusal) → first a → first b → a ≡ b)
    → ((x : X) (a b : Result Y Refusal) → below x a → below x b → a ≡ b) → (a b : Result Y Refusal) → Then first below a → Then first below b → a ≡ b
then_one {X} {Y} first below one next a b (gives x p q) (gives y r s) =
    let e : ◌≡◌ {A = Result X Refusal} (Ok x) (Ok y) = one (Ok x) (Ok y) p r in
    let f : x ≡ y = cc in
    next y a b (subst (λ (z : X). below z a) f q) s
then_one {X} {Y} first below one next a b (gives x p q) (refuses n r) = let e : ◌≡◌ {A = Result X Refusal} (Ok x) (Err n) = one (Ok x) (Err n) p r in absurd cc
then_one {X} {Y} first below one next a b (refuses n r) (gives x p q) = let e : ◌≡◌ {A = Result X Refusal} (Err n) (Ok x) = one (Err n) (Ok x) r p in absurd cc
then_one {X} {Y} first below one next a b (refuses n r) (refuses k s) = let e : ◌≡◌ {A = Result X Refusal} (Err n) (Err k) = one (Err n) (Err k) r s in cc

gives_one : (v : Verified) (a b : Result Verified Refusal) → a ≡ Ok v → b ≡ Ok v → a ≡ b
gives_one v a b x y = x ∙ sym y

judges_one : (side : Side) (users : List User) (w : List ℕ) (v : Verified) (a b : Result Verified Refusal) → Judges side users w v a → Judges side users w v b → a ≡ b
unfolding Judges
judges_one side users w v =
    needs_one _ UnknownEngine _ (λ p q. needs_one _ UnknownUser _ (λ r s. needs_one _ UnsupportedLevel _ (λ t u. needs_one _ WrongDigest _ (λ x y. gives_one v))))

-- the rows of the layout below Outer
Below : List ℕ → Parts → Result Verified Refusal → Type 0
Below w p =
    Needs (p.header.model ≡ 3) UnknownModel (λ _.
    Needs (p.header.privacy ≡ true → p.header.auth ≡ true) InvalidFlags (λ _.
    Needs (AgreesWithPriv w p) NotScoped (λ _.
    Needs (SecurityOf p) NotSecurity (λ s.
    Gives (record { parts = p; fields = s.fields })))))

module _ (one : (w : List ℕ) (m n : Parts) → Outer w m → Outer w n → m ≡ n) (same : (at : ℕ) (x : List ℕ) (s t : Fields) → SecText at x s → SecText at x t → s ≡ t) where
  below_one : (w : List ℕ) (p : Parts) (a b : Result Verified Refusal) → Below w p a → Below w p b → a ≡ b
  unfolding Below
  below_one w p =
      needs_one _ UnknownModel _ (λ x y. needs_one _ InvalidFlags _ (λ z u. needs_one _ NotScoped _ (λ v r. needs_one _ NotSecurity _ (λ s t a b e f.
      e ∙ ap (λ (g : Fields). Ok (record { parts = p; fields = g })) (same p.security_at p.security s.fields t.fields s.is t.is) ∙ sym f))))

  layout_one : (w : List ℕ) (a b : Result Verified Refusal) → ReadsLayout w a → ReadsLayout w b → a ≡ b
  unfolding ReadsLayout Below
  layout_one w =
      needs_one _ BadVersion _ (λ x y. needs_one (OuterOf w) NotMessage (λ o. Below w o.parts) (λ o q a b r s.
      below_one w q.parts a b (subst (λ (p : Parts). Below w p a) (one w o.parts q.parts o.is q.is) r) s))

  pub answer_one : (side : Side) (users : List User) (w : List ℕ) (a b : Result Verified Refusal) → Verifies side users w a → Verifies side users w b → a ≡ b
  unfolding Verifies
  answer_one side users w = then_one (ReadsLayout w) (Judges side users w) (layout_one w) (judges_one side users w)

-- ---- what was read

read_of : (w : List ℕ) (v : Verified) → ReadsLayout w (Ok v) → IsReadAs w v
unfolding ReadsLayout
read_of w v (holds version (holds o (holds model (holds flags (holds agrees (holds s e)))))) =
    let made : IsReadAs w (record { parts = o.parts; fields = s.fields }) = record { outer = o.is; security = s.is; data_agrees = agrees; model = model; flags = flags } in
    let is : v ≡ (record { parts = o.parts; fields = s.fields }) = cc in
    subst (λ (u : Verified). IsReadAs w u) (sym is) made

-- no row of the layout has a refusal of what was read
not_layout : (w : List ℕ) (r : Refusal) → IsOfRead r → ReadsLayout w (Err r) → ⊥
unfolding ReadsLayout
not_layout w r read (fails x) = read
not_layout w r read (holds _ (fails x)) = read
not_layout w r read (holds _ (holds _ (fails x))) = read
not_layout w r read (holds _ (holds _ (holds _ (fails x)))) = read
not_layout w r read (holds _ (holds _ (holds _ (holds _ (fails x))))) = read
not_layout w r read (holds _ (holds _ (holds _ (holds _ (holds _ (fails x)))))) = read
not_layout w r read (holds _ (holds _ (holds _ (holds _ (holds _ (holds s e)))))) = absurd cc

-- the rows of the layout have its refusals alone
pub of_layout : (w : List ℕ) (r : Refusal) → ReadsLayout w (Err r) → IsOfLayout r
unfolding ReadsLayout
of_layout w r (fails x) = tt
of_layout w r (holds _ (fails x)) = tt
of_layout w r (holds _ (holds _ (fails x))) = tt
of_layout w r (holds _ (holds _ (holds _ (fails x)))) = tt
of_layout w r (holds _ (holds _ (holds _ (holds _ (fails x))))) = tt
of_layout w r (holds _ (holds _ (holds _ (holds _ (holds _ (fails x)))))) = tt
of_layout w r (holds _ (holds _ (holds _ (holds _ (holds _ (holds s e)))))) = absurd cc

pub refused_read : (side : Side) (users : List User) (w : List ℕ) (r : Refusal) → IsOfRead r → Verifies side users w (Err r) → (v : Verified) × IsReadAs w v × Judges side users w v (Err r)
unfolding Verifies
refused_read side users w r read (gives v x y) = (v, read_of w v x, y)
refused_read side users w r read (refuses k rows) = absurd (not_layout w k read rows)

judges_gave : (side : Side) (users : List User) (w : List ℕ) (v u : Verified) → Judges side users w v (Ok u) → u ≡ v
unfolding Judges
judges_gave side users w v u (holds engine (holds user (holds level (holds digest e)))) = cc

pub accepted_read : (side : Side) (users : List User) (w : List ℕ) (u : Verified) → Verifies side users w (Ok u) → IsReadAs w u
unfolding Verifies
accepted_read side users w u (gives v x y) = subst (λ (z : Verified). IsReadAs w z) (sym (judges_gave side users w v u y)) (read_of w v x)

judges_said : (side : Side) (users : List User) (w : List ℕ) (v u : Verified) → Judges side users w v (Ok u) → IsJudged side users w v
unfolding Judges
judges_said side users w v u (holds engine (holds user (holds level (holds digest e)))) = record { engine = engine; user = user; level = level; digest = digest }

accepted_judged : (side : Side) (users : List User) (w : List ℕ) (u : Verified) → Verifies side users w (Ok u) → IsJudged side users w u
unfolding Verifies
accepted_judged side users w u (gives v x y) = subst (λ (z : Verified). IsJudged side users w z) (sym (judges_gave side users w v u y)) (judges_said side users w v u y)

pub read_checked : (side : Side) (users : List User) (w : List ℕ) (result : Result Checked RefusedAt) → Verifies side users w (checked_answer result) → IfOk result (λ c. IsReadAs w (verified_of c))
read_checked side users w (Ok c) rows = accepted_read side users w (verified_of c) rows
read_checked side users w (Err fault) rows = tt

pub judged_checked : (side : Side) (users : List User) (w : List ℕ) (result : Result Checked RefusedAt) → Verifies side users w (checked_answer result) → IfOk result (λ c. IsJudged side users w (verified_of c))
judged_checked side users w (Ok c) rows = accepted_judged side users w (verified_of c) rows
judged_checked side users w (Err fault) rows = tt

-- ---- out of memory, and what comes after the digest, is no answer of the table

layout_never : (w : List ℕ) (r : Refusal) → IsNoRow r → ReadsLayout w (Err r) → ⊥
unfolding ReadsLayout
layout_never w r is (fails x) = is
layout_never w r is (holds _ (fails x)) = is
layout_never w r is (holds _ (holds _ (fails x))) = is
layout_never w r is (holds _ (holds _ (holds _ (fails x)))) = is
layout_never w r is (holds _ (holds _ (holds _ (holds _ (fails x))))) = is
layout_never w r is (holds _ (holds _ (holds _ (holds _ (holds _ (fails x)))))) = is
layout_never w r is (holds _ (holds _ (holds _ (holds _ (holds _ (holds s e)))))) = absurd cc

judges_never : (side : Side) (users : List User) (w : List ℕ) (v : Verified) (r : Refusal) → IsNoRow r → Judges side users w v (Err r) → ⊥
unfolding Judges
judges_never side users w v r is (fails x) = is
judges_never side users w v r is (holds _ (fails x)) = is
judges_never side users w v r is (holds _ (holds _ (fails x))) = is
judges_never side users w v r is (holds _ (holds _ (holds _ (fails x)))) = is
judges_never side users w v r is (holds _ (holds _ (holds _ (holds _ e)))) = absurd cc

pub no_row : (side : Side) (users : List User) (w : List ℕ) (r : Refusal) → IsNoRow r → Verifies side users w (Err r) → ⊥
unfolding Verifies
no_row side users w r is (gives v rows below) = judges_never side users w v r is below
no_row side users w r is (refuses k rows) = layout_never w k is rows

pub never_memory : (side : Side) (users : List User) (w : List ℕ) (result : Result Checked RefusedAt) → Verifies side users w (checked_answer result) → IfErr result (λ e. e.refusal ≢ OutOfMemory)
never_memory side users w (Ok c) rows = tt
never_memory side users w (Err fault) rows = λ is. no_row side users w OutOfMemory tt (subst (λ (r : Refusal). Verifies side users w (Err r)) is rows)

-- ---- of the users, the one that is named

with_name : (users others : List User) (w engine : List ℕ) (pair : BootsAndTime) (a : Authentic users w engine pair) → user_named users a.fields.user ≡ user_named others a.fields.user → Authentic others w engine pair
with_name users others w engine pair a e = record {
  parts = a.parts;
  fields = a.fields;
  message = record {
    outer = a.message.outer;
    security = a.message.security;
    data_agrees = a.message.data_agrees;
    model = a.message.model;
    auth = a.message.auth;
    engine_length = a.message.engine_length;
    user = subst (λ (o : Option User). IsSomeAnd o (λ user. supports user (level_of a.parts.header) ≡ true)) e a.message.user;
    digest = subst (λ (o : Option User). IsSomeAnd o (λ user. IsSomeAnd user.auth (λ key. IsMac key w a.parts a.fields))) e a.message.digest;
  };
  engine_is = a.engine_is;
  boots_is = a.boots_is;
  time_is = a.time_is;
}

module _ (one : (w : List ℕ) (m n : Parts) → Outer w m → Outer w n → m ≡ n) (same : (at : ℕ) (x : List ℕ) (s t : Fields) → SecText at x s → SecText at x t → s ≡ t) where
  pub authentic_by_name : (users others : List User) (w engine : List ℕ) (pair : BootsAndTime) (p : Parts) (f : Fields) → Outer w p → SecText p.security_at p.security f
      → user_named users f.user ≡ user_named others f.user → Authentic users w engine pair → Authentic others w engine pair
  authentic_by_name users others w engine pair p f outer security e a =
      let parts_is : p ≡ a.parts = one w p a.parts outer a.message.outer in
      let there : SecText a.parts.security_at a.parts.security f = subst (λ (x : Parts). SecText x.security_at x.security f) parts_is security in
      let fields_is : f ≡ a.fields = same a.parts.security_at a.parts.security f a.fields there a.message.security in
      with_name users others w engine pair a (subst (λ (x : Fields). user_named users x.user ≡ user_named others x.user) fields_is e)

-- ---- a message that can be sealed has a text

auth_needed : (privacy : Bool) (k p : Option AuthKey) (name : List ℕ) → supports (record { name = name; auth = k; privacy = p }) (if privacy then AuthPriv else AuthNoPriv) ≡ true → (key : AuthKey) × (k ≡ Some key)
auth_needed true None p name e = absurd cc
auth_needed false None p name e = absurd cc
auth_needed true (Some k) p name e = (k, refl)
auth_needed false (Some k) p name e = (k, refl)

module _ (users : List User) (m : Sending) (some : (encipher : List ℕ → List ℕ) (iv plain : List ℕ) → (cipher : List ℕ) × IsSealed encipher iv plain cipher) where
  sealed_by : (o : Option User) → IsSomeAnd o (λ user. supports user (level_of m.header) ≡ true) → m.header.auth ≡ true → m.header.privacy ≡ true
      → (content : List ℕ) × IsSomeAnd o (λ user. IsSomeAnd user.privacy (λ key. IsSealed (cipher key m.engine) (iv_of m.pair.boots m.pair.time m.salt) m.scoped content))
  sealed_by None h a p = absurd h
  sealed_by (Some user) h a p =
      let k = has_privacy m.header user a h p in
      let c = some (cipher k.0 m.engine) (iv_of m.pair.boots m.pair.time m.salt) m.scoped in
      (c.0, subst (λ (x : Option AuthKey). IsSomeAnd x (λ key. IsSealed (cipher key m.engine) (iv_of m.pair.boots m.pair.time m.salt) m.scoped c.0)) (sym k.1) c.1)

  data_by : SendingFits m → IsSealable users m → (b : Bool) → m.header.privacy ≡ b
      → (tag : ℕ) × (content : List ℕ) × MatchBool b ((tag ≡ 4) × UserKey users m.user (λ user. user.privacy) (λ key. IsSealed (cipher key m.engine) (iv_of m.pair.boots m.pair.time m.salt) m.scoped content)) ((tag ≡ 48) × IsElement 48 content m.scoped)
  data_by fits ok true e = let c = sealed_by (user_named users m.user) (ok.user (ok.flags e)) (ok.flags e) e in (4, c.0, (refl, c.1))
  data_by fits ok false e = (48, fits.content, (refl, fits.scoped))

  coded_by : (tag : ℕ) (content : List ℕ) (o : Option User) → IsSomeAnd o (λ user. supports user (level_of m.header) ≡ true) → m.header.auth ≡ true
      → (text : List ℕ) × IsSomeAnd o (λ user. IsSomeAnd user.auth (λ key. text ≡ spelled_with m tag content (digest_of key m tag content)))
  coded_by tag content None h a = absurd h
  coded_by tag content (Some user) h a =
      let k = auth_needed m.header.privacy user.auth user.privacy user.name (subst (λ (b : Bool). supports user (if b then (if m.header.privacy then AuthPriv else AuthNoPriv) else NoAuthNoPriv) ≡ true) a h) in
      let text = spelled_with m tag content (digest_of k.0 m tag content) in
      (text, subst (λ (x : Option AuthKey). IsSomeAnd x (λ key. text ≡ spelled_with m tag content (digest_of key m tag content))) (sym k.1) refl)

  text_by : IsSealable users m → (tag : ℕ) (content : List ℕ) → (b : Bool) → m.header.auth ≡ b
      → (text : List ℕ) × MatchBool b (UserKey users m.user (λ user. user.auth) (λ key. text ≡ spelled_with m tag content (digest_of key m tag content))) (text ≡ spelled_with m tag content [])
  text_by ok tag content true e = coded_by tag content (user_named users m.user) (ok.user e) e
  text_by ok tag content false e = (spelled_with m tag content [], refl)

  pub some_text : SendingFits m → IsSealable users m → (text : List ℕ) × SealedText users m text
  some_text fits ok =
      let d = data_by fits ok m.header.privacy refl in
      let t = text_by ok d.0 d.1 m.header.auth refl in
      (t.0, record { tag = d.0; content = d.1; is_data = d.2; is_text = t.1 })

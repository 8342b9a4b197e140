-- Refusals that have a counter.
use Rattle.snmp_message.specs.declared.refusal.Refusal.{Refusal}
use Rattle.std.proofs.Common.{◌≡◌, ◌⊎◌, ℕ, List, Bool, true, false, refl, sym, ap, subst, ◌∙◌, inl, inr}
use Rattle.std.specs.Prelude.{◌≢◌, ◌&&◌, Option, Some, None, Result, Ok, Err, IfSome, IsSomeAnd, IsSome, is_some}
use Rattle.snmp_ber.specs.declared.level.Level.{Level}
use Rattle.snmp_ber.specs.declared.level.Level.TheVariants.{AuthNoPriv, AuthPriv}
use Rattle.snmp_message.specs.Level.{level_of}
use Rattle.snmp_message.specs.declared.header.Header.{Header}
use Rattle.snmp_message.specs.Layout.{Parts, Outer}
use Rattle.snmp_message.specs.Security.{Fields, SecText}
use Rattle.usm_users.specs.User.{User}
use Rattle.usm_users.specs.Users.{user_named, HasUserAt}
use Rattle.usm_core.specs.Table.{Needs, Then, holds, fails, gives, refuses, refused, refusal_answer}
use Rattle.usm_core.proofs.Determined.{no_row}
use Rattle.snmp_message.specs.Numbers.{in_table}
use Rattle.usm_core.specs.Verified.{Side, agent, Verified, Verifies, Judges, IsReadAs}
use Rattle.snmp_message.specs.declared.refusal.Refusal.TheVariants.{NotMessage, BadVersion, NotSecurity, NotScoped, NotPdu, UnknownEngine, UnknownUser, UnsupportedLevel, WrongDigest, NotInWindow, DecryptionError, BadScoped, BadPdu, OutOfMemory, ClockExhausted, TooLarge, UnknownModel, InvalidFlags}
use Rattle.snmp_incoming.specs.Outcome.{Given, Taker, as_agent, side_at, ClockRuns, ReadsText, ReadsMessage, Weighs, Outcome}
use Rattle.snmp_agent.specs.declared.reported_message.ReportedMessage.{ReportedMessage}
use Rattle.snmp_agent.specs.RefusalCounters.{counter_of}
use Rattle.snmp_agent.specs.Report.{AsksForReport, Offers, IsAsking}
use Rattle.snmp_agent.proofs.Requests.{same_parts}

-- the answer of a refusal that has a counter
pub answer_counted : (r : Refusal) (k : ℕ) (P : Result Given Refusal → Type 0) → IfSome (refusal_answer r) P → Some k ≡ counter_of r → P (Err r)
answer_counted NotMessage k P h e = h
answer_counted BadVersion k P h e = h
answer_counted NotSecurity k P h e = h
answer_counted NotScoped k P h e = h
answer_counted NotPdu k P h e = h
answer_counted UnknownEngine k P h e = h
answer_counted UnknownUser k P h e = h
answer_counted UnsupportedLevel k P h e = h
answer_counted WrongDigest k P h e = h
answer_counted NotInWindow k P h e = h
answer_counted DecryptionError k P h e = h
answer_counted BadScoped k P h e = h
answer_counted BadPdu k P h e = h
answer_counted OutOfMemory k P h e = cc e
answer_counted ClockExhausted k P h e = h
answer_counted TooLarge k P h e = h
answer_counted UnknownModel k P h e = h
answer_counted InvalidFlags k P h e = h

-- the answer of a refusal on which a report is offered
pub answer_offered : (r : Refusal) (P : Result Given Refusal → Type 0) {w : List ℕ} → IfSome (refusal_answer r) P → Offers w r → P (Err r)
answer_offered r P h offer = answer_counted r offer.counter P h (sym offer.counter_is)

some_answer : (o : Option Refusal) → o ≢ None → IsSome (refused {X = Given} o)
some_answer None other = absurd (other refl)
some_answer (Some n) other = refl

-- a refusal that isn't OutOfMemory is an answer
pub answer_some : (r : Refusal) → in_table r ≢ None → IsSome (refusal_answer {X = Given} r)
answer_some r other = some_answer (in_table r) other

-- counter 2 is that of NotInWindow
pub second_is : (r : Refusal) (k : ℕ) → Some k ≡ counter_of r → k ≡ 2 → r ≡ NotInWindow
second_is NotMessage k e h = cc e
second_is BadVersion k e h = cc e
second_is NotSecurity k e h = cc e
second_is NotScoped k e h = cc e
second_is NotPdu k e h = cc e
second_is UnknownEngine k e h = let f : k ≡ 4 = cc in let g : 2 ≡ 4 = sym h ∙ f in cc g
second_is UnknownUser k e h = let f : k ≡ 3 = cc in let g : 2 ≡ 3 = sym h ∙ f in cc g
second_is UnsupportedLevel k e h = let f : k ≡ 1 = cc in let g : 2 ≡ 1 = sym h ∙ f in cc g
second_is WrongDigest k e h = let f : k ≡ 5 = cc in let g : 2 ≡ 5 = sym h ∙ f in cc g
second_is NotInWindow k e h = refl
second_is DecryptionError k e h = let f : k ≡ 6 = cc in let g : 2 ≡ 6 = sym h ∙ f in cc g
second_is BadScoped k e h = cc e
second_is BadPdu k e h = cc e
second_is OutOfMemory k e h = cc e
second_is ClockExhausted k e h = cc e
second_is TooLarge k e h = cc e
second_is UnknownModel k e h = cc e
second_is InvalidFlags k e h = cc e

not_clock : (r : Refusal) (k : ℕ) → Some k ≡ counter_of r → r ≡ ClockExhausted → ⊥
not_clock r k e is = let f : ◌≡◌ {A = Option ℕ} (Some k) None = e ∙ ap counter_of is in cc f

-- ---- rows

-- an answer that isn't the row's comes from below it
below_row : {X : Type 0} (P : Type 0) (k r : Refusal) (below : P → Result X Refusal → Type 0) → (r ≡ k → ⊥) → Needs P k below (Err r) → (p : P) × below p (Err r)
below_row P k r below other (holds p x) = (p, x)
below_row P k r below other (fails never) = absurd (other refl)

not_ok : {X : Type 0} (x : X) (r : Refusal) → ◌≡◌ {A = Result X Refusal} (Err r) (Ok x) → ⊥
not_ok x r e = cc e

-- the clock of a refusal with a counter runs
pub clock_runs : (taker : Taker) (users : List User) (now : ℕ) (w : List ℕ) (r : Refusal) (k : ℕ) → Some k ≡ counter_of r → Outcome taker users now w (Err r) → ClockRuns taker now
unfolding Outcome
clock_runs taker users now w r k e rows = (below_row _ ClockExhausted r _ (not_clock r k e) rows).0

no_text : (v : Verified) (text : List ℕ) → ReadsText v text (Err NotInWindow) → ⊥
unfolding ReadsText
no_text v text rows =
    let a = below_row _ BadScoped NotInWindow _ (λ x. cc x) rows in
    let b = below_row _ BadPdu NotInWindow _ (λ x. cc x) a.1 in
    not_ok _ NotInWindow b.1

no_message : (users : List User) (w : List ℕ) (v : Verified) → ReadsMessage users w v (Err NotInWindow) → ⊥
no_message users w v (text, is, rows) = no_text v text rows

set_or_not : (b : Bool) (P : Type 0) → ((b ≡ true → P) → ⊥) → b ≡ true
set_or_not true P never = refl
set_or_not false P never = absurd (never (λ e. absurd cc))

stale : (taker : Taker) (users : List User) (now : ℕ) (w : List ℕ) (v : Verified) (r : Refusal) → r ≡ NotInWindow → Weighs taker users now w v (Err r) → v.parts.header.auth ≡ true
unfolding Weighs
stale taker users now w v r e (fails never) = set_or_not v.parts.header.auth _ never
stale taker users now w v r e (holds fresh rows) =
    let a = below_row _ DecryptionError r _ (λ x. let wrong : NotInWindow ≡ DecryptionError = sym e ∙ x in cc wrong) rows in
    absurd (no_message users w v (subst (λ (n : Refusal). ReadsMessage users w v (Err n)) e a.1))

then_stale : (taker : Taker) (users : List User) (now : ℕ) (w : List ℕ) (r : Refusal) → r ≡ NotInWindow → Then (Verifies (side_at taker) users w) (Weighs taker users now w) (Err r)
    → (v : Verified) × Verifies (side_at taker) users w (Ok v) × (v.parts.header.auth ≡ true)
then_stale taker users now w r e (gives v rows x) = (v, rows, stale taker users now w v r e x)
then_stale taker users now w r e (refuses k rows) = absurd (no_row (side_at taker) users w NotInWindow tt (subst (λ (n : Refusal). Verifies (side_at taker) users w (Err n)) e rows))

-- a message outside the window was authenticated
outcome_stale : (taker : Taker) (users : List User) (now : ℕ) (w : List ℕ) (r : Refusal) → r ≡ NotInWindow → Outcome taker users now w (Err r)
    → (v : Verified) × Verifies (side_at taker) users w (Ok v) × (v.parts.header.auth ≡ true)
unfolding Outcome
outcome_stale taker users now w r e rows = then_stale taker users now w r e (below_row _ ClockExhausted r _ (λ x. let wrong : NotInWindow ≡ ClockExhausted = sym e ∙ x in cc wrong) rows).1

-- ---- its user

same_ok : (v u : Verified) → ◌≡◌ {A = Result Verified Refusal} (Ok u) (Ok v) → u ≡ v
same_ok v u e = cc

level_judged : (own : List ℕ) (users : List User) (w : List ℕ) (v u : Verified) → Judges (agent own) users w v (Ok u) → HasUserAt users u.fields.user (level_of u.parts.header)
unfolding Judges
level_judged own users w v u (holds engine (holds user (holds level (holds digest e)))) = subst (λ (x : Verified). HasUserAt users x.fields.user (level_of x.parts.header)) (sym (same_ok v u e)) (level user)

level_verified : (own : List ℕ) (users : List User) (w : List ℕ) (v : Verified) → Verifies (agent own) users w (Ok v) → HasUserAt users v.fields.user (level_of v.parts.header)
unfolding Verifies
level_verified own users w u (gives v reads judges) = level_judged own users w v u judges

and_left : (a b : Bool) → (a && b) ≡ true → a ≡ true
and_left true b e = refl
and_left false b e = absurd cc

less : (o : Option User) (P Q : User → Type 0) → ((u : User) → P u → Q u) → IsSomeAnd o P → IsSomeAnd o Q
less None P Q f h = h
less (Some u) P Q f h = f u h

level_cases : (h : Header) → h.auth ≡ true → (level_of h ≡ AuthNoPriv) ⊎ (level_of h ≡ AuthPriv)
level_cases h auth = by_privacy h.privacy refl
  where
    by_privacy : (b : Bool) → h.privacy ≡ b → (level_of h ≡ AuthNoPriv) ⊎ (level_of h ≡ AuthPriv)
    by_privacy true e = inr (rw (auth, e) refl)
    by_privacy false e = inl (rw (auth, e) refl)

lower : (users : List User) (name : List ℕ) (l : Level) → (l ≡ AuthNoPriv) ⊎ (l ≡ AuthPriv) → HasUserAt users name l → HasUserAt users name AuthNoPriv
lower users name l (inl e) h = subst (HasUserAt users name) e h
lower users name l (inr e) h = less (user_named users name) _ _ (λ u. and_left (is_some u.auth) (is_some u.privacy)) (subst (HasUserAt users name) e h)

module _ (read : (side : Side) (users : List User) (w : List ℕ) (v : Verified) → Verifies side users w (Ok v) → IsReadAs w v)
    (one : (w : List ℕ) (m n : Parts) → Outer w m → Outer w n → m ≡ n)
    (one_fields : (at : ℕ) (x : List ℕ) (s t : Fields) → SecText at x s → SecText at x t → s ≡ t) where
  same_user : (w : List ℕ) (v : Verified) (a : AsksForReport w) → IsReadAs w v → v.fields.user ≡ a.security.fields.user
  same_user w v a is =
      let parts : v.parts ≡ a.outer.parts = sym (same_parts w one v.parts is.outer a) in
      let there = subst (λ (x : Parts). SecText x.security_at x.security v.fields) parts is.security in
      ap (λ (f : Fields). f.user) (one_fields a.outer.parts.security_at a.outer.parts.security v.fields a.security.fields there a.security.is)

  -- the user of a message outside the window has authentication
  pub known : (own : List ℕ) (boots started now : ℕ) (r : Refusal) (users : List User) (w : List ℕ) (a : ReportedMessage) → r ≡ NotInWindow → Outcome (as_agent own boots started) users now w (Err r) → IsAsking w a
      → HasUserAt users a.user.now AuthNoPriv
  known own boots started now r users w a e rows is =
      let (v, verified, auth) = outcome_stale (as_agent own boots started) users now w r e rows in
      let level = level_verified own users w v verified in
      let has = lower users v.fields.user (level_of v.parts.header) (level_cases v.parts.header auth) level in
      subst (λ (name : List ℕ). HasUserAt users name AuthNoPriv) (same_user w v is.asks (read (agent own) users w v verified) ∙ is.user_is) has

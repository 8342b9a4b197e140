-- Reports.
use Rattle.snmp_message.specs.declared.refusal.Refusal.{Refusal}
use Rattle.std.proofs.Common.{◌≡◌, ℕ, List, Bool, true, false, refl, sym, subst, ◌∙◌}
use Rattle.std.specs.Prelude.{◌==◌, ◌≢◌, if◌then◌else◌, Option, Some, None, Result, Ok, Err, IfSome, IsSomeAnd}
use Rattle.std.proofs.lemmas.Bool.{eqb-true}
use Rattle.snmp_ber.specs.declared.level.Level.{Level}
use Rattle.snmp_ber.specs.declared.level.Level.TheVariants.{NoAuthNoPriv, AuthNoPriv}
use Rattle.snmp_message.specs.Level.{level_of}
use Rattle.engine_clock.specs.Pairs.{BootsAndTime}
use Rattle.usm_users.specs.User.{User}
use Rattle.usm_users.specs.Users.{user_named, supports, HasUser, HasUserAt}
use Rattle.usm_core.specs.Table.{Needs, holds, fails, refusal_answer}
use Rattle.snmp_message.specs.Numbers.{in_table}
use Rattle.usm_core.specs.Sealed.{Sending, SealedText, Seals, IsSealable}
use Rattle.snmp_message.specs.declared.refusal.Refusal.TheVariants.{NotMessage, BadVersion, NotSecurity, NotScoped, NotPdu, UnknownEngine, UnknownUser, UnsupportedLevel, WrongDigest, NotInWindow, DecryptionError, BadScoped, BadPdu, OutOfMemory, ClockExhausted, TooLarge, UnknownModel, InvalidFlags}
use Rattle.snmp_outgoing.specs.Bodies.{has_auth, has_privacy, header_at}
use Rattle.snmp_agent.specs.declared.reported_message.ReportedMessage.{ReportedMessage}
use Rattle.snmp_agent.specs.RefusalCounters.{counter_of, counter_at}
use Rattle.snmp_agent.specs.Report.{AsksForReport, IsAsking, IsReport, offered, missing, reporting_of}

module _ (users : List User) (engine : List ℕ) (own : BootsAndTime) (counters w : List ℕ) (r : Refusal) where
  pub not_counted : None ≡ counter_of r → IsReport users engine own counters w r None
  not_counted none = missing (λ o. let e : ◌≡◌ {A = Option ℕ} None (Some o.counter) = none ∙ o.counter_is in absurd cc)

  pub not_asked : (AsksForReport w → ⊥) → IsReport users engine own counters w r None
  not_asked never = missing (λ o. never o.asks)

  pub is_offered : (k : ℕ) → Some k ≡ counter_of r → (a : ReportedMessage) → IsAsking w a → (text : List ℕ) → SealedText users (reporting_of engine own k a (counter_at counters k)) text
      → IsReport users engine own counters w r (Some text)
  is_offered k counter a is text sealed =
      offered (record { counter = k; counter_is = sym counter; asks = is.asks }) a.request_id text is.copied (rw (is.id_is, is.user_is) sealed)

-- ---- what sending answers

below_row : {X : Type 0} (P : Type 0) (k r : Refusal) (below : P → Result X Refusal → Type 0) → P → Needs P k below (Err r) → (p : P) × below p (Err r)
below_row P k r below p (holds q x) = (q, x)
below_row P k r below p (fails never) = absurd (never p)

has_user : (users : List User) (name : List ℕ) (l : Level) → HasUserAt users name l → HasUser users name
has_user users name l h = by_user (user_named users name) h
  where
    by_user : (o : Option User) → IsSomeAnd o (λ user. supports user l ≡ true) → IsSomeAnd o (λ user. Unit {0})
    by_user None h = h
    by_user (Some user) h = tt

-- of a message that no row before the text refuses the refusal is TooLarge
pub only_too_large : (users : List User) (m : Sending) (n : Refusal) → IsSealable users m → Seals users m (Err n) → n ≡ TooLarge
unfolding Seals
only_too_large users m n is rows =
    let flags = below_row _ InvalidFlags n _ is.flags rows in
    let user = below_row _ UnknownUser n _ (λ auth. has_user users m.user (level_of m.header) (is.user auth)) flags.1 in
    let level = below_row _ UnsupportedLevel n _ is.user user.1 in
    level.1.0

pub seals_text : (users : List User) (m : Sending) (text : List ℕ) → Seals users m (Ok text) → SealedText users m text
unfolding Seals
seals_text users m text (holds flags (holds user (holds level w))) = w.0

-- so sending answers out of memory or TooLarge
pub refusal_is : (users : List User) (m : Sending) (r : Refusal) → IsSealable users m → IfSome (refusal_answer r) (Seals users m) → in_table r ≢ None → r ≡ TooLarge
refusal_is users m NotMessage is h other = only_too_large users m NotMessage is h
refusal_is users m BadVersion is h other = only_too_large users m BadVersion is h
refusal_is users m NotSecurity is h other = only_too_large users m NotSecurity is h
refusal_is users m NotScoped is h other = only_too_large users m NotScoped is h
refusal_is users m NotPdu is h other = only_too_large users m NotPdu is h
refusal_is users m UnknownEngine is h other = only_too_large users m UnknownEngine is h
refusal_is users m UnknownUser is h other = only_too_large users m UnknownUser is h
refusal_is users m UnsupportedLevel is h other = only_too_large users m UnsupportedLevel is h
refusal_is users m WrongDigest is h other = only_too_large users m WrongDigest is h
refusal_is users m NotInWindow is h other = only_too_large users m NotInWindow is h
refusal_is users m DecryptionError is h other = only_too_large users m DecryptionError is h
refusal_is users m BadScoped is h other = only_too_large users m BadScoped is h
refusal_is users m BadPdu is h other = only_too_large users m BadPdu is h
refusal_is users m OutOfMemory is h other = absurd (other refl)
refusal_is users m ClockExhausted is h other = only_too_large users m ClockExhausted is h
refusal_is users m TooLarge is h other = refl
refusal_is users m UnknownModel is h other = only_too_large users m UnknownModel is h
refusal_is users m InvalidFlags is h other = only_too_large users m InvalidFlags is h

-- ---- a report passes the rows before its text

at_two : (b : Bool) → has_auth (if b then AuthNoPriv else NoAuthNoPriv) ≡ true → b ≡ true
at_two true e = refl
at_two false e = absurd cc

no_privacy : (b : Bool) (P : Type 0) → has_privacy (if b then AuthNoPriv else NoAuthNoPriv) ≡ true → P
no_privacy true P e = absurd cc
no_privacy false P e = absurd cc

level_two : (b : Bool) (id : ℕ) → b ≡ true → level_of (header_at (if b then AuthNoPriv else NoAuthNoPriv) id false) ≡ AuthNoPriv
level_two true id e = refl
level_two false id e = absurd cc

pub report_sealable : (users : List User) (engine : List ℕ) (own : BootsAndTime) (k : ℕ) (a : ReportedMessage) (value : ℕ) → (k ≡ 2 → HasUserAt users a.user.now AuthNoPriv)
    → IsSealable users (reporting_of engine own k a value)
report_sealable users engine own k a value has = record {
  flags = λ e. no_privacy (k == 2) _ e;
  user = λ e.
      let two = at_two (k == 2) e in
      subst (HasUserAt users a.user.now) (sym (level_two (k == 2) a.id two)) (has (eqb-true k 2 two));
}

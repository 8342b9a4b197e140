-- The rows of what is sent.
use Rattle.std.proofs.Common.{◌≡◌, ℕ, ◌<◌, ◌≤◌, List, true, length, refl, sym, ap, subst, ◌∙◌, arith}
use Rattle.std.specs.Prelude.{Result, Ok, Err, Option, Some, None, IfSome, IsSomeAnd, IsErrAnd}
use Rattle.std.specs.Global.{Vec}
use Rattle.snmp_ber.specs.declared.level.Level.{Level}
use Rattle.snmp_message.specs.declared.refusal.Refusal.{Refusal}
use Rattle.snmp_message.specs.Level.{level_of}
use Rattle.usm_users.specs.User.{User}
use Rattle.snmp_message.specs.declared.refused_at.RefusedAt.{RefusedAt}
use Rattle.usm_users.specs.Users.{user_named, HasUserAt}
use Rattle.usm_core.specs.Refusals.{RefusesUser}
use Rattle.usm_core.specs.Table.{holds, fails, refusal_answer}
use Rattle.snmp_message.specs.declared.refusal.Refusal.TheVariants.{NotMessage, BadVersion, NotSecurity, NotScoped, NotPdu, UnknownEngine, UnknownUser, UnsupportedLevel, WrongDigest, NotInWindow, DecryptionError, BadScoped, BadPdu, OutOfMemory, ClockExhausted, TooLarge, UnknownModel, InvalidFlags}
use Rattle.snmp_message.specs.Refusals.{IsRefused}
use Rattle.usm_core.specs.Answers.{seal_answer}
use Rattle.usm_core.specs.Sealed.{Sending, SealedText, Seals, IsSealable}

pub known : (o : Option User) (P : User → Type 0) → IsSomeAnd o P → IsSomeAnd o (λ _. Unit {0})
known None P h = h
known (Some user) P h = tt

-- ---- the rows before the text

module _ (users : List User) (m : Sending) (level : Level) (flags : m.header.privacy ≡ true → m.header.auth ≡ true) (at : level_of m.header ≡ level) where
  user_rows : (r : Refusal) → RefusesUser users m.user level r → m.header.auth ≡ true → IfSome (refusal_answer r) (Seals users m)
  unfolding Seals
  user_rows NotMessage none auth = absurd none
  user_rows BadVersion none auth = absurd none
  user_rows NotSecurity none auth = absurd none
  user_rows NotScoped none auth = absurd none
  user_rows NotPdu none auth = absurd none
  user_rows UnknownEngine none auth = absurd none
  user_rows UnknownUser none auth = holds flags (fails (λ h. none (h auth)))
  user_rows UnsupportedLevel none auth = holds flags (holds (λ _. none.0) (fails (λ h. none.1 (subst (HasUserAt users m.user) at (h auth)))))
  user_rows WrongDigest none auth = absurd none
  user_rows NotInWindow none auth = absurd none
  user_rows DecryptionError none auth = absurd none
  user_rows BadScoped none auth = absurd none
  user_rows BadPdu none auth = absurd none
  user_rows OutOfMemory none auth = absurd none
  user_rows ClockExhausted none auth = absurd none
  user_rows TooLarge none auth = absurd none
  user_rows UnknownModel none auth = absurd none
  user_rows InvalidFlags none auth = absurd none

  -- the user doesn't do
  pub told_user : (r : Result (Vec ℕ) RefusedAt) (fault : RefusedAt) → IsErrAnd r (λ e. e ≡ fault) → RefusesUser users m.user level fault.refusal → m.header.auth ≡ true → IfSome (seal_answer r) (Seals users m)
  told_user (Ok v) fault e s auth = absurd e
  told_user (Err other) fault e s auth = subst (λ (f : RefusedAt). IfSome (refusal_answer f.refusal) (Seals users m)) (sym e) (user_rows fault.refusal s auth)

  -- that refusal is neither out of memory nor TooLarge
  user_only : (r : Refusal) → RefusesUser users m.user level r → (r ≡ OutOfMemory → ⊥) × (r ≡ TooLarge → ⊥)
  user_only NotMessage none = absurd none
  user_only BadVersion none = absurd none
  user_only NotSecurity none = absurd none
  user_only NotScoped none = absurd none
  user_only NotPdu none = absurd none
  user_only UnknownEngine none = absurd none
  user_only UnknownUser none = (λ e. cc e, λ e. cc e)
  user_only UnsupportedLevel none = (λ e. cc e, λ e. cc e)
  user_only WrongDigest none = absurd none
  user_only NotInWindow none = absurd none
  user_only DecryptionError none = absurd none
  user_only BadScoped none = absurd none
  user_only BadPdu none = absurd none
  user_only OutOfMemory none = absurd none
  user_only ClockExhausted none = absurd none
  user_only TooLarge none = absurd none
  user_only UnknownModel none = absurd none
  user_only InvalidFlags none = absurd none

  pub user_no_memory : (r : Result (Vec ℕ) RefusedAt) (fault : RefusedAt) → IsErrAnd r (λ e. e ≡ fault) → RefusesUser users m.user level fault.refusal → IsRefused r OutOfMemory → ⊥
  user_no_memory (Ok v) fault e s is = absurd e
  user_no_memory (Err other) fault e s is = (user_only fault.refusal s).0 (ap (λ (f : RefusedAt). f.refusal) (sym e) ∙ is)

  pub user_not_large : (r : Result (Vec ℕ) RefusedAt) (fault : RefusedAt) → IsErrAnd r (λ e. e ≡ fault) → RefusesUser users m.user level fault.refusal → IsRefused r TooLarge → ⊥
  user_not_large (Ok v) fault e s is = absurd e
  user_not_large (Err other) fault e s is = (user_only fault.refusal s).1 (ap (λ (f : RefusedAt). f.refusal) (sym e) ∙ is)

  module _ (has : m.header.auth ≡ true → HasUserAt users m.user level) where
    at_level : m.header.auth ≡ true → HasUserAt users m.user (level_of m.header)
    at_level auth = subst (HasUserAt users m.user) (sym at) (has auth)

    pub sealable : IsSealable users m
    sealable = record { flags = flags; user = at_level }

    -- ---- a body that is too long by itself

    module _ (least : (text : List ℕ) → SealedText users m text → length m.scoped ≤ length text) where
      pub too_large : 65507 < length m.scoped → Seals users m (Err TooLarge)
      unfolding Seals
      too_large long =
          holds flags (holds (λ auth. known (user_named users m.user) _ (at_level auth)) (holds at_level (refl, λ text s. let l = least text s in omega (arith, l, long))))

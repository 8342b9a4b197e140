-- Fronts of bindings that are sent.
use Rattle.snmp_message.specs.declared.refusal.Refusal.{Refusal}
use Rattle.std.proofs.Common.{◌≡◌, ◌⊎◌, inl, inr, refl, sym, ℕ, ◌≤◌, List, [], length, subst, arith, rules}
use Rattle.std.specs.Prelude.{Result, Ok, Err, Option, Some, None, IfSome, IsErrAnd}
use Rattle.snmp_message.specs.Level.{level_of}
use Rattle.snmp_ber.specs.Element.{IsElement}
use Rattle.snmp_ber.proofs.Spellings.{element-is}
use Rattle.snmp_message.specs.Scoped.{contexts_text, scoped_text}
use Rattle.snmp_msg.specs.Variables.{Variable}
use Rattle.snmp_msg.specs.Pdu.{pdu_text}
use Rattle.usm_users.specs.User.{User}
use Rattle.usm_users.specs.Users.{user_named, HasUserAt}
use Rattle.usm_core.specs.Table.{Needs, holds, fails, refused, refusal_answer}
use Rattle.usm_core.specs.Sealed.{Sending, SealedText, Seals, IsSealable}
use Rattle.snmp_message.specs.declared.refused_at.RefusedAt.{RefusedAt}
use Rattle.snmp_message.specs.declared.refusal.Refusal.TheVariants.{NotMessage, BadVersion, NotSecurity, NotScoped, NotPdu, UnknownEngine, UnknownUser, UnsupportedLevel, WrongDigest, NotInWindow, DecryptionError, BadScoped, BadPdu, OutOfMemory, ClockExhausted, TooLarge, UnknownModel, InvalidFlags}
use Rattle.snmp_outgoing.specs.declared.envelope.Envelope.{Envelope}
use Rattle.snmp_outgoing.specs.declared.front.Front.{Front}
use Rattle.snmp_outgoing.specs.Bodies.{pdu_after, scoped_after}
use Rattle.snmp_outgoing.specs.Sends.{RefusesSender, sent_with}
use Rattle.snmp_outgoing.specs.Fronts.{FrontText, SealsFront, front_answer}
use Rattle.snmp_outgoing.specs.declared.front.Fronted.{Fronted}
use Rattle.snmp_outgoing.proofs.Levels.{flags_at, level_at, element_longer}
use Rattle.snmp_outgoing.proofs.Refusing.{known}

-- a row whose condition holds
pass : {X : Type 0} (P : Type 0) (k : Refusal) (below : P → Result X Refusal → Type 0) (answer : Result X Refusal) → Needs P k below answer → P → (p : P) × below p answer
pass P k below answer (holds p x) h = (p, x)
pass P k below answer (fails never) h = absurd (never h)

-- a row that gives what is below it
passed : {X : Type 0} (P : Type 0) (k : Refusal) (below : P → Result X Refusal → Type 0) (x : X) → Needs P k below (Ok x) → (p : P) × below p (Ok x)
passed P k below x (holds p y) = (p, y)

-- what was sealed is a text of the message
pub sealed_text : (users : List User) (m : Sending) (text : List ℕ) → Seals users m (Ok text) → SealedText users m text
unfolding Seals
sealed_text users m text rows =
    let flags = passed _ InvalidFlags _ text rows in
    let user = passed _ UnknownUser _ text flags.1 in
    let level = passed _ UnsupportedLevel _ text user.1 in
    level.1.0

-- a ScopedPDU that isn't too long is one element
pub scoped_is : (f : Front) (vs : List Variable) → length (scoped_after f vs) ≤ 131014 → (content : List ℕ) × IsElement 48 content (scoped_after f vs)
unfolding scoped_text
scoped_is f vs short =
    let content = contexts_text f.context_engine.now f.context_name.now (pdu_text (pdu_after f vs)) in
    (content, element-is 48 content (search rules) (omega (arith, short, element_longer 48 content)))

-- Where the rows before the text let a message through, and it has a text that isn't too long, it isn't refused.
pub not_refused : (users : List User) (m : Sending) → IsSealable users m → (text : List ℕ) → SealedText users m text → length text ≤ 65507 → (n : Refusal) → Seals users m (Err n) → ⊥
unfolding Seals
not_refused users m ok text sealed short n rows =
    let flags = pass _ InvalidFlags _ (Err n) rows ok.flags in
    let user = pass _ UnknownUser _ (Err n) flags.1 (λ auth. known (user_named users m.user) _ (ok.user auth)) in
    let level = pass _ UnsupportedLevel _ (Err n) user.1 ok.user in
    omega (arith, level.1.1 text sealed, short)

pub if_each : (o : Option Refusal) (P : Result (List ℕ) Refusal → Type 0) (Q : Result FrontText Refusal → Type 0) → ((n : Refusal) → P (Err n) → Q (Err n)) → IfSome (refused o) P → IfSome (refused o) Q
if_each None P Q each h = tt
if_each (Some n) P Q each h = each n h

-- whether a row lets the message through
by_row : {X : Type 0} (P : Type 0) (k n : Refusal) (below : P → Result X Refusal → Type 0) → Needs P k below (Err n) → ((p : P) × below p (Err n)) ⊎ ((P → ⊥) × (n ≡ k))
by_row P k n below (holds p x) = inl (p, x)
by_row P k n below (fails never) = inr (never, refl)

-- messages of this user at this level can't go out
module _ (users : List User) (e : Envelope) (limit : ℕ) (after : List Variable → List ℕ) (vs : List Variable) where
  at_level : HasUserAt users e.user.now (level_of (sent_with e (after [])).header) → HasUserAt users e.user.now e.level
  at_level = subst (HasUserAt users e.user.now) (level_at e.level e.id e.reportable)

  pub sender_rows : (r : Refusal) → RefusesSender users e.user.now e.level r → IfSome (refusal_answer r) (SealsFront users limit (λ ws. sent_with e (after ws)) vs)
  unfolding Seals
  sender_rows NotMessage none = absurd none.1
  sender_rows BadVersion none = absurd none.1
  sender_rows NotSecurity none = absurd none.1
  sender_rows NotScoped none = absurd none.1
  sender_rows NotPdu none = absurd none.1
  sender_rows UnknownEngine none = absurd none.1
  sender_rows UnknownUser none = inl (holds (flags_at e.level) (fails (λ h. none.1 (h none.0))))
  sender_rows UnsupportedLevel none = inl (holds (flags_at e.level) (holds (λ _. none.1.0) (fails (λ h. none.1.1 (at_level (h none.0))))))
  sender_rows WrongDigest none = absurd none.1
  sender_rows NotInWindow none = absurd none.1
  sender_rows DecryptionError none = absurd none.1
  sender_rows BadScoped none = absurd none.1
  sender_rows BadPdu none = absurd none.1
  sender_rows OutOfMemory none = absurd none.1
  sender_rows ClockExhausted none = absurd none.1
  sender_rows TooLarge none = absurd none.1
  sender_rows UnknownModel none = absurd none.1
  sender_rows InvalidFlags none = absurd none.1

  -- what refuses the message with some variables refuses it without any, but for what is found as it is written
  pub refused_before : (ws : List Variable) (n : Refusal) → Seals users (sent_with e (after ws)) (Err n) → Seals users (sent_with e (after [])) (Err n) ⊎ IsSealable users (sent_with e (after ws))
  unfolding Seals
  refused_before ws n rows = elim (by_row _ InvalidFlags n _ rows) [
    | inl flags ↦ elim (by_row _ UnknownUser n _ flags.1) [
      | inl user ↦ elim (by_row _ UnsupportedLevel n _ user.1) [
        | inl level ↦ inr (record { flags = flags.0; user = level.0 })
        | inr never ↦ inl (holds flags.0 (holds user.0 (rw never.1 (fails never.0))))
      ]
      | inr never ↦ inl (holds flags.0 (rw never.1 (fails never.0)))
    ]
    | inr never ↦ inl (rw never.1 (fails never.0))
  ]

  pub front_refused : (r : Result Fronted RefusedAt) (fault : RefusedAt) → IsErrAnd r (λ x. x ≡ fault) → IfSome (refusal_answer fault.refusal) (SealsFront users limit (λ ws. sent_with e (after ws)) vs) → IfSome (front_answer r) (SealsFront users limit (λ ws. sent_with e (after ws)) vs)
  front_refused (Ok f) fault is rows = absurd is
  front_refused (Err other) fault is rows = subst (λ (x : RefusedAt). IfSome (refusal_answer x.refusal) (SealsFront users limit (λ ws. sent_with e (after ws)) vs)) (sym is) rows

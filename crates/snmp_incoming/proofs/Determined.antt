-- The table gives one answer, and its row BadScoped is of a sealed message.
use Rattle.snmp_message.specs.declared.refusal.Refusal.TheVariants.{NotMessage, BadVersion, NotSecurity, NotScoped, NotPdu, UnknownEngine, UnknownUser, UnsupportedLevel, WrongDigest, NotInWindow, DecryptionError, BadScoped, BadPdu, OutOfMemory, ClockExhausted, TooLarge, UnknownModel, InvalidFlags}
use Rattle.snmp_message.specs.declared.refusal.Refusal.{Refusal}
use Rattle.std.proofs.Common.{◌≡◌, ℕ, ◌-◌, List, [], ◌++◌, append-nil, Bool, true, false, Option, Some, None, drop, refl, sym, ap, subst, ◌∙◌, inl, inr}
use Rattle.std.specs.Prelude.{Result, Ok, Err, IsSomeAnd, MatchBool}
use Rattle.snmp_message.specs.Layout.{Parts, Outer}
use Rattle.snmp_message.specs.Scoped.{Contexts, HasScoped, ScopedFront, ScopedText}
use Rattle.snmp_msg.specs.Pdu.{PduParts, PduText}
use Rattle.snmp_message.specs.Level.{level_of}
use Rattle.usm_users.specs.User.{User}
use Rattle.usm_users.specs.Users.{user_named}
use Rattle.usm_core.specs.Sealed.{IsPlaintext}
use Rattle.usm_core.specs.Table.{Needs, Then, holds, fails, gives, refuses}
use Rattle.usm_core.proofs.Determined.{needs_one, then_one, no_row, IsNoRow}
use Rattle.usm_core.specs.Verified.{Side, Verified, Verifies, IsReadAs}
use Rattle.snmp_incoming.specs.Texts.{FrontOf, PduOf}
use Rattle.snmp_incoming.specs.Outcome.{Given, Taker, side_at, ClockRuns, IsTextOf, ReadsText, ReadsMessage, Weighs, Outcome}

-- ---- one text

same_key : {K : Type 0} (o : Option K) (f : K → List ℕ) (a b : List ℕ) → IsSomeAnd o (λ key. a ≡ f key) → IsSomeAnd o (λ key. b ≡ f key) → a ≡ b
same_key None f a b p q = absurd p
same_key (Some key) f a b p q = p ∙ sym q

same_user : {K : Type 0} (o : Option User) (f : User → Option K) (g : K → List ℕ) (a b : List ℕ)
    → IsSomeAnd o (λ user. IsSomeAnd (f user) (λ key. a ≡ g key)) → IsSomeAnd o (λ user. IsSomeAnd (f user) (λ key. b ≡ g key)) → a ≡ b
same_user None f g a b p q = absurd p
same_user (Some user) f g a b p q = same_key (f user) g a b p q

by_privacy : (privacy : Bool) (P Q : List ℕ → Type 0) (a b : List ℕ) → ((x y : List ℕ) → P x → P y → x ≡ y) → ((x y : List ℕ) → Q x → Q y → x ≡ y)
    → MatchBool privacy (P a) (Q a) → MatchBool privacy (P b) (Q b) → a ≡ b
by_privacy true P Q a b p q x y = p a b x y
by_privacy false P Q a b p q x y = q a b x y

pub text_one : (users : List User) (w : List ℕ) (v : Verified) (a b : List ℕ) → IsTextOf users w v a → IsTextOf users w v b → a ≡ b
text_one users w v a b =
    by_privacy v.parts.header.privacy (IsPlaintext users v.fields v.parts.data_content) (λ t. t ≡ drop v.parts.data_at w) a b
    (λ x y p q. same_user (user_named users v.fields.user) (λ u. u.privacy) _ x y p q) (λ x y p q. p ∙ sym q)

-- ---- one answer

module _ (front : (z : List ℕ) (s t : Contexts) → ScopedFront z s → ScopedFront z t → s ≡ t) (pdu : (z : List ℕ) (p q : PduParts) → PduText z p → PduText z q → p ≡ q) where
  text_answer_one : (v : Verified) (text : List ℕ) (a b : Result Given Refusal) → ReadsText v text a → ReadsText v text b → a ≡ b
  unfolding ReadsText
  text_answer_one v text =
      needs_one (FrontOf text) BadScoped _ (λ s t a b x y.
      let same : s.contexts.pdu ≡ t.contexts.pdu = ap (λ (c : Contexts). c.pdu) (front text s.contexts t.contexts s.is t.is) in
      needs_one (PduOf t.contexts.pdu) BadPdu (λ p c. c ≡ Ok (record { engine = v.fields.engine; user = v.fields.user; level = level_of v.parts.header; id = v.parts.header.id; max_size = v.parts.header.max_size; tag = p.pdu.tag; text = text }))
      (λ p q c d e f. e ∙ ap (λ (r : PduParts). Ok (record { engine = v.fields.engine; user = v.fields.user; level = level_of v.parts.header; id = v.parts.header.id; max_size = v.parts.header.max_size; tag = r.tag; text = text })) (pdu t.contexts.pdu p.pdu q.pdu p.is q.is) ∙ sym f)
      a b
      (subst (λ (z : List ℕ). Needs (PduOf z) BadPdu (λ p c. c ≡ Ok (record { engine = v.fields.engine; user = v.fields.user; level = level_of v.parts.header; id = v.parts.header.id; max_size = v.parts.header.max_size; tag = p.pdu.tag; text = text })) a) same x)
      y)

  pub message_one : (users : List User) (w : List ℕ) (v : Verified) (a b : Result Given Refusal) → ReadsMessage users w v a → ReadsMessage users w v b → a ≡ b
  message_one users w v a b x y =
      text_answer_one v y.0 a b (subst (λ (z : List ℕ). ReadsText v z a) (text_one users w v x.0 y.0 x.1 y.1) x.2) y.2

  weighs_one : (taker : Taker) (users : List User) (now : ℕ) (w : List ℕ) (v : Verified) (a b : Result Given Refusal) → Weighs taker users now w v a → Weighs taker users now w v b → a ≡ b
  unfolding Weighs
  weighs_one taker users now w v = needs_one _ NotInWindow _ (λ p q. needs_one _ DecryptionError _ (λ r s. message_one users w v))

  pub outcome_one : ((side : Side) (users : List User) (w : List ℕ) (a b : Result Verified Refusal) → Verifies side users w a → Verifies side users w b → a ≡ b)
      → (taker : Taker) (users : List User) (now : ℕ) (w : List ℕ) (a b : Result Given Refusal) → Outcome taker users now w a → Outcome taker users now w b → a ≡ b
  unfolding Outcome
  outcome_one verified taker users now w =
      needs_one _ ClockExhausted _ (λ p q. then_one _ (Weighs taker users now w) (verified (side_at taker) users w) (weighs_one taker users now w))

-- ---- row BadScoped

abbrev IsBadScoped : Refusal → Type 0
IsBadScoped BadScoped = Unit {0}
IsBadScoped _ = ⊥

no_row_of : (r : Refusal) → IsBadScoped r → IsNoRow r
no_row_of NotMessage bad = absurd bad
no_row_of BadVersion bad = absurd bad
no_row_of NotSecurity bad = absurd bad
no_row_of NotScoped bad = absurd bad
no_row_of NotPdu bad = absurd bad
no_row_of UnknownEngine bad = absurd bad
no_row_of UnknownUser bad = absurd bad
no_row_of UnsupportedLevel bad = absurd bad
no_row_of WrongDigest bad = absurd bad
no_row_of NotInWindow bad = absurd bad
no_row_of DecryptionError bad = absurd bad
no_row_of BadScoped bad = tt
no_row_of BadPdu bad = absurd bad
no_row_of OutOfMemory bad = absurd bad
no_row_of ClockExhausted bad = absurd bad
no_row_of TooLarge bad = absurd bad
no_row_of UnknownModel bad = absurd bad
no_row_of InvalidFlags bad = absurd bad

-- the text of that row begins with no ScopedPDU
no_front : (v : Verified) (text : List ℕ) (r : Refusal) → IsBadScoped r → ReadsText v text (Err r) → FrontOf text → ⊥
unfolding ReadsText
no_front v text r bad (fails never) f = never f
no_front v text r bad (holds s (fails never)) f = bad
no_front v text r bad (holds s (holds p is)) f = cc is

-- another refusal than the row's own comes from below it
passed : {X : Type 0} (P : Type 0) (row : Refusal) (below : Result X Refusal → Type 0) (n : Refusal) → (n ≡ row → ⊥) → Needs P row (λ _. below) (Err n) → below (Err n)
passed P row below n other (holds p x) = x
passed P row below n other (fails never) = absurd (other refl)

whole : (xs : List ℕ) → xs ≡ xs ++ []
whole xs = simp append-nil

module _ (read : (side : Side) (users : List User) (w : List ℕ) (v : Verified) → Verifies side users w (Ok v) → IsReadAs w v)
    (scoped : (w : List ℕ) (m : Parts) (s : Contexts) → Outer w m → HasScoped w m s → ScopedText 0 (drop m.data_at w) (record s { pdu_at = s.pdu_at - m.data_at })) where
  plain_front : (w : List ℕ) (v : Verified) → IsReadAs w v → v.parts.header.privacy ≡ false → FrontOf (drop v.parts.data_at w)
  plain_front w v r plain = elim r.data_agrees [
    | inl sealed ↦ let wrong : true ≡ false = sym sealed.0 ∙ plain in absurd (cc wrong)
    | inr s ↦ record { contexts = record s.0 { pdu_at = s.0.pdu_at - v.parts.data_at }; is = (drop v.parts.data_at w, [], whole (drop v.parts.data_at w), scoped w v.parts s.0 r.outer s.1) }
  ]

  sealed_by : (users : List User) (w : List ℕ) (v : Verified) (text : List ℕ) → IsReadAs w v → (privacy : Bool) → v.parts.header.privacy ≡ privacy
      → MatchBool privacy (IsPlaintext users v.fields v.parts.data_content text) (text ≡ drop v.parts.data_at w) → (FrontOf text → ⊥) → v.parts.header.privacy ≡ true
  sealed_by users w v text r true e is none = e
  sealed_by users w v text r false e is none = absurd (none (subst (λ (z : List ℕ). FrontOf z) (sym is) (plain_front w v r e)))

  message_sealed : (users : List User) (w : List ℕ) (v : Verified) (r : Refusal) → IsBadScoped r → IsReadAs w v → ReadsMessage users w v (Err r) → v.parts.header.privacy ≡ true
  message_sealed users w v r bad read-as x = sealed_by users w v x.0 read-as v.parts.header.privacy refl x.1 (no_front v x.0 r bad x.2)

  weighs_sealed : (taker : Taker) (users : List User) (now : ℕ) (w : List ℕ) (v : Verified) (r : Refusal) → IsBadScoped r → IsReadAs w v → Weighs taker users now w v (Err r) → v.parts.header.privacy ≡ true
  unfolding Weighs
  weighs_sealed taker users now w v r bad read-as (fails never) = absurd bad
  weighs_sealed taker users now w v r bad read-as (holds _ (fails never)) = absurd bad
  weighs_sealed taker users now w v r bad read-as (holds _ (holds _ x)) = message_sealed users w v r bad read-as x

  then_sealed : (taker : Taker) (users : List User) (now : ℕ) (w : List ℕ) (r : Refusal) → IsBadScoped r → Then (Verifies (side_at taker) users w) (Weighs taker users now w) (Err r)
      → (v : Verified) × Verifies (side_at taker) users w (Ok v) × (v.parts.header.privacy ≡ true)
  then_sealed taker users now w r bad (gives v rows x) = (v, rows, weighs_sealed taker users now w v r bad (read (side_at taker) users w v rows) x)
  then_sealed taker users now w r bad (refuses k rows) = absurd (no_row (side_at taker) users w k (no_row_of k bad) rows)

  pub outcome_sealed : (taker : Taker) (users : List User) (now : ℕ) (w : List ℕ) → Outcome taker users now w (Err BadScoped)
      → (v : Verified) × Verifies (side_at taker) users w (Ok v) × (v.parts.header.privacy ≡ true)
  unfolding Outcome
  outcome_sealed taker users now w x = then_sealed taker users now w BadScoped tt (passed (ClockRuns taker now) ClockExhausted (Then (Verifies (side_at taker) users w) (Weighs taker users now w)) BadScoped (λ is. absurd cc) x)

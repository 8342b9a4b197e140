-- At noAuthNoPriv no salt is sent, so it doesn't matter which is handed over.
use Rattle.snmp_message.specs.declared.refusal.Refusal.{Refusal}
use Rattle.std.proofs.Common.{◌≡◌, ℕ, List, [], Bool, true, false, Option, Some, None, refl, ◌∙◌}
use Rattle.std.specs.Prelude.{Result, Ok, Err, IfSome, MatchBool, if◌then◌else◌}
use Rattle.usm_users.specs.User.{User}
use Rattle.usm_core.specs.Table.{holds, fails}
use Rattle.usm_core.specs.Sealed.{Sending, SealedText, Seals, Writes, spelled_with}

-- the same message with this salt
abbrev pub salted : Sending → List ℕ → Sending
salted m salt = record { header = m.header; engine = m.engine; pair = m.pair; user = m.user; salt = salt; scoped = m.scoped }

no_salt : (b : Bool) (x y : List ℕ) → b ≡ false → (if b then x else []) ≡ (if b then y else [])
no_salt true x y e = absurd cc
no_salt false x y e = refl

by_false : (b : Bool) (P Q R S : Type 0) → b ≡ false → (Q → S) → MatchBool b P Q → MatchBool b R S
by_false true P Q R S e f h = absurd cc
by_false false P Q R S e f h = f h

module _ (users : List User) (m : Sending) (salt : List ℕ) (auth : m.header.auth ≡ false) (privacy : m.header.privacy ≡ false) where
  same_spelling : (tag : ℕ) (content code : List ℕ) → spelled_with m tag content code ≡ spelled_with (salted m salt) tag content code
  unfolding spelled_with
  same_spelling tag content code = rw (no_salt m.header.privacy m.salt salt privacy) refl

  pub sealed_salted : (text : List ℕ) → SealedText users m text → SealedText users (salted m salt) text
  sealed_salted text s = record {
    tag = s.tag;
    content = s.content;
    is_data = by_false m.header.privacy _ _ _ _ privacy (λ d. d) s.is_data;
    is_text = by_false m.header.auth _ _ _ _ auth (λ e. e ∙ same_spelling s.tag s.content []) s.is_text;
  }

module _ (users : List User) (m : Sending) (salt : List ℕ) (auth : m.header.auth ≡ false) (privacy : m.header.privacy ≡ false) where
  writes_salted : (answer : Result (List ℕ) Refusal) → Writes users m answer → Writes users (salted m salt) answer
  writes_salted (Ok text) w = (sealed_salted users m salt auth privacy text w.0, w.1)
  writes_salted (Err n) w = (w.0, λ text s. w.1 text (sealed_salted users (salted m salt) m.salt auth privacy text s))

  seals_salted : (answer : Result (List ℕ) Refusal) → Seals users m answer → Seals users (salted m salt) answer
  unfolding Seals
  seals_salted answer (holds flags (holds user (holds level w))) = holds flags (holds user (holds level (writes_salted answer w)))
  seals_salted answer (holds flags (holds user (fails never))) = holds flags (holds user (fails never))
  seals_salted answer (holds flags (fails never)) = holds flags (fails never)
  seals_salted answer (fails never) = fails never

  pub answer_salted : (answer : Option (Result (List ℕ) Refusal)) → IfSome answer (Seals users m) → IfSome answer (Seals users (salted m salt))
  answer_salted None h = h
  answer_salted (Some answer) h = seals_salted answer h

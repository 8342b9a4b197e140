-- How long a sealed text is: no shorter than its scoped PDU, and not much longer than its parts.
use Rattle.snmp_message.specs.declared.refusal.Refusal.TheVariants.{InvalidFlags, UnknownUser, UnsupportedLevel}
use Rattle.snmp_message.specs.declared.refusal.Refusal.{Refusal}
use Rattle.std.proofs.Common.{◌≡◌, ℕ, ◌+◌, ◌<◌, ◌≤◌, Bool, true, false, List, [], length, replicate, refl, sym, ap, subst, ◌∙◌, inl, inr, arith, Option, Some, None}
use Rattle.std.specs.Prelude.{Result, Ok, Err, IfSome, IsSomeAnd, MatchBool, if◌then◌else◌}
use Rattle.std.specs.Global.{Vec}
use Rattle.std.proofs.lemmas.List.{length-append}
use Rattle.snmp_ber.specs.Element.{IsElement, IsLength}
use Rattle.snmp_message.specs.declared.header.Header.{Header}
use Rattle.snmp_message.specs.Security.{Fields, FieldsFit, security_text}
use Rattle.snmp_message.specs.Spelling.{HeaderFits, message_text}
use Rattle.usm_keys.specs.declared.auth.Auth.{Auth}
use Rattle.usm_keys.specs.Keys.{kul}
use Rattle.usm_keys.specs.Protocols.{hash_of, mac_octets}
use Rattle.usm_keys.proofs.Sizes.{length-mac, mac_octets-most}
use Rattle.usm_users.specs.User.{User}
use Rattle.snmp_message.specs.declared.refused_at.RefusedAt.{RefusedAt}
use Rattle.snmp_message.specs.declared.refusal.Refusal.TheVariants.{TooLarge}
use Rattle.usm_users.specs.Users.{user_named}
use Rattle.usm_core.specs.Table.{Needs, holds, fails, refusal_answer}
use Rattle.snmp_message.specs.Refusals.{IsRefused}
use Rattle.usm_core.specs.Answers.{seal_answer}
use Rattle.usm_core.specs.Sealed.{Sending, SendingFits, SealedText, Writes, Seals, IsSealable, IsSentData, IsSentText, sent_fields, spelled_with, digest_of}

pub by_bool : (b : Bool) (P Q R : Type 0) → (P → R) → (Q → R) → MatchBool b P Q → R
by_bool true P Q R f g h = f h
by_bool false P Q R f g h = g h

pub from_some : {X : Type 0} (o : Option X) (P : X → Type 0) (Q : Type 0) → ((x : X) → P x → Q) → IsSomeAnd o P → Q
from_some None P Q f h = absurd h
from_some (Some x) P Q f h = f x h

-- ---- msgData

digits_most : (size : ℕ) (octets : List ℕ) → IsLength size octets → length octets ≤ 5
digits_most size octets (inl h) = let e = ap length h.1 in omega (arith, e)
digits_most size octets (inr (digits, some, most, is, e)) = let f = ap length e in omega (arith, f, most)

-- an element is at most 6 octets longer than its content, and no shorter
element_size : (tag : ℕ) (content text : List ℕ) → IsElement tag content text → (length content ≤ length text) × (length text ≤ 6 + length content)
element_size tag content text (head, is, joined) =
    let size = digits_most (length content) is.size_octets is.spells_size in
    let front = ap length is.parts in
    let all : length text ≡ length head + length content = ap length joined ∙ length-append head content in
    (omega (arith, all), omega (arith, size, front, all))

data_size : (users : List User) (m : Sending) (tag : ℕ) (content : List ℕ) → IsSentData users m tag content → (length m.scoped ≤ 6 + length content) × (length content ≤ length m.scoped)
data_size users m tag content =
    by_bool m.header.privacy _ _ ((length m.scoped ≤ 6 + length content) × (length content ≤ length m.scoped))
    (λ d. from_some (user_named users m.user) _ _ (λ u k. from_some u.privacy _ _ (λ key s. (omega (arith, s.same_length), omega (arith, s.same_length))) k) d.1)
    (λ d. let e = element_size 48 content m.scoped d.1 in (e.1, e.0))

code_most : (a : Auth) (code : List ℕ) → length code ≡ mac_octets a → length code ≤ 24
code_most a code e = let most = mac_octets-most a in omega (arith, e, most)

salt_most : (b : Bool) (salt : List ℕ) → length salt ≡ 8 → length (if b then salt else []) ≤ 8
salt_most true salt e = omega (arith, e)
salt_most false salt e = omega arith

-- ---- the whole

module _ (least : (h : Header) (security : List ℕ) (tag : ℕ) (content : List ℕ) → 6 + length content ≤ length (message_text h security tag content))
    (most : (h : Header) (s : Fields) (tag : ℕ) (content : List ℕ) → HeaderFits h → FieldsFit s
    → length (message_text h (security_text s) tag content) ≤ 110 + length s.engine + length s.user + length s.auth + length s.salt + length content)
    (users : List User) (m : Sending) where
  -- whatever follows for each spelling, with a code of at most 24 octets, follows for the text
  for_text : (P : List ℕ → Type 0) (tag : ℕ) (content : List ℕ) → ((auth : List ℕ) → length auth ≤ 24 → P (spelled_with m tag content auth)) → (text : List ℕ) → IsSentText users m tag content text → P text
  for_text P tag content each text =
      by_bool m.header.auth _ _ (P text)
      (λ d. from_some (user_named users m.user) _ _ (λ u k. from_some u.auth _ _ (λ key s.
      let size = length-mac key.auth (kul (hash_of key.auth) key.octets m.engine) (spelled_with m tag content (replicate (mac_octets key.auth) 0)) in
      subst P (sym s) (each (digest_of key m tag content) (code_most key.auth _ size))) k) d)
      (λ d. subst P (sym d) (each [] (omega arith)))

  spelled_least : (tag : ℕ) (content auth : List ℕ) → 6 + length content ≤ length (spelled_with m tag content auth)
  unfolding spelled_with
  spelled_least tag content auth = least m.header (security_text (sent_fields m auth)) tag content

  pub sealed_least : (text : List ℕ) → SealedText users m text → length m.scoped ≤ length text
  sealed_least text s =
      let a = data_size users m s.tag s.content s.is_data in
      let b = for_text (λ t. 6 + length s.content ≤ length t) s.tag s.content (λ auth short. spelled_least s.tag s.content auth) text s.is_text in
      omega (arith, a.0, b)

  spelled_most : SendingFits m → (tag : ℕ) (content auth : List ℕ) → length auth ≤ 24 → length (spelled_with m tag content auth) ≤ 150 + length m.engine + length m.user + length content
  unfolding spelled_with
  spelled_most fits tag content auth short =
      let salt = salt_most m.header.privacy m.salt fits.salt in
      let whole = most m.header (sent_fields m auth) tag content fits.header (record { boots = fits.boots; time = fits.time; user = fits.user }) in
      omega (arith, whole, salt, short)

  pub sealed_most : SendingFits m → (text : List ℕ) → SealedText users m text → length text ≤ 150 + length m.engine + length m.user + length m.scoped
  sealed_most fits text s =
      let a = data_size users m s.tag s.content s.is_data in
      let b = for_text (λ t. length t ≤ 150 + length m.engine + length m.user + length s.content) s.tag s.content (spelled_most fits s.tag s.content) text s.is_text in
      omega (arith, a.1, b)

-- ---- what TooLarge says

-- an answer that isn't the row's comes from below it
below_row : {X : Type 0} (P : Type 0) (k r : Refusal) (below : P → Result X Refusal → Type 0) → (r ≡ k → ⊥) → Needs P k below (Err r) → (p : P) × below p (Err r)
below_row P k r below other (holds p x) = (p, x)
below_row P k r below other (fails never) = absurd (other refl)

pub refused_writes : (users : List User) (m : Sending) → Seals users m (Err TooLarge) → IsSealable users m × Writes users m (Err TooLarge)
unfolding Seals
refused_writes users m rows =
    let flags = below_row _ InvalidFlags TooLarge _ (λ e. absurd cc) rows in
    let user = below_row _ UnknownUser TooLarge _ (λ e. absurd cc) flags.1 in
    let level = below_row _ UnsupportedLevel TooLarge _ (λ e. absurd cc) user.1 in
    (record { flags = flags.0; user = level.0 }, level.1)

large_answer : (users : List User) (m : Sending) (result : Result (Vec ℕ) RefusedAt) → IfSome (seal_answer result) (Seals users m) → IsRefused result TooLarge → Seals users m (Err TooLarge)
large_answer users m (Ok v) rows e = absurd e
large_answer users m (Err fault) rows e = subst (λ (r : Refusal). IfSome (refusal_answer r) (Seals users m)) e rows

pub too_large_long : (users : List User) (m : Sending) → (IsSealable users m → (text : List ℕ) × SealedText users m text) → ((text : List ℕ) → SealedText users m text → length text ≤ 150 + length m.engine + length m.user + length m.scoped)
    → (result : Result (Vec ℕ) RefusedAt) → IfSome (seal_answer result) (Seals users m) → IsRefused result TooLarge → 65507 < 150 + length m.engine + length m.user + length m.scoped
too_large_long users m some most result rows e =
    let w = refused_writes users m (large_answer users m result rows e) in
    let t = some w.0 in
    let above = w.1.1 t.0 t.1 in
    let below = most t.0 t.1 in
    omega (arith, above, below)

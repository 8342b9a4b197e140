-- How long a sealed text is, by the sizes of its parts.
use Rattle.std.proofs.Common.{◌≡◌, ℕ, ◌+◌, ◌<◌, ◌≤◌, Bool, true, false, List, [], ◌++◌, length, replicate, refl, sym, ap, ◌∙◌, arith, rules, Option, Some, None}
use Rattle.std.specs.Prelude.{IsSomeAnd, MatchBool, if◌then◌else◌}
use Rattle.snmp_ber.specs.Element.{IsElement}
use Rattle.snmp_ber.specs.Spelling.{head_size, element}
use Rattle.snmp_ber.proofs.Spellings.{element-is}
use Rattle.snmp_message.specs.declared.header.Header.{Header}
use Rattle.snmp_message.specs.Security.{Fields, FieldsFit, fields_text, security_text}
use Rattle.snmp_message.specs.Spelling.{HeaderFits, number, message_text}
use Rattle.snmp_message.proofs.Lengths.{length_of_six}
use Rattle.snmp_message.proofs.Writes.{element-length, message_text-size}
use Rattle.usm_keys.specs.AuthKey.{AuthKey}
use Rattle.usm_keys.specs.Keys.{kul}
use Rattle.usm_keys.specs.Protocols.{hash_of, mac_octets}
use Rattle.usm_keys.proofs.Sizes.{length-mac}
use Rattle.usm_users.specs.User.{User}
use Rattle.usm_users.specs.Users.{user_named}
use Rattle.usm_core.specs.Sealed.{Sending, SealedText, IsSentData, IsSentText, sent_fields, spelled_with, digest_of}
use Rattle.usm_core.specs.Sizes.{data_size, whole_size}
use Rattle.usm_core.proofs.SealedSizes.{from_some}

-- ---- security parameters

-- an element with a content of n octets
abbrev whole : ℕ → ℕ
whole n = head_size n + n

fields_size : (s : Fields) → length (fields_text s)
    ≡ length (element 4 s.engine) + (length (number s.boots) + (length (number s.time) + (length (element 4 s.user) + (length (element 4 s.auth) + length (element 4 s.salt)))))
unfolding fields_text
fields_size s = length_of_six (element 4 s.engine) (number s.boots) (number s.time) (element 4 s.user) (element 4 s.auth) (element 4 s.salt)

-- elements with contents of one length are as long
same_element : (tag : ℕ) (a b : List ℕ) → length a ≡ length b → length (element tag a) ≡ length (element tag b)
same_element tag a b e = element-length tag a ∙ ap whole e ∙ sym (element-length tag b)

security_size : (s : Fields) → length (security_text s) ≡ whole (length (fields_text s))
unfolding security_text
security_size s = element-length 48 (fields_text s)

-- security parameters that differ by the octets of the code and of the salt alone are as long
pub same_security : (s t : Fields) → s.engine ≡ t.engine → s.boots ≡ t.boots → s.time ≡ t.time → s.user ≡ t.user → length s.auth ≡ length t.auth → length s.salt ≡ length t.salt
    → length (security_text s) ≡ length (security_text t)
same_security s t engine boots time user auth salt =
    let e = same_element 4 s.engine t.engine (ap length engine) in
    let b = ap (λ (n : ℕ). length (number n)) boots in
    let i = ap (λ (n : ℕ). length (number n)) time in
    let u = same_element 4 s.user t.user (ap length user) in
    let a = same_element 4 s.auth t.auth auth in
    let p = same_element 4 s.salt t.salt salt in
    let fields : length (fields_text s) ≡ length (fields_text t) = omega (arith, fields_size s, fields_size t, e, b, i, u, a, p) in
    security_size s ∙ ap whole fields ∙ sym (security_size t)

-- ---- msgData

by_flag : (b : Bool) (P Q : Type 0) (R : Bool → Type 0) → (P → R true) → (Q → R false) → MatchBool b P Q → R b
by_flag true P Q R f g h = f h
by_flag false P Q R f g h = g h

-- A text begins with one element at most.
abbrev pub OneElement : Type 0
OneElement = (a b x y : List ℕ) (tag other_tag : ℕ) (content other_content : List ℕ)
    → IsElement tag content a → IsElement other_tag other_content b → a ++ x ≡ b ++ y → (tag ≡ other_tag) × (content ≡ other_content) × (a ≡ b) × (x ≡ y)

same_content : OneElement → (scoped content octets : List ℕ) → length content < 4294967296 → scoped ≡ element 48 content → IsElement 48 octets scoped → octets ≡ content
same_content one scoped content octets short is e =
    (one scoped (element 48 content) [] [] 48 48 octets content e (element-is 48 content (search rules) short) (ap (λ (t : List ℕ). t ++ []) is)).1

data_length : OneElement → (users : List User) (m : Sending) (content : List ℕ) → length content < 4294967296 → m.scoped ≡ element 48 content → (tag : ℕ) (octets : List ℕ)
    → IsSentData users m tag octets → length octets ≡ data_size m.header.privacy (length content)
data_length one users m content short is tag octets =
    by_flag m.header.privacy _ _ (λ b. length octets ≡ data_size b (length content))
    (λ d. from_some (user_named users m.user) _ _ (λ u k. from_some u.privacy _ _ (λ key s. s.same_length ∙ ap length is ∙ element-length 48 content) k) d.1)
    (λ d. ap length (same_content one m.scoped content octets short is d.1))

-- ---- the whole

by_auth : (b : Bool) (P Q R : Type 0) → (b ≡ true → P → R) → (b ≡ false → Q → R) → MatchBool b P Q → R
by_auth true P Q R f g h = f refl h
by_auth false P Q R f g h = g refl h

some_with : {X : Type 0} (o : Option X) (P : X → Type 0) (Q : Type 0) → ((x : X) → o ≡ Some x → P x → Q) → IsSomeAnd o P → Q
some_with None P Q f h = absurd h
some_with (Some x) P Q f h = f x refl h

-- The number is how many octets the code of the message has.
pub record IsCodeSize (users : List User) (h : Header) (name : List ℕ) (n : ℕ) : Type 0 where
  pub code : h.auth ≡ true → (user : User) (key : AuthKey) → user_named users name ≡ Some user → user.auth ≡ Some key → n ≡ mac_octets key.auth
  pub none : h.auth ≡ false → n ≡ 0

-- The security parameters are the message's but for the octets of its code and of its salt.
pub record AreAlike (m : Sending) (n : ℕ) (s : Fields) : Type 0 where
  pub engine : m.engine ≡ s.engine
  pub boots : m.pair.boots ≡ s.boots
  pub time : m.pair.time ≡ s.time
  pub user : m.user ≡ s.user
  pub auth : length s.auth ≡ n
  pub salt : length (if m.header.privacy then m.salt else []) ≡ length s.salt

module _ (users : List User) (m : Sending) (n : ℕ) (s : Fields) (alike : AreAlike m n s) where
  spelled_length : (tag : ℕ) (octets auth : List ℕ) → length auth ≡ n → length (spelled_with m tag octets auth) ≡ whole_size m.header (length (security_text s)) (length octets)
  unfolding spelled_with
  spelled_length tag octets auth is =
      message_text-size m.header (security_text (sent_fields m auth)) tag octets
      ∙ ap (λ (k : ℕ). whole_size m.header k (length octets)) (same_security (sent_fields m auth) s alike.engine alike.boots alike.time alike.user (is ∙ sym alike.auth) alike.salt)

  text_length : IsCodeSize users m.header m.user n → (tag : ℕ) (octets text : List ℕ) → IsSentText users m tag octets text → length text ≡ whole_size m.header (length (security_text s)) (length octets)
  text_length size tag octets text =
      by_auth m.header.auth _ _ (length text ≡ whole_size m.header (length (security_text s)) (length octets))
      (λ set. some_with (user_named users m.user) _ _ (λ u is_user. some_with u.auth _ _ (λ key is_key is.
      let code = length-mac key.auth (kul (hash_of key.auth) key.octets m.engine) (spelled_with m tag octets (replicate (mac_octets key.auth) 0)) in
      ap length is ∙ spelled_length tag octets (digest_of key m tag octets) (code ∙ sym (size.code set u key is_user is_key)))))
      (λ clear is. ap length is ∙ spelled_length tag octets [] (sym (size.none clear)))

  pub sealed_length : OneElement → IsCodeSize users m.header m.user n → (content : List ℕ) → length content ≤ 65507 → m.scoped ≡ element 48 content → (text : List ℕ) → SealedText users m text
      → length text ≡ whole_size m.header (length (security_text s)) (data_size m.header.privacy (length content))
  sealed_length one size content short is text t =
      text_length size t.tag t.content text t.is_text
      ∙ ap (λ (k : ℕ). whole_size m.header (length (security_text s)) k) (data_length one users m content (omega (arith, short)) is t.tag t.content t.is_data)

-- the same of a size that was computed
pub measured_text : (users : List User) (m : Sending) (n size : ℕ) (s : Fields) → size ≡ length (security_text s) → AreAlike m n s → OneElement → IsCodeSize users m.header m.user n
    → (content : List ℕ) → length content ≤ 65507 → m.scoped ≡ element 48 content → (text : List ℕ) → SealedText users m text
    → length text ≡ whole_size m.header size (data_size m.header.privacy (length content))
measured_text users m n size s measured alike one code content short is text t =
    sealed_length users m n s alike one code content short is text t ∙ ap (λ (k : ℕ). whole_size m.header k (data_size m.header.privacy (length content))) (sym measured)

pub salt_size : (b : Bool) (salt : List ℕ) → length salt ≡ 8 → length (if b then salt else []) ≡ (if b then 8 else 0)
salt_size true salt e = e
salt_size false salt e = refl

-- security parameters with short fields can stand in a datagram
pub security_short : ((h : Header) (security : List ℕ) (tag : ℕ) (content : List ℕ) → (length security ≤ length (message_text h security tag content)) × (length content ≤ length (message_text h security tag content)))
    → ((h : Header) (s : Fields) (tag : ℕ) (content : List ℕ) → HeaderFits h → FieldsFit s → length (message_text h (security_text s) tag content) ≤ 110 + length s.engine + length s.user + length s.auth + length s.salt + length content)
    → (h : Header) (s : Fields) (size : ℕ) → HeaderFits h → FieldsFit s → size ≡ length (security_text s) → length s.engine ≤ 32 → length s.user ≤ 32 → length s.auth ≤ 24 → length s.salt ≤ 24 → size ≤ 65507
security_short longer most h s size header fields is engine user auth salt =
    let a = longer h (security_text s) 48 [] in
    let b = most h s 48 [] header fields in
    omega (arith, a.0, b, is, engine, user, auth, salt)

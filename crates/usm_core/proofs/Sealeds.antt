-- A message that is sealed has one text.
use Rattle.std.proofs.Common.{◌≡◌, ℕ, Bool, true, false, List, [], ◌++◌, refl, sym, subst, ◌∙◌, Option, Some, None}
use Rattle.std.specs.Prelude.{IsSomeAnd, MatchBool}
use Rattle.snmp_ber.specs.Element.{IsElement}
use Rattle.usm_aes.specs.Feedback.{IsSealed}
use Rattle.usm_users.specs.User.{User}
use Rattle.usm_users.specs.Users.{user_named}
use Rattle.usm_core.specs.Sealed.{Sending, SealedText, IsSentData, IsSentText}

both : (b : Bool) (P Q S T R : Type 0) → (P → S → R) → (Q → T → R) → MatchBool b P Q → MatchBool b S T → R
both true P Q S T R f g h k = f h k
both false P Q S T R f g h k = g h k

one_key : {K : Type 0} (o : Option K) (P Q : K → Type 0) (R : Type 0) → ((k : K) → P k → Q k → R) → IsSomeAnd o P → IsSomeAnd o Q → R
one_key None P Q R h p q = absurd p
one_key (Some k) P Q R h p q = h k p q

one_user : {K : Type 0} (o : Option User) (f : User → Option K) (P Q : K → Type 0) (R : Type 0) → ((k : K) → P k → Q k → R)
    → IsSomeAnd o (λ u. IsSomeAnd (f u) P) → IsSomeAnd o (λ u. IsSomeAnd (f u) Q) → R
one_user None f P Q R h p q = absurd p
one_user (Some u) f P Q R h p q = one_key (f u) P Q R h p q

module _ (one_element : (a b x y : List ℕ) (tag other_tag : ℕ) (content other_content : List ℕ) → IsElement tag content a → IsElement other_tag other_content b → a ++ x ≡ b ++ y
    → (tag ≡ other_tag) × (content ≡ other_content) × (a ≡ b) × (x ≡ y))
    (one_ciphertext : (encipher : List ℕ → List ℕ) (iv plain c d : List ℕ) → IsSealed encipher iv plain c → IsSealed encipher iv plain d → c ≡ d)
    (users : List User) (m : Sending) where
  data_one : (tag other : ℕ) (content rest : List ℕ) → IsSentData users m tag content → IsSentData users m other rest → (tag ≡ other) × (content ≡ rest)
  data_one tag other content rest = both m.header.privacy _ _ _ _ ((tag ≡ other) × (content ≡ rest))
      (λ d e. (d.0 ∙ sym e.0, one_user (user_named users m.user) (λ u. u.privacy) _ _ (content ≡ rest) (λ key p q. one_ciphertext _ _ m.scoped content rest p q) d.1 e.1))
      (λ d e. (d.0 ∙ sym e.0, (one_element m.scoped m.scoped [] [] 48 48 content rest d.1 e.1 refl).1))

  text_one : (tag : ℕ) (content a b : List ℕ) → IsSentText users m tag content a → IsSentText users m tag content b → a ≡ b
  text_one tag content a b = both m.header.auth _ _ _ _ (a ≡ b)
      (λ d e. one_user (user_named users m.user) (λ u. u.auth) _ _ (a ≡ b) (λ key p q. p ∙ sym q) d e)
      (λ d e. d ∙ sym e)

  pub sealed_one : (a b : List ℕ) → SealedText users m a → SealedText users m b → a ≡ b
  sealed_one a b s t =
      let same = data_one s.tag t.tag s.content t.content s.is_data t.is_data in
      let moved : IsSentText users m t.tag t.content a = subst (λ (c : List ℕ). IsSentText users m t.tag c a) same.1 (subst (λ (k : ℕ). IsSentText users m k s.content a) same.0 s.is_text) in
      text_one t.tag t.content a b moved t.is_text

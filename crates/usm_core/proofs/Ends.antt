-- Texts that differ in their end alone.
use Rattle.std.proofs.Common.{◌≡◌, ℕ, ◌+◌, ◌-◌, List, [], ◌++◌, length, take, drop, refl, sym, ap, ◌∙◌, append_assoc, arith}
use Rattle.std.proofs.lemmas.List.{append-nil, length-append, take_all, take_at, drop_at}
use borrow.Rule.Slice.PartMut.{put_mid}
use Rattle.snmp_ber.specs.Spelling.{head_of, element}
use Rattle.snmp_message.specs.Security.{security_text}
use Rattle.snmp_message.specs.Spelling.{front_text, content_size}
use Rattle.snmp_message.proofs.Writes.{message_text-front}
use Rattle.usm_core.specs.Sealed.{Sending, sent_fields, spelled_with}

ends : (head security : List ℕ) (tag : ℕ) (x : List ℕ) (n : ℕ) → n ≡ length x → head ++ (security ++ element tag x) ≡ (head ++ (security ++ head_of tag n)) ++ x
ends head security tag x n e =
    rw e (sym (append_assoc head (security ++ head_of tag (length x)) x ∙ ap (λ (r : List ℕ). head ++ r) (append_assoc security (head_of tag (length x)) x)))

-- The spellings of two contents of one length begin alike, and each ends with its content.
pub same_begin : (m : Sending) (tag : ℕ) (auth a b : List ℕ) → length a ≡ length b
    → (front : List ℕ) × (spelled_with m tag a auth ≡ front ++ a) × (spelled_with m tag b auth ≡ front ++ b)
unfolding spelled_with
same_begin m tag auth a b same =
    let security = security_text (sent_fields m auth) in
    let head = λ (n : ℕ). front_text m.header (content_size m.header (length security) n) (length security) in (
      head (length a) ++ (security ++ head_of tag (length a)),
      message_text-front m.header security tag a ∙ ends (head (length a)) security tag a (length a) refl,
      message_text-front m.header security tag b ∙ ap (λ (n : ℕ). head n ++ (security ++ element tag b)) (sym same) ∙ ends (head (length a)) security tag b (length a) same,
    )

pub same_whole : (m : Sending) (tag : ℕ) (auth a b : List ℕ) → length a ≡ length b → length (spelled_with m tag a auth) ≡ length (spelled_with m tag b auth)
same_whole m tag auth a b same =
    let s = same_begin m tag auth a b same in
    ap length s.1 ∙ length-append s.0 a ∙ ap (λ (n : ℕ). length s.0 + n) same ∙ sym (ap length s.2 ∙ length-append s.0 b)

-- The end of a list.
pub end_at : (front plain now : List ℕ) (at n : ℕ) → now ≡ front ++ plain → at ≡ length now - length plain → n ≡ length now - at → take n (drop at now) ≡ plain
end_at front plain now at n is here size =
    let total : length now ≡ length front + length plain = ap length is ∙ length-append front plain in
    let place : length front ≡ at = omega (arith, total, here) in
    ap (λ (x : List ℕ). take n (drop at x)) is ∙ ap (take n) (drop_at front plain at place) ∙ take_all n plain (omega (arith, total, here, size))

-- The end of a list written anew.
pub end_put : (front plain octets now rest : List ℕ) (at n size : ℕ) → now ≡ front ++ plain → at ≡ length now - length plain → n ≡ length now - at
    → length octets ≡ length plain → size ≡ length now → take size (put_mid at n now octets ++ rest) ≡ front ++ octets
end_put front plain octets now rest at n size is here count long all =
    let total : length now ≡ length front + length plain = ap length is ∙ length-append front plain in
    let place : length front ≡ at = omega (arith, total, here) in
    let many : length plain ≡ n = omega (arith, total, here, count) in
    let begin : take at now ≡ front = ap (take at) is ∙ take_at front plain at place in
    let past : drop n (drop at now) ≡ [] = ap (λ (x : List ℕ). drop n (drop at x)) is ∙ ap (drop n) (drop_at front plain at place ∙ sym (append-nil plain)) ∙ drop_at plain [] n many in
    let put : put_mid at n now octets ≡ front ++ octets =
    ap (λ (f : List ℕ). f ++ (octets ++ drop n (drop at now))) begin ∙ ap (λ (r : List ℕ). front ++ (octets ++ r)) past ∙ ap (λ (x : List ℕ). front ++ x) (append-nil octets) in
    ap (λ (x : List ℕ). take size (x ++ rest)) put ∙ take_at (front ++ octets) rest size (length-append front octets ∙ omega (arith, total, long, all))

-- Messages that differ in msgAuthenticationParameters alone.
use Rattle.std.proofs.Common.{◌≡◌, ◌⊎◌, ℕ, ◌+◌, ◌≤◌, List, ◌++◌, length, take, drop, refl, sym, ap, subst, ◌∙◌, append_assoc, arith}
use Rattle.std.proofs.lemmas.List.{length-append, take_at, drop_at}
use Rattle.snmp_ber.specs.Spelling.{head_of, element}
use Rattle.snmp_ber.proofs.Spellings.{head_of-is, element-is}
use Rattle.snmp_message.specs.declared.header.Header.{Header}
use Rattle.snmp_message.specs.Layout.{Parts}
use Rattle.snmp_message.specs.Security.{Fields, FieldsFit, SecText, IsCut, fields_text, security_text, placed, with_auth}
use Rattle.snmp_message.specs.Spelling.{HeaderFits, number, header_text, content_text, message_text, written}
use Rattle.snmp_message.proofs.Writes.{number-is, element_length, message_text-is, message_text-longer}
use Rattle.snmp_message.proofs.Outers.{one_outer}
use Rattle.snmp_message.proofs.Securities.{one_security}
use Rattle.snmp_message.proofs.Cuts.{cut_places}

pub fields_text-longer : (s : Fields) → (length s.engine ≤ length (security_text s)) × (length s.auth ≤ length (security_text s)) × (length s.salt ≤ length (security_text s)) × (length (fields_text s) ≤ length (security_text s))
unfolding security_text fields_text
fields_text-longer s =
    let e = element_length 4 s.engine in
    let u = element_length 4 s.user in
    let a = element_length 4 s.auth in
    let t = element_length 4 s.salt in
    let l5 = length-append (element 4 s.auth) (element 4 s.salt) in
    let l4 = length-append (element 4 s.user) (element 4 s.auth ++ element 4 s.salt) in
    let l3 = length-append (number s.time) (element 4 s.user ++ (element 4 s.auth ++ element 4 s.salt)) in
    let l2 = length-append (number s.boots) (number s.time ++ (element 4 s.user ++ (element 4 s.auth ++ element 4 s.salt))) in
    let l1 = length-append (element 4 s.engine) (number s.boots ++ (number s.time ++ (element 4 s.user ++ (element 4 s.auth ++ element 4 s.salt)))) in
    let w = element_length 48 (element 4 s.engine ++ (number s.boots ++ (number s.time ++ (element 4 s.user ++ (element 4 s.auth ++ element 4 s.salt))))) in
    (omega (arith, e, l1, w), omega (arith, a, l5, l4, l3, l2, l1, w), omega (arith, t, l5, l4, l3, l2, l1, w), w)

-- What is written is a UsmSecurityParameters with these fields.
pub security_text-is : (at : ℕ) (s : Fields) → FieldsFit s → length (security_text s) ≤ 65507 → SecText at (security_text s) (placed at s)
unfolding security_text fields_text
security_text-is at s fits size =
    let longer = fields_text-longer s in
    let inner = element 4 s.engine ++ (number s.boots ++ (number s.time ++ (element 4 s.user ++ (element 4 s.auth ++ element 4 s.salt)))) in
    record {
      head = head_of 48 (length inner);
      content = inner;
      is_whole = head_of-is 48 (length inner) (λ e. absurd cc) (omega (arith, size, longer.3));
      whole = refl;
      says = record {
        engine = element 4 s.engine;
        is_engine = element-is 4 s.engine (λ e. absurd cc) (omega (arith, size, longer.0));
        boots = number s.boots;
        is_boots = number-is 0 s.boots (omega arith) fits.boots;
        time = number s.time;
        is_time = number-is 0 s.time (omega arith) fits.time;
        user = element 4 s.user;
        is_user = element-is 4 s.user (λ e. absurd cc) (omega (arith, fits.user));
        user_allowed = fits.user;
        auth_head = head_of 4 (length s.auth);
        is_auth = head_of-is 4 (length s.auth) (λ e. absurd cc) (omega (arith, size, longer.1));
        salt = element 4 s.salt;
        is_salt = element-is 4 s.salt (λ e. absurd cc) (omega (arith, size, longer.2));
        joined = ap (λ (r : List ℕ). element 4 s.engine ++ (number s.boots ++ (number s.time ++ (element 4 s.user ++ r)))) (append_assoc (head_of 4 (length s.auth)) s.auth (element 4 s.salt));
        auth_place = omega arith;
      };
    }

-- The octets in front of the field, where the content of the message, that of msgSecurityParameters and that of their
-- SEQUENCE, and the field have these lengths.
front_of_field : Header → Fields → ℕ → ℕ → ℕ → ℕ → List ℕ
front_of_field h s message security fields auth =
    head_of 48 message ++ (number 3 ++ (element 48 (header_text h) ++ (head_of 4 security ++ (head_of 48 fields ++ (element 4 s.engine ++ (number s.boots ++ (number s.time ++ (element 4 s.user ++ head_of 4 auth))))))))

pub front_of_text : Header → Fields → ℕ → List ℕ → List ℕ
front_of_text h s tag content = front_of_field h s (length (content_text h (security_text s) tag content)) (length (security_text s)) (length (fields_text s)) (length s.auth)

cut_lists : (h n g i j e b t u k auth salt content : List ℕ)
    → h ++ (n ++ (g ++ ((i ++ (j ++ (e ++ (b ++ (t ++ (u ++ ((k ++ auth) ++ salt))))))) ++ content)))
    ≡ (h ++ (n ++ (g ++ (i ++ (j ++ (e ++ (b ++ (t ++ (u ++ k))))))))) ++ (auth ++ (salt ++ content))
cut_lists h n g i j e b t u k auth salt content = simp append_assoc

length_lists : (h n g i j e b t u k : List ℕ)
    → length (h ++ (n ++ (g ++ (i ++ (j ++ (e ++ (b ++ (t ++ (u ++ k)))))))))
    ≡ (length h + (length n + (length g + length i))) + (length j + (length e + (length b + (length t + (length u + length k)))))
length_lists h n g i j e b t u k =
    let all : length (h ++ (n ++ (g ++ (i ++ (j ++ (e ++ (b ++ (t ++ (u ++ k))))))))) ≡ length h + (length n + (length g + (length i + (length j + (length e + (length b + (length t + (length u + length k)))))))) = simp length-append in
    omega (arith, all)

same_fifth : (e b t u x y salt : List ℕ) → length x ≡ length y → length (e ++ (b ++ (t ++ (u ++ (x ++ salt))))) ≡ length (e ++ (b ++ (t ++ (u ++ (y ++ salt)))))
same_fifth e b t u x y salt same =
    let l : length (e ++ (b ++ (t ++ (u ++ (x ++ salt))))) ≡ length e + (length b + (length t + (length u + (length x + length salt)))) = simp length-append in
    let r : length (e ++ (b ++ (t ++ (u ++ (y ++ salt))))) ≡ length e + (length b + (length t + (length u + (length y + length salt)))) = simp length-append in
    omega (arith, l, r, same)

same_third : (n g x y content : List ℕ) → length x ≡ length y → length (n ++ (g ++ (x ++ content))) ≡ length (n ++ (g ++ (y ++ content)))
same_third n g x y content same =
    let l : length (n ++ (g ++ (x ++ content))) ≡ length n + (length g + (length x + length content)) = simp length-append in
    let r : length (n ++ (g ++ (y ++ content))) ≡ length n + (length g + (length y + length content)) = simp length-append in
    omega (arith, l, r, same)

same_element : (tag : ℕ) (a b : List ℕ) → length a ≡ length b → length (element tag a) ≡ length (element tag b)
same_element tag a b same = length-append (head_of tag (length a)) a ∙ rw same (sym (length-append (head_of tag (length b)) b))

-- A message that was written, cut at the field.
pub cut_text : (h : Header) (s : Fields) (tag : ℕ) (content : List ℕ) → message_text h (security_text s) tag content ≡ front_of_text h s tag content ++ (s.auth ++ (element 4 s.salt ++ element tag content))
unfolding message_text content_text security_text fields_text front_of_text front_of_field
cut_text h s tag content =
    cut_lists (head_of 48 (length (content_text h (security_text s) tag content))) (number 3) (element 48 (header_text h)) (head_of 4 (length (security_text s))) (head_of 48 (length (fields_text s)))
    (element 4 s.engine) (number s.boots) (number s.time) (element 4 s.user) (head_of 4 (length s.auth)) s.auth (element 4 s.salt) (element tag content)

front_length : (h : Header) (s : Fields) (tag : ℕ) (content : List ℕ) → length (front_of_text h s tag content) ≡ (placed (written h (security_text s) tag content).security_at s).auth_at
unfolding front_of_text front_of_field
front_length h s tag content =
    length_lists (head_of 48 (length (content_text h (security_text s) tag content))) (number 3) (element 48 (header_text h)) (head_of 4 (length (security_text s))) (head_of 48 (length (fields_text s)))
    (element 4 s.engine) (number s.boots) (number s.time) (element 4 s.user) (head_of 4 (length s.auth))

same_fields : (s : Fields) (auth : List ℕ) → length auth ≡ length s.auth → length (fields_text (with_auth auth s)) ≡ length (fields_text s)
unfolding fields_text
same_fields s auth same = same_fifth (element 4 s.engine) (number s.boots) (number s.time) (element 4 s.user) (element 4 auth) (element 4 s.auth) (element 4 s.salt) (same_element 4 auth s.auth same)

same_security : (s : Fields) (auth : List ℕ) → length auth ≡ length s.auth → length (security_text (with_auth auth s)) ≡ length (security_text s)
unfolding security_text
same_security s auth same =
    let f = same_fields s auth same in
    length-append (head_of 48 (length (fields_text (with_auth auth s)))) (fields_text (with_auth auth s)) ∙ rw f (sym (length-append (head_of 48 (length (fields_text s))) (fields_text s)))

same_content : (h : Header) (s : Fields) (tag : ℕ) (content auth : List ℕ) → length auth ≡ length s.auth → length (content_text h (security_text (with_auth auth s)) tag content) ≡ length (content_text h (security_text s) tag content)
unfolding content_text
same_content h s tag content auth same =
    let t = same_security s auth same in
    same_third (number 3) (element 48 (header_text h)) (element 4 (security_text (with_auth auth s))) (element 4 (security_text s)) (element tag content) (same_element 4 (security_text (with_auth auth s)) (security_text s) t)

pub same_message : (h : Header) (s : Fields) (tag : ℕ) (content auth : List ℕ) → length auth ≡ length s.auth → length (message_text h (security_text (with_auth auth s)) tag content) ≡ length (message_text h (security_text s) tag content)
unfolding message_text
same_message h s tag content auth same =
    let t = same_content h s tag content auth same in
    length-append (head_of 48 (length (content_text h (security_text (with_auth auth s)) tag content))) (content_text h (security_text (with_auth auth s)) tag content) ∙ rw t (sym (length-append (head_of 48 (length (content_text h (security_text s) tag content))) (content_text h (security_text s) tag content)))

pub same_front : (h : Header) (s : Fields) (tag : ℕ) (content auth : List ℕ) → length auth ≡ length s.auth → front_of_text h (with_auth auth s) tag content ≡ front_of_text h s tag content
unfolding front_of_text front_of_field
same_front h s tag content auth same =
    let a = same_content h s tag content auth same in
    let b = same_security s auth same in
    let f = same_fields s auth same in
    rw (a, b, f, same) refl

pub filled : (h : Header) (s t : Fields) (tag : ℕ) (content auth front back : List ℕ) (m : Parts) → HeaderFits h → FieldsFit s → (tag ≡ 48) ⊎ (tag ≡ 4)
    → length (message_text h (security_text s) tag content) ≤ 65507 → length auth ≡ length s.auth → IsCut (message_text h (security_text s) tag content) m t front back
    → (t.auth ≡ s.auth) × (message_text h (security_text (with_auth auth s)) tag content ≡ front ++ (auth ++ back))
filled h s t tag content auth front back m fits fields_fit allowed size same cut =
    let w = message_text h (security_text s) tag content in
    let n = written h (security_text s) tag content in
    let longer = message_text-longer h (security_text s) tag content in
    let outer = message_text-is h (security_text s) tag content fits allowed size in
    let is_m : m ≡ n = one_outer w m n cut.outer outer in
    let here : SecText n.security_at n.security t = subst (λ (p : Parts). SecText p.security_at p.security t) is_m cut.security in
    let is_t : t ≡ placed n.security_at s = one_security n.security_at (security_text s) t (placed n.security_at s) here (security_text-is n.security_at s fields_fit (omega (arith, longer.0, size))) in
    let same_auth : t.auth ≡ s.auth = ap (λ (f : Fields). f.auth) is_t in
    let place : t.auth_at ≡ length (front_of_text h s tag content) = ap (λ (f : Fields). f.auth_at) is_t ∙ sym (front_length h s tag content) in
    let pieces = cut_places w m t front back cut in
    let whole = cut_text h s tag content in
    let f = front_of_text h s tag content in
    let g = element 4 s.salt ++ element tag content in
    let is_front : front ≡ f = pieces.0 ∙ ap (take t.auth_at) whole ∙ take_at f (s.auth ++ g) t.auth_at (sym place) in
    let after : length (f ++ s.auth) ≡ t.auth_at + length t.auth = length-append f s.auth ∙ rw (place, same_auth) refl in
    let is_back : back ≡ g = pieces.2 ∙ ap (drop (t.auth_at + length t.auth)) (whole ∙ sym (append_assoc f s.auth g)) ∙ drop_at (f ++ s.auth) g (t.auth_at + length t.auth) after in
    (same_auth, cut_text h (with_auth auth s) tag content ∙ ap (λ (x : List ℕ). x ++ (auth ++ g)) (same_front h s tag content auth same ∙ sym is_front) ∙ ap (λ (x : List ℕ). front ++ (auth ++ x)) (sym is_back))

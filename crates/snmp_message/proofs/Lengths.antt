-- How long a message is that was written: no shorter than its parts, and not much longer.
use Rattle.std.proofs.Common.{◌≡◌, ℕ, ℤ, ◌+◌, ◌-◌, ◌≤◌, pos, Bool, true, false, List, [], ◌∷◌, ◌++◌, length, drop, refl, arith}
use Rattle.std.specs.Prelude.{nat_lt, if◌then◌else◌}
use Rattle.std.specs.Int.{w32, w64, to_be_bytes, cast_unsigned}
use Rattle.std.proofs.lemmas.List.{length-append, length-drop}
use Rattle.snmp_ber.specs.Spelling.{digit_count, octet_count, shortest_length, head_size, element, integer}
use Rattle.snmp_ber.proofs.Spellings.{integer-positive}
use Rattle.snmp_message.specs.declared.header.Header.{Header}
use Rattle.snmp_message.specs.Spelling.{HeaderFits, number, signed, header_text, content_size, message_text}
use Rattle.snmp_message.specs.Security.{Fields, FieldsFit, fields_text, security_text}
use Rattle.snmp_message.proofs.Writes.{element-length, header_text-length, message_text-size}

-- ---- several parts

pub length_of_three : (a b c : List ℕ) → length (a ++ (b ++ c)) ≡ length a + (length b + length c)
length_of_three a b c = rw (length-append a (b ++ c), length-append b c) refl

pub length_of_four : (a b c d : List ℕ) → length (a ++ (b ++ (c ++ d))) ≡ length a + (length b + (length c + length d))
length_of_four a b c d = rw (length-append a (b ++ (c ++ d)), length-append b (c ++ d), length-append c d) refl

pub length_of_six : (a b c d e f : List ℕ) → length (a ++ (b ++ (c ++ (d ++ (e ++ f))))) ≡ length a + (length b + (length c + (length d + (length e + length f))))
length_of_six a b c d e f = rw (length-append a (b ++ (c ++ (d ++ (e ++ f)))), length-append b (c ++ (d ++ (e ++ f))), length-append c (d ++ (e ++ f)), length-append d (e ++ f), length-append e f) refl

-- ---- heads

one_to_five : (b : Bool) (x y : ℕ) (digits : List ℕ) → length digits ≤ 4 → (1 ≤ length (if b then x ∷ [] else y ∷ digits)) × (length (if b then x ∷ [] else y ∷ digits) ≤ 5)
one_to_five true x y digits most = (omega arith, omega arith)
one_to_five false x y digits most = (omega arith, omega arith)

four_octets : (n : ℕ) → length (to_be_bytes w32 n) ≡ 4
four_octets n = refl

pub head_between : (n : ℕ) → (2 ≤ head_size n) × (head_size n ≤ 6)
unfolding shortest_length
head_between n =
    let cut = length-drop (4 - digit_count n) (to_be_bytes w32 n) in
    let most : length (drop (4 - digit_count n) (to_be_bytes w32 n)) ≤ 4 = omega (arith, cut, four_octets n) in
    let h = one_to_five (nat_lt n 128) n (128 + digit_count n) _ most in
    (omega (arith, h.0), omega (arith, h.1))

-- an element is 2 to 6 octets longer than its content
pub element_between : (tag : ℕ) (content : List ℕ) → (2 + length content ≤ length (element tag content)) × (length (element tag content) ≤ 6 + length content)
element_between tag content =
    let size = element-length tag content in
    let h = head_between (length content) in
    (omega (arith, size, h.0), omega (arith, size, h.1))

eight_octets : (n : ℕ) → length (to_be_bytes w64 n) ≡ 8
eight_octets n = refl

pub integer_most : (z : ℤ) → length (integer z) ≤ 8
unfolding integer
integer_most z =
    let cut = length-drop (8 - octet_count z) (to_be_bytes w64 (cast_unsigned w64 z)) in
    omega (arith, cut, eight_octets (cast_unsigned w64 z))

pub signed_most : (z : ℤ) → length (signed z) ≤ 14
signed_most z =
    let e = element_between 2 (integer z) in
    let content = integer_most z in
    omega (arith, e.1, content)

number_most : (n : ℕ) → n ≤ 2147483647 → length (number n) ≤ 10
number_most n most =
    let e = element_between 2 (integer (pos n)) in
    let size = integer-positive n (omega (arith, most)) in
    omega (arith, e.1, size.size)

-- ---- the parts

header_most : (h : Header) → HeaderFits h → length (header_text h) ≤ 33
header_most h fits =
    let size = header_text-length h in
    let id = number_most h.id fits.id in
    let max_size = number_most h.max_size fits.most_size in
    let model = number_most h.model fits.most_model in
    omega (arith, size, id, max_size, model)

security_most : (s : Fields) → FieldsFit s → length (security_text s) ≤ 50 + length s.engine + length s.user + length s.auth + length s.salt
unfolding security_text fields_text
security_most s fits =
    let whole = element_between 48 (fields_text s) in
    let joined : length (fields_text s) ≡ _ = length_of_six (element 4 s.engine) (number s.boots) (number s.time) (element 4 s.user) (element 4 s.auth) (element 4 s.salt) in
    let engine = element_between 4 s.engine in
    let boots = number_most s.boots fits.boots in
    let time = number_most s.time fits.time in
    let user = element_between 4 s.user in
    let auth = element_between 4 s.auth in
    let salt = element_between 4 s.salt in
    omega (arith, whole.1, joined, engine.1, boots, time, user.1, auth.1, salt.1)

-- ---- the whole

pub message_most : (h : Header) (s : Fields) (tag : ℕ) (content : List ℕ) → HeaderFits h → FieldsFit s
    → length (message_text h (security_text s) tag content) ≤ 110 + length s.engine + length s.user + length s.auth + length s.salt + length content
message_most h s tag content header fields =
    let size = message_text-size h (security_text s) tag content in
    let inner = content_size h (length (security_text s)) (length content) in
    let whole = head_between inner in
    let global = head_between (length (header_text h)) in
    let parameters = head_between (length (security_text s)) in
    let body = head_between (length content) in
    let header_size = header_most h header in
    let security_size = security_most s fields in
    omega (arith, size, whole.1, global.1, parameters.1, body.1, header_size, security_size)

pub message_least : (h : Header) (security : List ℕ) (tag : ℕ) (content : List ℕ) → 6 + length content ≤ length (message_text h security tag content)
message_least h security tag content =
    let size = message_text-size h security tag content in
    let whole = head_between (content_size h (length security) (length content)) in
    let global = head_between (length (header_text h)) in
    let parameters = head_between (length security) in
    let body = head_between (length content) in
    omega (arith, size, whole.0, global.0, parameters.0, body.0)

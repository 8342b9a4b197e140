-- The canonical spelling of a message is a message.
use Rattle.std.proofs.Common.{◌≡◌, ◌⊎◌, ℕ, ◌+◌, ◌≤◌, Bool, true, false, List, [], ◌∷◌, ◌++◌, length, refl, sym, ap, subst, ◌∙◌, append_assoc, arith, inl, inr, pos}
use Rattle.std.proofs.lemmas.List.{length-append}
use Rattle.snmp_ber.specs.Element.{IsTag}
use Rattle.snmp_ber.specs.Spelling.{shortest_length, head_of, head_size, element, integer}
use Rattle.snmp_ber.proofs.Spellings.{head_of-is, element-is, integer-positive}
use Rattle.snmp_message.specs.declared.header.Header.{Header}
use Rattle.snmp_message.specs.declared.message.Data.{Data}
use Rattle.snmp_message.specs.declared.message.Data.TheVariants.{Plain, Sealed}
use Rattle.snmp_message.specs.Message.{tag_of}
use Rattle.snmp_message.specs.Layout.{IsNumber, AreFlags, IsGlobal, Outer}
use Rattle.snmp_message.specs.Spelling.{HeaderFits, number, flags_of, header_text, content_text, content_size, front_text, message_text, written}

-- how long an element is
pub element-length : (tag : ℕ) (content : List ℕ) → length (element tag content) ≡ head_size (length content) + length content
element-length tag content = length-append (head_of tag (length content)) content

pub element_length : (tag : ℕ) (content : List ℕ) → length content ≤ length (element tag content)
element_length tag content = omega (arith, length-append (head_of tag (length content)) content)

pub message_text-longer : (h : Header) (security : List ℕ) (tag : ℕ) (content : List ℕ) → (length security ≤ length (message_text h security tag content)) × (length content ≤ length (message_text h security tag content))
unfolding message_text content_text
message_text-longer h security tag content =
    let s = element_length 4 security in
    let d = element_length tag content in
    let both = length-append (element 4 security) (element tag content) in
    let more = length-append (element 48 (header_text h)) (element 4 security ++ element tag content) in
    let all = length-append (number 3) (element 48 (header_text h) ++ (element 4 security ++ element tag content)) in
    let whole = element_length 48 (number 3 ++ (element 48 (header_text h) ++ (element 4 security ++ element tag content))) in
    (omega (arith, s, d, both, more, all, whole), omega (arith, s, d, both, more, all, whole))

three_length : length (number 3) ≡ 3
unfolding shortest_length integer
three_length = refl

content_text-size : (h : Header) (security : List ℕ) (tag : ℕ) (content : List ℕ) → length (content_text h security tag content) ≡ content_size h (length security) (length content)
unfolding content_text
content_text-size h security tag content =
    let s = element-length 4 security in
    let d = element-length tag content in
    let g = element-length 48 (header_text h) in
    let n = three_length in
    let both = length-append (element 4 security) (element tag content) in
    let more = length-append (element 48 (header_text h)) (element 4 security ++ element tag content) in
    let all = length-append (number 3) (element 48 (header_text h) ++ (element 4 security ++ element tag content)) in
    omega (arith, s, d, g, n, both, more, all)

-- how long a message is
pub message_text-size : (h : Header) (security : List ℕ) (tag : ℕ) (content : List ℕ) → let size = content_size h (length security) (length content) in length (message_text h security tag content) ≡ head_size size + size
unfolding message_text
message_text-size h security tag content =
    element-length 48 (content_text h security tag content) ∙ ap (λ (n : ℕ). head_size n + n) (content_text-size h security tag content)

-- the same of a size that was computed
pub measured_message : (h : Header) (security : List ℕ) (tag : ℕ) (content : List ℕ) (size data_size : ℕ) → (let inner = content_size h (length security) data_size in size ≡ head_size inner + inner) → data_size ≡ length content → length (message_text h security tag content) ≡ size
measured_message h security tag content size data_size measured data_is =
    message_text-size h security tag content ∙ sym (measured ∙ ap (λ (n : ℕ). head_size (content_size h (length security) n) + content_size h (length security) n) data_is)

join_front : (h n g k s d : List ℕ) → h ++ (n ++ (g ++ ((k ++ s) ++ d))) ≡ (h ++ (n ++ (g ++ k))) ++ (s ++ d)
join_front h n g k s d = simp append_assoc

content_joined : (h : Header) (security : List ℕ) (tag : ℕ) (content : List ℕ) → content_text h security tag content ≡ number 3 ++ (element 48 (header_text h) ++ (element 4 security ++ element tag content))
unfolding content_text
content_joined h security tag content = refl

-- a message, from the content of msgSecurityParameters on
pub message_text-front : (h : Header) (security : List ℕ) (tag : ℕ) (content : List ℕ) → message_text h security tag content ≡ front_text h (content_size h (length security) (length content)) (length security) ++ (security ++ element tag content)
unfolding message_text front_text
message_text-front h security tag content =
    ap (λ (n : ℕ). head_of 48 n ++ content_text h security tag content) (content_text-size h security tag content)
    ∙ ap (λ (t : List ℕ). head_of 48 (content_size h (length security) (length content)) ++ t) (content_joined h security tag content)
    ∙ join_front (head_of 48 (content_size h (length security) (length content))) (number 3) (element 48 (header_text h)) (head_of 4 (length security)) security (element tag content)

pub number-is : (least n : ℕ) → least ≤ n → n ≤ 2147483647 → IsNumber least n (number n)
number-is least n low high =
    let content = integer-positive n (omega arith) in
    record {
      content = integer (pos n);
      is_element = element-is 2 (integer (pos n)) (λ e. absurd cc) (omega (arith, content.size));
      is_integer = content;
      at_least = low;
      at_most = high;
    }

flags_of-are : (id max_size : ℕ) (auth privacy reportable : Bool) (model : ℕ) → let h : Header = record { id = id; max_size = max_size; auth = auth; privacy = privacy; reportable = reportable; model = model } in AreFlags h (flags_of h)
flags_of-are id max_size true true true model = record { auth = refl; privacy = refl; reportable = refl }
flags_of-are id max_size true true false model = record { auth = refl; privacy = refl; reportable = refl }
flags_of-are id max_size true false true model = record { auth = refl; privacy = refl; reportable = refl }
flags_of-are id max_size true false false model = record { auth = refl; privacy = refl; reportable = refl }
flags_of-are id max_size false true true model = record { auth = refl; privacy = refl; reportable = refl }
flags_of-are id max_size false true false model = record { auth = refl; privacy = refl; reportable = refl }
flags_of-are id max_size false false true model = record { auth = refl; privacy = refl; reportable = refl }
flags_of-are id max_size false false false model = record { auth = refl; privacy = refl; reportable = refl }

flags_length : (octet : ℕ) → length (element 4 (octet ∷ [])) ≡ 3
unfolding shortest_length
flags_length octet = refl

pub header_text-length : (h : Header) → length (header_text h) ≡ length (number h.id) + length (number h.max_size) + 3 + length (number h.model)
unfolding header_text
header_text-length h =
    let flags = element 4 (flags_of h ∷ []) in
    omega (arith, flags_length (flags_of h), length-append (number h.id) (number h.max_size ++ (flags ++ number h.model)), length-append (number h.max_size) (flags ++ number h.model), length-append flags (number h.model))

header_text-is : (h : Header) → HeaderFits h → IsGlobal h (header_text h)
unfolding header_text
header_text-is h fits = record {
  id = number h.id;
  is_id = number-is 0 h.id (omega arith) fits.id;
  max_size = number h.max_size;
  is_max_size = number-is 484 h.max_size fits.least_size fits.most_size;
  flags = element 4 (flags_of h ∷ []);
  octet = flags_of h;
  is_flags = element-is 4 (flags_of h ∷ []) (λ e. absurd cc) (omega arith);
  are_flags = flags_of-are h.id h.max_size h.auth h.privacy h.reportable h.model;
  model = number h.model;
  is_model = number-is 1 h.model fits.least_model fits.most_model;
  joined = refl;
}

pub tag_of-allowed : (d : Data) → (tag_of d ≡ 48) ⊎ (tag_of d ≡ 4)
tag_of-allowed (Plain content) = inl refl
tag_of-allowed (Sealed content) = inr refl

sequence_tag : IsTag 48
sequence_tag e = absurd cc

string_tag : IsTag 4
string_tag e = absurd cc

tag_allowed : (tag : ℕ) → (tag ≡ 48) ⊎ (tag ≡ 4) → IsTag tag
tag_allowed tag (inl h) = subst (λ (t : ℕ). IsTag t) (sym h) sequence_tag
tag_allowed tag (inr h) = subst (λ (t : ℕ). IsTag t) (sym h) string_tag

-- What is written is a message, with these parts.
pub message_text-is : (h : Header) (security : List ℕ) (tag : ℕ) (content : List ℕ) → HeaderFits h → (tag ≡ 48) ⊎ (tag ≡ 4) → length (message_text h security tag content) ≤ 65507 → Outer (message_text h security tag content) (written h security tag content)
unfolding message_text content_text
message_text-is h security tag content fits allowed size =
    let longer = message_text-longer h security tag content in
    let inner = number 3 ++ (element 48 (header_text h) ++ (element 4 security ++ element tag content)) in
    let inner_size = element_length 48 inner in
    let global_size = element_length 48 (header_text h) in
    let split = length-append (number 3) (element 48 (header_text h) ++ (element 4 security ++ element tag content)) in
    let split2 = length-append (element 48 (header_text h)) (element 4 security ++ element tag content) in
    record {
      version = number 3;
      is_version = number-is 0 3 (omega arith) (omega arith);
      global = element 48 (header_text h);
      global_content = header_text h;
      is_global = element-is 48 (header_text h) (λ e. absurd cc) (omega (arith, size, inner_size, global_size, split, split2));
      says = header_text-is h fits;
      security_head = head_of 4 (length security);
      is_security = head_of-is 4 (length security) (λ e. absurd cc) (omega (arith, size, longer));
      data_text = element tag content;
      is_data = element-is tag content (tag_allowed tag allowed) (omega (arith, size, longer));
      tag_allowed = allowed;
      head = head_of 48 (length inner);
      content = inner;
      is_message = head_of-is 48 (length inner) (λ e. absurd cc) (omega (arith, size, inner_size));
      joined = ap (λ (r : List ℕ). number 3 ++ (element 48 (header_text h) ++ r)) (append_assoc (head_of 4 (length security)) security (element tag content));
      whole = refl;
      security_place = refl;
      data_place = refl;
    }

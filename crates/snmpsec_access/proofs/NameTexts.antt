-- Each name is read back of its text.
use Rattle.std.proofs.Common.{◌≡◌, ℕ, zero, suc, ◌+◌, ◌*◌, ◌/◌, ◌%◌, ◌<◌, ◌≤◌, Bool, true, false, not, ◌&&◌, ◌||◌, ◌==◌, nat_lt, nat_le, List, [], ◌∷◌, ◌++◌, length, flat_map, chars, encode_utf8, encode_utf8_all, codes, IsUtf8, IsAscii, All, ◌⊎◌, inl, inr, refl, sym, ap, ◌∙◌, arith, rules, append_assoc, if◌then◌else◌}
use Rattle.std.proofs.Math.Utf8.{scalar, scalars, scalar_cases}
use Rattle.std.proofs.lemmas.List.Elements.{All-tail}
use Rattle.std.proofs.lemmas.Bool.{false≢true}
use Rattle.std.proofs.lemmas.Slice.Eq.{bytes_eq-Decides}
use Rattle.std.specs.Str.{is_utf8, bytes_eq}
use Rattle.std.specs.List.{list_all}
use Rattle.std.specs.Cmp.Derive.{both_true}
use Rattle.snmpsec_access.specs.NameText.{IsOnePiece, is_graphic, is_mark, is_printable}
use Rattle.std.proofs.lemmas.Str.{encode_ascii, IsUtf8-from_is_utf8, is_utf8-from_IsUtf8, IsUtf8-from_ascii, chars-encodes}
use Rattle.snmpsec_access.specs.NameText.{digit, digit_value, two_digits, four_digits, escaped, escaped_octet, read_from, octets_of, AtChar, AfterBackslash, BeforeDigits, name_text, name_read, quoted, inside_quotes, is_own_text}

-- a digit has its value
value_of_digit : (d : ℕ) → d < 16 → digit_value (digit d) ≡ d
value_of_digit d h = grind arith

-- two digits have the value of their number
pub value_of_two : (n k : ℕ) → (k * 16 + digit_value (digit (n / 16 % 16))) * 16 + digit_value (digit (n % 16)) ≡ k * 256 + n % 256
value_of_two n k =
    let high = value_of_digit (n / 16 % 16) (omega arith) in
    let low = value_of_digit (n % 16) (omega arith) in
    omega (arith, high, low)

pub read_two : (n : ℕ) (rest : List ℕ) → n < 256 → read_from (BeforeDigits true 1 0) (two_digits n ++ rest) ≡ n ∷ read_from AtChar rest
read_two n rest h =
    let value = value_of_two n 0 in
    let same : (0 * 16 + digit_value (digit (n / 16 % 16))) * 16 + digit_value (digit (n % 16)) ≡ n = omega (arith, value, h) in
    ap (λ m. m ∷ read_from AtChar rest) same

-- four digits have the value of their number
pub value_of_four : (n k : ℕ) → (((k * 16 + digit_value (digit (n / 256 / 16 % 16))) * 16 + digit_value (digit (n / 256 % 16))) * 16
    + digit_value (digit (n / 16 % 16))) * 16 + digit_value (digit (n % 16)) ≡ k * 65536 + n % 65536
value_of_four n k =
    let high = value_of_two (n / 256) k in
    let low = value_of_two n (k * 256 + n / 256 % 256) in
    omega (arith, high, low)

read_u : (n : ℕ) (rest : List ℕ) → n < 65536 → read_from (BeforeDigits false 3 0) (four_digits n ++ rest) ≡ encode_utf8 n ++ read_from AtChar rest
read_u n rest h =
    let value = value_of_four n 0 in
    let same : 0 * 65536 + n % 65536 ≡ n = omega (arith, h) in
    ap (λ m. encode_utf8 m ++ read_from AtChar rest) (value ∙ same)

read_capital_u : (n : ℕ) (rest : List ℕ) → n < 1114112
    → read_from (BeforeDigits false 7 0) ((four_digits (n / 65536) ++ four_digits n) ++ rest) ≡ encode_utf8 n ++ read_from AtChar rest
read_capital_u n rest h =
    let high = value_of_four (n / 65536) 0 in
    let small : 0 * 65536 + n / 65536 % 65536 ≡ n / 65536 = omega (arith, h) in
    let low = value_of_four n (n / 65536) in
    let same : n / 65536 * 65536 + n % 65536 ≡ n = omega arith in
    ap (λ m. read_from (BeforeDigits false 3 m) (four_digits n ++ rest)) (high ∙ small) ∙ ap (λ m. encode_utf8 m ++ read_from AtChar rest) (low ∙ same)

-- ---- a character, by the tests of `escaped`

as_mark : (c : ℕ) (rest : List ℕ) → ((c == 34) || (c == 92)) ≡ true → read_from AtChar (92 ∷ c ∷ rest) ≡ encode_utf8 c ++ read_from AtChar rest
as_mark c rest h = grind (arith, encode_ascii)

as_itself : (c : ℕ) (rest : List ℕ) → ((c == 34) || (c == 92)) ≡ false → is_printable c ≡ true
    → read_from AtChar (c ∷ rest) ≡ encode_utf8 c ++ read_from AtChar rest
as_itself c rest h is = grind (arith, encode_ascii)

by_tests : (c : ℕ) (rest : List ℕ) (a b d : Bool) → ((c == 34) || (c == 92)) ≡ a → is_printable c ≡ b → nat_lt c 65536 ≡ d → c < 1114112
    → read_from AtChar ((if a then 92 ∷ c ∷ [] else if b then c ∷ [] else if d then codes "\\u" ++ four_digits c
    else codes "\\U" ++ (four_digits (c / 65536) ++ four_digits c)) ++ rest) ≡ encode_utf8 c ++ read_from AtChar rest
by_tests c rest true b d is _ _ h = as_mark c rest is
by_tests c rest false true d is graphic _ h = as_itself c rest is graphic
by_tests c rest false false true _ _ small h = read_u c rest (grind arith)
by_tests c rest false false false _ _ _ h = read_capital_u c rest h

read_escaped : (c : ℕ) (rest : List ℕ) → c < 1114112 → read_from AtChar (escaped c ++ rest) ≡ encode_utf8 c ++ read_from AtChar rest
read_escaped c rest h = by_tests c rest _ _ _ refl refl refl h

-- ---- all characters of a name, or all its octets

below : (c : ℕ) → scalar c ≡ true → c < 1114112
below c h = either (scalar_cases c h) where
  either : (c < 55296) ⊎ ((57344 ≤ c) × (c < 1114112)) → c < 1114112
  either (inl low) = omega (arith, low)
  either (inr high) = high.1

split : (a b : Bool) → (a && b) ≡ true → (a ≡ true) × (b ≡ true)
split true true h = (refl, refl)
split true false h = (refl, h)
split false b h = absurd (false≢true h)

read_chars : (cs : List ℕ) → scalars cs ≡ true → read_from AtChar (flat_map escaped cs ++ codes "\"") ≡ encode_utf8_all cs
read_chars [] h = refl
read_chars (c ∷ cs) h =
    let both = split (scalar c) (scalars cs) h in
    let first = read_escaped c (flat_map escaped cs ++ codes "\"") (below c both.0) in
    let apart = append_assoc (escaped c) (flat_map escaped cs) (codes "\"") in
    ap (read_from AtChar) apart ∙ (first ∙ ap (λ ds. encode_utf8 c ++ ds) (read_chars cs both.1))

octet_by_tests : (c : ℕ) (rest : List ℕ) (a b : Bool) → ((c == 34) || (c == 92)) ≡ a → is_printable c ≡ b → c < 256
    → read_from AtChar ((if a then 92 ∷ c ∷ [] else if b then c ∷ [] else codes "\\x" ++ two_digits c) ++ rest) ≡ c ∷ read_from AtChar rest
octet_by_tests c rest true b is _ h = grind arith
octet_by_tests c rest false true is graphic h = grind arith
octet_by_tests c rest false false is _ h = read_two c rest h

read_octets : (name : List ℕ) → All (λ c. c < 256) name → read_from AtChar (flat_map escaped_octet name ++ codes "\"") ≡ name
read_octets [] h = refl
read_octets (c ∷ cs) h =
    let first = octet_by_tests c (flat_map escaped_octet cs ++ codes "\"") _ _ refl refl (h 0 0 (omega arith)) in
    let apart = append_assoc (escaped_octet c) (flat_map escaped_octet cs) (codes "\"") in
    ap (read_from AtChar) apart ∙ (first ∙ ap (λ ds. c ∷ ds) (read_octets cs (All-tail (λ c. c < 256) c cs h)))

-- ---- a whole name

pub inside_of_text : (name : List ℕ) → IsUtf8 name → flat_map escaped (chars name) ≡ inside_quotes name
inside_of_text name is = ap (λ b. if b then flat_map escaped (chars name) else flat_map escaped_octet name) (sym (is_utf8-from_IsUtf8 name is))

no_text : (name : List ℕ) (b : Bool) → is_utf8 name ≡ b → ¬ (IsUtf8 name) → b ≡ false
no_text name true is not_text = absurd (not_text (IsUtf8-from_is_utf8 name is))
no_text name false is not_text = refl

pub inside_of_octets : (name : List ℕ) → ¬ (IsUtf8 name) → flat_map escaped_octet name ≡ inside_quotes name
inside_of_octets name not_text =
    ap (λ b. if b then flat_map escaped (chars name) else flat_map escaped_octet name) (sym (no_text name (is_utf8 name) refl not_text))

inside : (name : List ℕ) (b : Bool) → is_utf8 name ≡ b → All (λ c. c < 256) name
    → read_from AtChar ((if b then flat_map escaped (chars name) else flat_map escaped_octet name) ++ codes "\"") ≡ name
inside name true is h =
    let (cs, (are, spell)) = IsUtf8-from_is_utf8 name is in
    let same : chars name ≡ cs = ap chars (sym spell) ∙ chars-encodes cs are in
    ap (λ ds. read_from AtChar (flat_map escaped ds ++ codes "\"")) same ∙ (read_chars cs are ∙ spell)
inside name false is h = read_octets name h

pub quoted_read : (name : List ℕ) → All (λ c. c < 256) name → name_read (quoted name) ≡ name
quoted_read name h = inside name (is_utf8 name) refl h

no_quote : (c : ℕ) (cs : List ℕ) → not (is_mark c) ≡ true → name_read (c ∷ cs) ≡ c ∷ cs
no_quote c cs h = grind arith

own_read : (name : List ℕ) → is_own_text name ≡ true → name_read name ≡ name
own_read [] h = refl
own_read (c ∷ cs) h =
    let tests = split (not (length (c ∷ cs) == 0) && not (bytes_eq (c ∷ cs) (codes "@"))) (list_all (λ d. is_graphic d && not (is_mark d)) (c ∷ cs)) h in
    let all = split (is_graphic c && not (is_mark c)) (list_all (λ d. is_graphic d && not (is_mark d)) cs) tests.1 in
    let own = split (is_graphic c) (not (is_mark c)) all.0 in
    no_quote c cs own.1

by_text : (name : List ℕ) (b : Bool) → is_own_text name ≡ b → All (λ c. c < 256) name → name_read (if b then name else quoted name) ≡ name
by_text name true is h = own_read name is
by_text name false is h = quoted_read name h

pub name_read_back : (name : List ℕ) → All (λ c. c < 256) name → name_read (name_text name) ≡ name
name_read_back name h = by_text name _ refl h

-- ---- what is printed of a name is one piece

digit_printable : (d : ℕ) → d < 16 → is_printable (digit d) ≡ true
digit_printable d h = grind arith

two_printable : (n : ℕ) → list_all is_printable (two_digits n) ≡ true
two_printable n = both_true (digit_printable (n / 16 % 16) (omega arith)) (both_true (digit_printable (n % 16) (omega arith)) refl)

four_printable : (n : ℕ) → list_all is_printable (four_digits n) ≡ true
four_printable n = both_true (digit_printable (n / 256 / 16 % 16) (omega arith)) (both_true (digit_printable (n / 256 % 16) (omega arith)) (two_printable n))

mark_printable : (c : ℕ) → ((c == 34) || (c == 92)) ≡ true → is_printable c ≡ true
mark_printable c h = grind arith

all_append : (xs ys : List ℕ) → list_all is_printable xs ≡ true → list_all is_printable ys ≡ true → list_all is_printable (xs ++ ys) ≡ true
all_append [] ys h more = more
all_append (x ∷ xs) ys h more =
    let both = split (is_printable x) (list_all is_printable xs) h in
    both_true both.0 (all_append xs ys both.1 more)

escaped_by_tests : (c : ℕ) (a b d : Bool) → ((c == 34) || (c == 92)) ≡ a → is_printable c ≡ b → list_all is_printable
    (if a then 92 ∷ c ∷ [] else if b then c ∷ [] else if d then codes "\\u" ++ four_digits c
    else codes "\\U" ++ (four_digits (c / 65536) ++ four_digits c)) ≡ true
escaped_by_tests c true b d is _ = both_true refl (both_true (mark_printable c is) refl)
escaped_by_tests c false true d _ is = both_true is refl
escaped_by_tests c false false true _ _ = four_printable c
escaped_by_tests c false false false _ _ = all_append (four_digits (c / 65536)) (four_digits c) (four_printable (c / 65536)) (four_printable c)

octet_escaped_by_tests : (c : ℕ) (a b : Bool) → ((c == 34) || (c == 92)) ≡ a → is_printable c ≡ b → list_all is_printable
    (if a then 92 ∷ c ∷ [] else if b then c ∷ [] else codes "\\x" ++ two_digits c) ≡ true
octet_escaped_by_tests c true b is _ = both_true refl (both_true (mark_printable c is) refl)
octet_escaped_by_tests c false true _ is = both_true is refl
octet_escaped_by_tests c false false _ _ = two_printable c

chars_printable : (cs : List ℕ) → list_all is_printable (flat_map escaped cs) ≡ true
chars_printable [] = refl
chars_printable (c ∷ cs) = all_append (escaped c) (flat_map escaped cs) (escaped_by_tests c _ _ _ refl refl) (chars_printable cs)

octets_printable : (cs : List ℕ) → list_all is_printable (flat_map escaped_octet cs) ≡ true
octets_printable [] = refl
octets_printable (c ∷ cs) = all_append (escaped_octet c) (flat_map escaped_octet cs) (octet_escaped_by_tests c _ _ refl refl) (octets_printable cs)

inside_printable : (name : List ℕ) (b : Bool) → list_all is_printable (if b then flat_map escaped (chars name) else flat_map escaped_octet name) ≡ true
inside_printable name true = chars_printable (chars name)
inside_printable name false = octets_printable name

pub quoted_printable : (name : List ℕ) → list_all is_printable (quoted name) ≡ true
quoted_printable name = both_true refl (all_append (inside_quotes name) (codes "\"") (inside_printable name (is_utf8 name)) refl)

graphic_printable : (c : ℕ) → is_graphic c ≡ true → is_printable c ≡ true
graphic_printable c h = grind arith

own_printable : (name : List ℕ) → list_all (λ d. is_graphic d && not (is_mark d)) name ≡ true → list_all is_printable name ≡ true
own_printable [] h = refl
own_printable (c ∷ cs) h =
    let both = split (is_graphic c && not (is_mark c)) (list_all (λ d. is_graphic d && not (is_mark d)) cs) h in
    both_true (graphic_printable c (split (is_graphic c) (not (is_mark c)) both.0).0) (own_printable cs both.1)

text_by : (name : List ℕ) (b : Bool) → is_own_text name ≡ b → list_all is_printable (if b then name else quoted name) ≡ true
text_by name true h = own_printable name (split (not (length name == 0) && not (bytes_eq name (codes "@")))
    (list_all (λ d. is_graphic d && not (is_mark d)) name) h).1
text_by name false h = quoted_printable name

pub text_printable : (name : List ℕ) → list_all is_printable (name_text name) ≡ true
text_printable name = text_by name _ refl

printable_small : (c : ℕ) → is_printable c ≡ true → c < 128
printable_small c h = grind arith

printable_is_ascii : (text : List ℕ) → list_all is_printable text ≡ true → IsAscii text
printable_is_ascii [] h i = omega arith
printable_is_ascii (c ∷ cs) h zero = printable_small c (split (is_printable c) (list_all is_printable cs) h).0
printable_is_ascii (c ∷ cs) h (suc i) = printable_is_ascii cs (split (is_printable c) (list_all is_printable cs) h).1 i

pub printable_is_utf8 : (text : List ℕ) → list_all is_printable text ≡ true → IsUtf8 text
printable_is_utf8 text h = IsUtf8-from_ascii text (printable_is_ascii text h)

all_graphic : (name : List ℕ) → list_all (λ d. is_graphic d && not (is_mark d)) name ≡ true → list_all is_graphic name ≡ true
all_graphic [] h = refl
all_graphic (c ∷ cs) h =
    let both = split (is_graphic c && not (is_mark c)) (list_all (λ d. is_graphic d && not (is_mark d)) cs) h in
    both_true (split (is_graphic c) (not (is_mark c)) both.0).0 (all_graphic cs both.1)

piece_by : (name : List ℕ) (b : Bool) → is_own_text name ≡ b → IsOnePiece (if b then name else quoted name)
piece_by name true h = inl (all_graphic name (split (not (length name == 0) && not (bytes_eq name (codes "@")))
    (list_all (λ d. is_graphic d && not (is_mark d)) name) h).1)
piece_by name false h = inr (inside_quotes name, refl, inside_printable name (is_utf8 name))

pub name_is_one_piece : (name : List ℕ) → IsOnePiece (name_text name)
name_is_one_piece name = piece_by name _ refl

-- Names of users, groups, views and contexts as all commands print them, and what is read back of their texts.
--
-- `name_text`: the text of a name. `context_text`: that of a context's name. `IsOnePiece`: what a terminal shows as one
-- piece. `name_read`: the name that a text is of.
use Rattle.std.specs.Prelude.{ℕ, zero, suc, ◌+◌, ◌*◌, ◌-◌, ◌/◌, ◌%◌, ◌≡◌, Bool, true, false, ◌⊎◌, not, ◌&&◌, ◌||◌, ◌==◌}
use Rattle.std.specs.Prelude.{nat_lt, nat_le, if◌then◌else◌}
use Rattle.std.specs.Prelude.{List, [], ◌∷◌, ◌++◌, length, codes, flat_map, chars, encode_utf8}
use Rattle.std.specs.Str.{bytes_eq, is_utf8}
use Rattle.std.specs.List.{list_all}

-- a quote or the backslash
abbrev pub is_mark : ℕ → Bool
is_mark c = (c == 34) || (c == 39) || (c == 92)

-- a printable character of ASCII: neither a blank nor a control character
abbrev pub is_graphic : ℕ → Bool
is_graphic c = nat_lt 32 c && nat_lt c 127

-- the same, or a blank
abbrev pub is_printable : ℕ → Bool
is_printable c = nat_le 32 c && nat_lt c 127

-- a name that is printed as it is; `@` is printed of an empty context
abbrev pub is_own_text : List ℕ → Bool
is_own_text name = not (length name == 0) && not (bytes_eq name (codes "@"))
    && list_all (λ c. is_graphic c && not (is_mark c)) name

-- a hexadecimal digit, with capitals
abbrev pub digit : ℕ → ℕ
digit n = if nat_lt n 10 then 48 + n else 55 + n

-- the last two digits of a number, and the last four
abbrev pub two_digits : ℕ → List ℕ
two_digits n = digit (n / 16 % 16) ∷ digit (n % 16) ∷ []

abbrev pub four_digits : ℕ → List ℕ
four_digits n = two_digits (n / 256) ++ two_digits n

-- what stands for a character in a basic string of TOML, in ASCII: itself, or it after a backslash, or its number
abbrev pub escaped : ℕ → List ℕ
escaped c =
    if (c == 34) || (c == 92) then 92 ∷ c ∷ []
    else if is_printable c then c ∷ []
    else if nat_lt c 65536 then codes "\\u" ++ four_digits c
    else codes "\\U" ++ (four_digits (c / 65536) ++ four_digits c)

-- what stands for an octet of a name that isn't UTF-8: as before, but with the octet's number, which TOML doesn't have
abbrev pub escaped_octet : ℕ → List ℕ
escaped_octet c =
    if (c == 34) || (c == 92) then 92 ∷ c ∷ []
    else if is_printable c then c ∷ []
    else codes "\\x" ++ two_digits c

abbrev pub inside_quotes : List ℕ → List ℕ
inside_quotes name = if is_utf8 name then flat_map escaped (chars name) else flat_map escaped_octet name

abbrev pub quoted : List ℕ → List ℕ
quoted name = codes "\"" ++ (inside_quotes name ++ codes "\"")

-- as it is, or else between quotes
abbrev pub name_text : List ℕ → List ℕ
name_text name = if is_own_text name then name else quoted name

-- `@` for the context without a name
abbrev pub context_text : List ℕ → List ℕ
context_text [] = codes "@"
context_text (c ∷ cs) = name_text (c ∷ cs)

-- what a terminal shows as one piece: printable characters of ASCII without a blank, or with blanks between quotes
abbrev pub IsOnePiece : List ℕ → Type 0
IsOnePiece text = (list_all is_graphic text ≡ true)
    ⊎ ((inside : List ℕ) × (text ≡ codes "\"" ++ (inside ++ codes "\"")) × (list_all is_printable inside ≡ true))

-- ---- what is read back

-- where a reader between quotes is: at a character, after a backslash, or before so many digits more than one of the
-- number of an octet or a character, with what was read of it
pub data Place : Type 0 where
  AtChar : Place
  AfterBackslash : Place
  BeforeDigits : Bool → ℕ → ℕ → Place

abbrev pub digit_value : ℕ → ℕ
digit_value c = if nat_lt c 58 then c - 48 else c - 55

-- the octets of a character of this number, or the octet
abbrev pub octets_of : Bool → ℕ → List ℕ
octets_of is_octet n = if is_octet then n ∷ [] else encode_utf8 n

-- what is read from this place up to the quote at the end
abbrev pub read_from : Place → List ℕ → List ℕ
read_from at [] = []
read_from AtChar (c ∷ cs) =
    if c == 34 then [] else if c == 92 then read_from AfterBackslash cs else c ∷ read_from AtChar cs
read_from AfterBackslash (c ∷ cs) =
    if c == 117 then read_from (BeforeDigits false 3 0) cs
    else if c == 85 then read_from (BeforeDigits false 7 0) cs
    else if c == 120 then read_from (BeforeDigits true 1 0) cs
    else c ∷ read_from AtChar cs
read_from (BeforeDigits is_octet zero n) (c ∷ cs) = octets_of is_octet (n * 16 + digit_value c) ++ read_from AtChar cs
read_from (BeforeDigits is_octet (suc left) n) (c ∷ cs) =
    read_from (BeforeDigits is_octet left (n * 16 + digit_value c)) cs

-- the name that a text is of
abbrev pub name_read : List ℕ → List ℕ
name_read [] = []
name_read (c ∷ cs) = if c == 34 then read_from AtChar cs else c ∷ cs

-- How a key is shown: as TOML has it, bare or as a basic string (TOML 1.0, "Keys").
use Rattle.std.specs.Prelude.{ℕ, ◌+◌, ◌/◌, ◌%◌, ◌==◌, ◌||◌, ◌&&◌, nat_lt, Bool, not, if◌then◌else◌, List, [], ◌∷◌, ◌++◌}
use Rattle.std.specs.Prelude.{length, codes, encode_utf8}
use Rattle.std.specs.List.{flat_map, list_all}
use Rattle.std.specs.Str.{chars}
use Rattle.toml_parser.specs.Lexical.{is_bare}

-- a hex digit, with capitals
abbrev pub digit : ℕ → ℕ
digit n = if nat_lt n 10 then 48 + n else 55 + n

-- a control character by its number
abbrev pub number_of : ℕ → List ℕ
number_of c = codes "\\u00" ++ digit (c / 16) ∷ digit (c % 16) ∷ []

-- a character in a basic string: a quote and a backslash behind a backslash, a control character by its number
abbrev pub quoted_char : ℕ → List ℕ
quoted_char c =
    if (c == 34) || (c == 92) then 92 ∷ c ∷ []
    else if nat_lt c 32 || (c == 127) then number_of c
    else encode_utf8 c

-- a basic string of the key's characters
abbrev pub quoted_key : List ℕ → List ℕ
quoted_key key = codes "\"" ++ (flat_map quoted_char (chars key) ++ codes "\"")

-- a key that needs no quotes
abbrev pub is_bare_key : List ℕ → Bool
is_bare_key key = not (length key == 0) && list_all is_bare key

abbrev pub shown_key : List ℕ → List ℕ
shown_key key = if is_bare_key key then key else quoted_key key

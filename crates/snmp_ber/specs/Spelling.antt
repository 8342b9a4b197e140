-- The canonical spelling: the shortest length, and an INTEGER's fewest octets.
--
-- `element tag content`: the tag, the shortest length, the content. `integer`: the last octets of the
-- number in two's complement, as many as it needs.
use Rattle.std.specs.Prelude.{ℕ, suc, ℤ, pos, negsuc, ◌+◌, ◌-◌, nat_lt, if◌then◌else◌, List, [], ◌∷◌, ◌++◌, length}
use Rattle.std.specs.Prelude.{drop}
use Rattle.std.specs.Int.{w32, w64, to_be_bytes, cast_unsigned}

-- how many digits in base 256 a number below 2 ^ 32 takes
abbrev pub digit_count : ℕ → ℕ
digit_count n = if nat_lt n 256 then 1 else if nat_lt n 65536 then 2 else if nat_lt n 16777216 then 3 else 4

-- the shortest spelling of a length below 2 ^ 32
unfoldable pub shortest_length : ℕ → List ℕ
shortest_length n =
    if nat_lt n 128 then n ∷ []
    else (128 + digit_count n) ∷ drop (4 - digit_count n) (to_be_bytes w32 n)

-- the tag and the shortest length
abbrev pub head_of : ℕ → ℕ → List ℕ
head_of tag size = tag ∷ shortest_length size

-- how many octets these are
abbrev pub head_size : ℕ → ℕ
head_size size = suc (length (shortest_length size))

-- the element with the shortest length
abbrev pub element : ℕ → List ℕ → List ℕ
element tag content = head_of tag (length content) ++ content

-- how many octets a number from -2147483648 to 4294967295 takes in two's complement
abbrev pub octet_count : ℤ → ℕ
octet_count (pos n) = if nat_lt n 128 then 1 else if nat_lt n 32768 then 2 else if nat_lt n 8388608 then 3
    else if nat_lt n 2147483648 then 4 else 5
octet_count (negsuc n) = if nat_lt n 128 then 1 else if nat_lt n 32768 then 2 else if nat_lt n 8388608 then 3 else 4

-- the content of the INTEGER of a number: the last octets of it in two's complement
unfoldable pub integer : ℤ → List ℕ
integer z = drop (8 - octet_count z) (to_be_bytes w64 (cast_unsigned w64 z))

-- The column at the end of a dump's line, which shows its octets as text.
use Rattle.std.specs.Prelude.{ℕ, ◌+◌, ◌-◌, ◌==◌, ◌&&◌, ◌||◌, not, nat_le, nat_lt, Bool, true, false, List, [], ◌∷◌}
use Rattle.std.specs.Prelude.{length, take, drop, slice_index}
use Rattle.std.specs.List.{list_all, suffix_len}
use Rattle.capture_dumps.specs.Dump.{is_blank}

-- an octet of ASCII that can be seen
abbrev pub is_graphic : ℕ → Bool
is_graphic octet = nat_lt 32 octet && nat_lt octet 127

-- How an octet is shown: one that can be seen as it is, the blank as it is or as a dot, any other as a dot.
abbrev pub shows : ℕ → ℕ → Bool
shows octet shown = (is_graphic octet && (shown == octet)) ||
    (not (is_graphic octet) && ((shown == 46) || ((octet == 32) && (shown == 32))))

-- The text shows the octets, one for one.
abbrev pub are_shown : List ℕ → List ℕ → Bool
are_shown [] [] = true
are_shown [] (shown ∷ text) = false
are_shown (octet ∷ octets) [] = false
are_shown (octet ∷ octets) (shown ∷ text) = shows octet shown && are_shown octets text

abbrev pub are_blanks : List ℕ → Bool
are_blanks text = list_all is_blank text

-- The text is two blanks at least, and then shows the octets.
abbrev pub has_column : List ℕ → List ℕ → Bool
has_column octets text =
    nat_le (length octets + 2) (length text) &&
    (are_blanks (take (length text - length octets) text) && are_shown octets
    (drop (length text - length octets) text))

-- the octet at this place from the end, from 1
abbrev pub from_end : List ℕ → ℕ → ℕ
from_end text place = slice_index text (length text - place)

-- The text is two blanks at least, and then shows the octets between these two marks.
abbrev pub has_marked : ℕ → ℕ → List ℕ → List ℕ → Bool
has_marked before after octets text =
    nat_le (length octets + 4) (length text)
    && ((from_end text 1 == after) && ((from_end text (length octets + 2) == before)
    && (are_blanks (take (length text - (length octets + 2)) text) && are_shown octets
    (take (length octets) (drop (length text - (length octets + 1)) text)))))

-- how many octets there are up to the last that isn't a blank
abbrev pub seen_size : List ℕ → ℕ
seen_size octets = length octets - suffix_len (λ c. c == 32) octets

-- The text shows the octets: as it is, perhaps without the blanks at its end, which editors take away;
-- between | and |; or between > and <.
abbrev pub has_any_column : List ℕ → List ℕ → Bool
has_any_column octets text =
    has_column octets text ||
    (has_column (take (seen_size octets) octets) text ||
    (has_marked 124 124 octets text || has_marked 62 60 octets text))

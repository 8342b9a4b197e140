-- How many brackets of a text are open, as TOML has them: outside of strings and comments.
--
-- `OpensTooMany n text left`. Where n brackets are open in front of the text, the bracket with which its last
-- `left` octets begin is the first that opens beside 16 others. `IsShallow`: no bracket does. `position_behind`:
-- the line and the column of the place behind some octets.
use Rattle.std.specs.Prelude.{◌≡◌, ℕ, ◌+◌, ◌-◌, ◌/◌, ◌≤◌, ◌==◌, ◌||◌, ◌&&◌, nat_lt, if◌then◌else◌}
use Rattle.std.specs.Prelude.{List, [], ◌∷◌, length, take, drop, Option, Some, None, option_map}
use Rattle.toml_parser.specs.Lexical.{first, skip_blank}
use Rattle.toml_parser.specs.Strings.{starts_string, quoted}
use Rattle.snmpsec_config.specs.declared.nesting.Mark.{Mark}
use Rattle.snmpsec_config.specs.declared.nesting.Mark.TheVariants.{Opens, Closes, Neither}

-- ---- the pieces of a text

-- what an octet does outside of strings and comments
abbrev pub mark_of : ℕ → Mark
mark_of octet =
    if octet == 91 || octet == 123 then Opens
    else if octet == 93 || octet == 125 then Closes
    else Neither

-- The piece with which the text begins, and what is behind it: a string of any kind, or an octet of ASCII. None
-- at the end, where a string is out of form, and where no text of TOML goes on.
abbrev pub piece : List ℕ → Option (Mark × List ℕ)
piece text =
    if starts_string text then option_map (λ string. (Neither, string.1)) (quoted text)
    else if nat_lt 0 (first text) && nat_lt (first text) 128 then Some (mark_of (first text), drop 1 text)
    else None

-- The text is these pieces, each behind white space, newlines and comments, and the rest.
abbrev pub ArePieces : List Mark → List ℕ → List ℕ → Type 0
ArePieces [] text rest = rest ≡ text
ArePieces (mark ∷ marks) text rest = (behind : List ℕ) × (piece (skip_blank text) ≡ Some (mark, behind))
    × ArePieces marks behind rest

-- ---- the brackets that are open

-- how many are open behind a piece, of which n were open in front
abbrev pub open_behind : Mark → ℕ → ℕ
open_behind Opens n = n + 1
open_behind Closes n = n - 1
open_behind Neither n = n

-- how many are open behind these pieces
abbrev pub open_behind_all : List Mark → ℕ → ℕ
open_behind_all [] n = n
open_behind_all (mark ∷ marks) n = open_behind_all marks (open_behind mark n)

-- at most 16 are open in front of each of these pieces and behind them
abbrev pub StayWithin : List Mark → ℕ → Type 0
StayWithin [] n = n ≤ 16
StayWithin (mark ∷ marks) n = (n ≤ 16) × StayWithin marks (open_behind mark n)

-- A bracket opens beside 16 that are open, the first that does. The octets from it on are so many.
pub record OpensTooMany (n : ℕ) (text : List ℕ) (left : ℕ) : Type 0 where
  pub marks : List Mark
  pub rest : List ℕ
  pub behind : List ℕ
  pub are_pieces : ArePieces marks text rest
  pub within : StayWithin marks n
  pub beside : open_behind_all marks n ≡ 16
  pub opens : piece (skip_blank rest) ≡ Some (Opens, behind)
  pub here : left ≡ length (skip_blank rest)

-- No bracket opens beside 16 that are open.
abbrev pub IsShallow : List ℕ → Type 0
IsShallow text = (left : ℕ) → ¬ OpensTooMany 0 text left

-- ---- places

-- the line and the column behind these octets, where they begin at this one; a column counts characters of UTF-8
abbrev pub position_from : List ℕ → ℕ → ℕ → ℕ × ℕ
position_from [] line column = (line, column)
position_from (octet ∷ octets) line column =
    if octet == 10 then position_from octets (line + 1) 1
    else if octet / 64 == 2 then position_from octets line column
    else position_from octets line (column + 1)

-- the line and the column behind these octets of a text, both from 1
abbrev pub position_behind : List ℕ → ℕ × ℕ
position_behind octets = position_from octets 1 1

-- The bracket that is the first beside 16 others stands here.
abbrev pub IsTooDeepAt : List ℕ → ℕ → ℕ → Type 0
IsTooDeepAt text line column = (left : ℕ) × OpensTooMany 0 text left × (left ≤ length text)
    × ((line, column) ≡ position_behind (take (length text - left) text))

-- What managers took apart from one another, each from the same beginning, and what they saved.
--
-- `ArePiecesOf`, `SaveEach`, `SavesText`. A datagram stands in a list, with its moment, exactly where it
-- stands in one of the pieces; managers that begin alike take a piece each, and save their texts.
use Rattle.std.specs.Prelude.{◌≡◌, ◌↔◌, ℕ, ⊤, List, [], ◌∷◌, Contains}
use Rattle.engine_clock.specs.Saved.{AreMarks, listing}
use Rattle.snmp_manager.specs.Views.{Held}
use Rattle.snmp_manager.specs.Runs.{HasTaken}

-- datagrams, each with its moment
abbrev pub Piece : Type 0
Piece = List (ℕ × List ℕ)

-- the datagram stands, with its moment, in one of the pieces
abbrev pub InPieces : List Piece → ℕ × List ℕ → Type 0
InPieces pieces t = (piece : Piece) × Contains pieces piece × Contains piece t

-- A datagram stands in the list, with its moment, exactly where it stands so in one of the pieces. Nothing
-- more is said of how the list was cut: pieces come in any order, may overlap, and may come again.
abbrev pub ArePiecesOf : Piece → List Piece → Type 0
ArePiecesOf taken pieces = (t : ℕ × List ℕ) → Contains taken t ↔ InPieces pieces t

-- a manager that begins as `begin` takes the piece, and this is the text that it saves then
pub record SavesText (begin : Held) (piece : Piece) (text : List ℕ) : Type 0 where
  pub after : Held
  pub taken : HasTaken begin piece after
  pub fits : AreMarks after.clocks
  pub is : text ≡ listing after.clocks

-- each piece is taken alone, by a manager that begins as `begin`, and has its text
abbrev pub SaveEach : Held → List Piece → List (List ℕ) → Type 0
SaveEach begin [] [] = ⊤
SaveEach begin [] (text ∷ texts) = ⊥
SaveEach begin (piece ∷ pieces) [] = ⊥
SaveEach begin (piece ∷ pieces) (text ∷ texts) = SavesText begin piece text × SaveEach begin pieces texts

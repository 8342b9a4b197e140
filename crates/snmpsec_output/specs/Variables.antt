-- Object identifiers in decimals with dots between (RFC 2578, section 3.5), and what is wrong with a word that is none.
--
-- `IsDotted word`, `TellsVariable word fault`. The word is the dotted text of arcs; and else which fault is
-- its: it is empty, it begins with a dot, its parts are numbers and over 128, or a part is the first that
-- is no number of 32 bits (`TellsPart`): nothing stands there, or something else than digits, or digits
-- that are too great or have a 0 in front (`TellsNumber`).
use Rattle.std.specs.Prelude.{◌≡◌, ℕ, ◌<◌, ◌^◌, ◌==◌, suc, true, false, List, [], ◌∷◌, length, take, decimal, Some}
use Rattle.std.specs.List.{AllByRecursion, list_all, slice_get, slice_split}
use Rattle.std.specs.Char.{is_ascii_digit}
use Rattle.snmp_ber.specs.Oid.{AreArcs, dotted}
use Rattle.snmpsec_output.specs.declared.variables.VariableFault.{VariableFault}
use Rattle.snmpsec_output.specs.declared.variables.VariableFault.TheVariants as faults

-- The word is the dotted text of arcs.
abbrev pub IsDotted : List ℕ → Type 0
IsDotted word = (arcs : List ℕ) × AreArcs arcs × (word ≡ dotted arcs)

-- a number of 32 bits, in decimal
abbrev pub IsNumber : List ℕ → Type 0
IsNumber part = (n : ℕ) × (n < 2 ^ 32) × (part ≡ decimal n)

-- what stands between the dots
abbrev pub parts : List ℕ → List (List ℕ)
parts word = slice_split (λ octet. octet == 46) word

-- ---- one part, whose number from 1 is given

-- It is no number, and this is why: nothing is there; or it has something else than digits; or digits alone,
-- so that the number is too great or has a 0 in front.
abbrev pub TellsNumber : ℕ → List ℕ → VariableFault → Type 0
TellsNumber at part faults.Empty = ⊥
TellsNumber at part (faults.DotInFront rest) = ⊥
TellsNumber at part (faults.Missing place) = (place ≡ at) × (part ≡ [])
TellsNumber at part (faults.NoNumber place word) = (place ≡ at) × (word.now ≡ part) × (IsNumber part → ⊥)
    × (list_all is_ascii_digit part ≡ false)
TellsNumber at part (faults.OutOfRange place word) = (place ≡ at) × (word.now ≡ part) × (IsNumber part → ⊥)
    × (list_all is_ascii_digit part ≡ true)
TellsNumber at part (faults.TooMany count) = ⊥

-- ---- the word

-- The parts before one are numbers, and that one has this fault.
pub record TellsPart (word : List ℕ) (fault : VariableFault) : Type 0 where
  pub place : ℕ
  pub part : List ℕ
  pub there : slice_get (parts word) place ≡ Some part
  pub before : AllByRecursion IsNumber (take place (parts word))
  pub told : TellsNumber (suc place) part fault

-- The fault is the word's: it is empty; it begins with a dot; a part of it is the first that is no number; or
-- all are, and there are over 128.
abbrev pub TellsVariable : List ℕ → VariableFault → Type 0
TellsVariable word faults.Empty = word ≡ []
TellsVariable word (faults.DotInFront rest) = word ≡ 46 ∷ rest.now
TellsVariable word (faults.Missing at) = TellsPart word (faults.Missing at)
TellsVariable word (faults.NoNumber at part) = TellsPart word (faults.NoNumber at part)
TellsVariable word (faults.OutOfRange at part) = TellsPart word (faults.OutOfRange at part)
TellsVariable word (faults.TooMany count) = (count ≡ length (parts word)) × (128 < count)
    × AllByRecursion IsNumber (parts word)

-- What a GetBulkRequest is answered with (RFC 3416, section 4.2.3).
--
-- `AreRepetitions`: each repetition is what a GetNextRequest of the names of the one before is answered with, the first
-- one of the names that were asked; only the last one may be endOfMibView throughout. `IsBulk`: the non-repeaters are
-- answered as in a GetNextRequest; behind them stand the repetitions of the other names, as many as were asked, or up
-- to one that is endOfMibView throughout. An answer may be any front of it (RFC 3416, section 4.2.3).
use Rattle.std.specs.Prelude.{◌≡◌, ◌⊎◌, ℕ, suc, zero, List, [], ◌++◌, All, map, take, drop, Some}
use Rattle.snmp_msg.specs.Values.{syntax_of}
use Rattle.snmp_msg.specs.Variables.{Variable}
use Rattle.snmp_msg.specs.declared.value.Syntax.TheVariants.{EndOfMibView}
use Rattle.snmp_responder.specs.Instrumentation.{Known}
use Rattle.snmp_responder.specs.Next.{AreNextAnswers}

-- the value of the variable is endOfMibView
abbrev pub IsEnded : Variable → Type 0
IsEnded v = syntax_of v.tag ≡ Some EndOfMibView

-- of each of them
abbrev pub AreEnded : List Variable → Type 0
AreEnded vs = All IsEnded vs

-- The variables are repetitions of these names: so many, or fewer if the last one is endOfMibView throughout.
abbrev pub AreRepetitions : Known → (List ℕ → Type 0) → ℕ → List (List ℕ) → List Variable → Type 0
AreRepetitions device Seen zero names vs = vs ≡ []
AreRepetitions device Seen (suc n) names vs = (row : List Variable) × (rest : List Variable) × (vs ≡ row ++ rest)
    × AreNextAnswers device Seen names row
    × ((AreEnded row × (rest ≡ [])) ⊎ ((¬ AreEnded row) × AreRepetitions device Seen n (map (λ v. v.name) row) rest))

-- The variables are what the names are answered with in a GetBulkRequest of so many non-repeaters and repetitions.
pub record IsBulk (device : Known) (Seen : List ℕ → Type 0) (names : List (List ℕ)) (non_repeaters most : ℕ)
    (vs : List Variable) : Type 0 where
  pub single : List Variable
  pub repeated : List Variable
  pub joined : vs ≡ single ++ repeated
  pub are_single : AreNextAnswers device Seen (take non_repeaters names) single
  pub are_repeated : AreRepetitions device Seen most (drop non_repeaters names) repeated

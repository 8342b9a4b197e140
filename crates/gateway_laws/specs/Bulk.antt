-- GetBulkRequests to a device that answers as RFC 3416 says (section 4.2.3).
--
-- `IsTrueInTurn`: each binding of an answer is what the device has next after the name that was asked for its column,
-- or after the one that the answer has before it in that column. `IsTrueBulkAnswer`: an answer of the device is so, and
-- never says noSuchName. `IsTrueBulkRun`: it answers so in each step of a dialogue. `IsFrontOfBulk`: a front of what
-- the names are answered with.
use Rattle.std.specs.Prelude.{◌≡◌, ◌⊎◌, ⊤, ℕ, zero, suc, List, [], ◌∷◌, ◌++◌, drop, map, set, take}
use Rattle.std.specs.List.{AllZip, HoldsAt}
use Rattle.snmp_msg.specs.Variables.{Variable, variables_of}
use Rattle.snmp_msg.specs.declared.pdu.Pdu.{Pdu}
use Rattle.snmp_responder.specs.Bulk.{AreEnded}
use Rattle.snmp_responder.specs.Instrumentation.{Known}
use Rattle.snmp_responder.specs.Next.{AreNextAnswers, IsNextAnswer}
use Rattle.snmp_walk.specs.Answer.{IsNoError}
use Rattle.snmp_walk.specs.BulkAnswered.{turns_of}
use Rattle.snmp_walk.specs.BulkRun.{BulkStep, IsBulkStep, came, goes}
use Rattle.snmp_walk.specs.Column.{Asks}
use Rattle.snmp_walk.specs.declared.failure.TheConstants.{NO_SUCH_NAME}
use Rattle.snmp_walk.specs.declared.bulk_column.BulkColumn.{BulkColumn}
use Rattle.snmp_walk.specs.declared.bulk_dialogue.BulkDialogue.{BulkDialogue}
use Rattle.gateway_laws.specs.Device.{AllSeen}

-- the variables are those that the device has next, in the order of these columns: the first one of a column after
-- its name, and each further one after the one before it in its column. An answer may have fewer
abbrev pub IsTrueInTurn : Known → List (List ℕ) → List ℕ → List Variable → Type 0
IsTrueInTurn device names columns [] = ⊤
IsTrueInTurn device names [] (v ∷ vs) = ⊤
IsTrueInTurn device names (column ∷ columns) (v ∷ vs) =
    HoldsAt (λ (name : List ℕ). IsNextAnswer device AllSeen name v) names column
    × IsTrueInTurn device (set names column v.name) columns vs

-- the device was asked these names, one for each column that was asked
abbrev pub AreNamesAsked : List BulkColumn → List (List ℕ) → Type 0
AreNamesAsked cs names = AllZip (λ (c : BulkColumn) name. (asked : List ℕ) → Asks c.progress asked → name ≡ asked)
    cs names

-- an answer of the device: without an error its bindings are true; and it doesn't say noSuchName, which is for devices
-- of version-1 (RFC 3416, section 4.2.3)
pub record IsTrueBulkAnswer (device : Known) (asked : BulkDialogue) (answer : Pdu) : Type 0 where
  pub bindings : IsNoError answer → (names : List (List ℕ)) → AreNamesAsked asked.columns.items names
      → IsTrueInTurn device names (turns_of asked) (variables_of answer.list.now)
  pub not_version_1 : ¬ (answer.second ≡ NO_SUCH_NAME)

abbrev pub AnswersBulkTruly : Known → BulkDialogue → BulkStep → Type 0
AnswersBulkTruly device old (goes becomes) = ⊤
AnswersBulkTruly device old (came answer becomes) = IsTrueBulkAnswer device old answer

-- the steps lead from one dialogue to the other, and the device answers so in each
abbrev pub IsTrueBulkRun : Known → (List ℕ → Type 0) → List Variable → BulkDialogue → List BulkStep → BulkDialogue
    → Type 0
IsTrueBulkRun device Seen told first [] last = last ≡ first
IsTrueBulkRun device Seen told first (step ∷ steps) last = AnswersBulkTruly device first step
    × (second : BulkDialogue) × IsBulkStep Seen told first step second
    × IsTrueBulkRun device Seen told second steps last

-- the first ones of these names are answered, but not all
abbrev pub AreFirstAnswers : Known → (List ℕ → Type 0) → List (List ℕ) → List Variable → Type 0
AreFirstAnswers device Seen [] vs = ⊥
AreFirstAnswers device Seen (name ∷ names) [] = ⊤
AreFirstAnswers device Seen (name ∷ names) (v ∷ vs) = IsNextAnswer device Seen name v
    × AreFirstAnswers device Seen names vs

-- a front of so many repetitions of these names: fewer if one is endOfMibView throughout, or where it is cut
abbrev pub IsFrontOfRepetitions : Known → (List ℕ → Type 0) → ℕ → List (List ℕ) → List Variable → Type 0
IsFrontOfRepetitions device Seen zero names vs = vs ≡ []
IsFrontOfRepetitions device Seen (suc n) names vs = AreFirstAnswers device Seen names vs
    ⊎ ((row : List Variable) × (rest : List Variable) × (vs ≡ row ++ rest) × AreNextAnswers device Seen names row
    × ((AreEnded row × (rest ≡ []))
    ⊎ ((¬ AreEnded row) × IsFrontOfRepetitions device Seen n (map (λ v. v.name) row) rest)))

-- a front of what the names are answered with in a GetBulkRequest of so many non-repeaters and repetitions
abbrev pub IsFrontOfBulk : Known → (List ℕ → Type 0) → List (List ℕ) → ℕ → ℕ → List Variable → Type 0
IsFrontOfBulk device Seen names non_repeaters most vs = AreFirstAnswers device Seen (take non_repeaters names) vs
    ⊎ ((single : List Variable) × (rest : List Variable) × (vs ≡ single ++ rest)
    × AreNextAnswers device Seen (take non_repeaters names) single
    × IsFrontOfRepetitions device Seen most (drop non_repeaters names) rest)

-- What an answer of the device is to a dialogue (RFC 3416, sections 4.2.1 and 4.2.2).
--
-- `IsAnswered`: what it is, and what becomes of the dialogue. `Tells`: the list has all that it says.
use Rattle.std.specs.Prelude.{◌≡◌, pos, Some, ℕ, List, All, Contains, set}
use Rattle.std.specs.List.{HoldsAt}
use Rattle.snmp_msg.specs.Variables.{Variable, variables_of}
use Rattle.snmp_msg.specs.declared.value.Syntax.TheVariants.{EndOfMibView}
use Rattle.snmp_msg.specs.declared.pdu.Pdu.{Pdu}
use Rattle.snmp_responder.specs.Instrumentation.{IsException}
use Rattle.snmp_walk.specs.Column.{Asks, IsAsked}
use Rattle.snmp_walk.specs.Dialogue.{AllTake, AnswersAll, IsFault, asks_of, request}
use Rattle.snmp_walk.specs.Failure.{EndsWalk, IsFailure}
use Rattle.snmp_walk.specs.declared.column.Column.{Column}
use Rattle.snmp_walk.specs.declared.column.Progress.TheVariants.{Ended}
use Rattle.snmp_walk.specs.declared.failure.Failure.{Failure}
use Rattle.snmp_walk.specs.declared.failure.FailureStatus.TheVariants.{NoSuchName}
use Rattle.snmp_walk.specs.declared.dialogue.Dialogue.{Dialogue}
use Rattle.snmp_walk.specs.declared.dialogue.Answered.{Answered}
use Rattle.snmp_walk.specs.declared.dialogue.Answered.TheVariants as answered

-- error-status says that there is none
abbrev pub IsNoError : Pdu → Type 0
IsNoError answer = answer.second ≡ pos 0

-- noSuchName of the column of this number
abbrev pub no_such_name_of : ℕ → Failure
no_such_name_of number = record { status = NoSuchName; column = Some number }

-- the column of this number, which asked, is at its end, and the others are as they were
pub record EndsOne (olds : List Column) (number : ℕ) (news : List Column) : Type 0 where
  pub asked : HoldsAt (λ (c : Column). IsAsked c.progress) olds number
  pub new : Column
  pub same : HoldsAt (λ (c : Column). request new ≡ request c) olds number
  pub ended : new.progress ≡ Ended
  pub news_are : news ≡ set olds number new

-- its bindings answer what was asked, and are taken; or they don't; or it says of a walk that there is no next
-- variable, and that column is at its end; or it has another error. Nothing else changes
abbrev pub IsAnswered : (List ℕ → Type 0) → Pdu → Dialogue → Dialogue → Answered → Type 0
IsAnswered Seen answer old new answered.Taken = IsNoError answer
    × AnswersAll (asks_of old.columns.items) (variables_of answer.list.now)
    × AllTake Seen old.columns.items (variables_of answer.list.now) new.columns.items
    × (new.rounds ≡ old.rounds)
IsAnswered Seen answer old new (answered.Unfit fault) = IsNoError answer
    × IsFault (asks_of old.columns.items) (variables_of answer.list.now) fault
    × (new ≡ old)
IsAnswered Seen answer old new (answered.Ended number) = (¬ IsNoError answer)
    × IsFailure old.columns.items answer (no_such_name_of number)
    × EndsWalk old.columns.items (no_such_name_of number) number
    × EndsOne old.columns.items number new.columns.items
    × (new.rounds ≡ old.rounds)
IsAnswered Seen answer old new (answered.Failed failure) = (¬ IsNoError answer)
    × IsFailure old.columns.items answer failure
    × ((number : ℕ) → ¬ EndsWalk old.columns.items failure number)
    × (new ≡ old)

-- the name that was asked for the column of this number, with endOfMibView
abbrev pub IsEndAt : List Column → ℕ → Variable → Type 0
IsEndAt columns number v =
    HoldsAt (λ (c : Column). (name : List ℕ) → Asks c.progress name → IsException EndOfMibView name v) columns number

-- the list has all that the answer says: its bindings, or what noSuchName says of a walk
abbrev pub Tells : Dialogue → Pdu → Answered → List Variable → Type 0
Tells old answer (answered.Ended number) told =
    (v : Variable) × Contains told v × IsEndAt old.columns.items number v
Tells old answer _ told = All (Contains told) (variables_of answer.list.now)

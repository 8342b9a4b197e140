-- What an answer of the device is to a dialogue for a GetBulkRequest (RFC 3416, section 4.2.3).
--
-- `IsTooBig`: the device can't answer so much. `IsBulkAskedAt`: the column to which an error-index belongs.
-- `IsBulkAnswered`: what the answer is, and what becomes of the dialogue. `BulkTells`: the list has all that it says.
use Rattle.std.specs.Prelude.{◌≡◌, ◌⊎◌, ◌+◌, ◌/◌, ◌<◌, ◌≤◌, ℕ, ℤ, pos, List, [], All, Bool, true, false, Contains}
use Rattle.std.specs.Prelude.{None, MatchOption, length, set, take}
use Rattle.std.specs.List.{HoldsAt, AllZip}
use Rattle.snmp_msg.specs.Variables.{Variable, variables_of}
use Rattle.snmp_msg.specs.declared.pdu.Pdu.{Pdu}
use Rattle.snmp_msg.specs.declared.value.Syntax.TheVariants.{EndOfMibView}
use Rattle.snmp_responder.specs.Instrumentation.{IsException}
use Rattle.snmp_walk.specs.Answer.{IsNoError}
use Rattle.snmp_walk.specs.Column.{Asks, IsAsked}
use Rattle.snmp_walk.specs.BulkColumn.{bulk_request}
use Rattle.snmp_walk.specs.BulkSteps.{ColumnWaits}
use Rattle.snmp_walk.specs.BulkAsk.{asked_of}
use Rattle.snmp_walk.specs.BulkAnswer.{AllSaySame, IsBulkFault, IsRead}
use Rattle.snmp_walk.specs.BulkDialogue.{HasFront, SameLimits}
use Rattle.snmp_walk.specs.Turns.{turns}
use Rattle.snmp_walk.specs.declared.failure.TheConstants.{TOO_BIG, NO_SUCH_NAME}
use Rattle.snmp_walk.specs.declared.column.Progress.TheVariants as progress
use Rattle.snmp_walk.specs.declared.bulk_ask.BulkAsk.{BulkAsk}
use Rattle.snmp_walk.specs.declared.bulk_ask.BulkAsk.TheVariants.{GetNext, GetBulk}
use Rattle.snmp_walk.specs.declared.bulk_column.BulkColumn.{BulkColumn}
use Rattle.snmp_walk.specs.declared.bulk_dialogue.BulkDialogue.{BulkDialogue}
use Rattle.snmp_walk.specs.declared.bulk_dialogue.BulkAnswered.{BulkAnswered}
use Rattle.snmp_walk.specs.declared.bulk_dialogue.BulkAnswered.TheVariants.{Taken, Unfit, Less, Front, TooBig, Ended}
use Rattle.snmp_walk.specs.declared.bulk_dialogue.BulkAnswered.TheVariants.{Failed}

-- how many repetitions the device was asked for
abbrev pub repetitions_of : BulkAsk → ℕ
repetitions_of GetNext = 1
repetitions_of (GetBulk singles repetitions) = repetitions

-- by a GetNextRequest, whose answer has a binding for each name
abbrev pub is_next : BulkAsk → Bool
is_next GetNext = true
is_next (GetBulk singles repetitions) = false

-- the turns of an answer
abbrev pub turns_of : BulkDialogue → List ℕ
turns_of d = turns d.non_repeaters (repetitions_of d.ask) d.columns.items

-- it has no bindings, and the device was asked by a GetBulkRequest
abbrev pub HasNothing : BulkDialogue → Pdu → Type 0
HasNothing d answer = (is_next d.ask ≡ false) × (variables_of answer.list.now ≡ [])

-- tooBig, or nothing at all
abbrev pub IsTooBig : BulkDialogue → Pdu → Type 0
IsTooBig d answer = (answer.second ≡ TOO_BIG) ⊎ (IsNoError answer × HasNothing d answer)

-- the column was asked, and among those that were asked it is the one of this error-index, which counts from 1
pub record IsBulkAskedAt (columns : List BulkColumn) (index : ℤ) (number : ℕ) : Type 0 where
  pub within : number < length columns
  pub asked : HoldsAt (λ (c : BulkColumn). IsAsked c.progress) columns number
  pub place : index ≡ pos (asked_of (take number columns) + 1)

-- the dialogue says the same
pub record DialogueSaysSame (old new : BulkDialogue) : Type 0 where
  pub columns : AllSaySame old.columns.items new.columns.items
  pub limits : SameLimits old new
  pub rounds : new.rounds ≡ old.rounds
  pub ask : new.ask ≡ old.ask

-- the device is asked for half as many repetitions from now on, or else for half as many columns at once
abbrev pub Halves : BulkAsk → BulkDialogue → BulkDialogue → Type 0
Halves GetNext old new = (1 < asked_of old.columns.items) × (new.at_once ≡ asked_of old.columns.items / 2)
    × (new.repetitions ≡ old.repetitions)
Halves (GetBulk singles repetitions) old new = (new.repetitions ≡ repetitions / 2)
    × (new.at_once ≡ old.at_once)

pub record AsksLess (old new : BulkDialogue) : Type 0 where
  pub halves : Halves old.ask old new
  pub waits : AllZip ColumnWaits old.columns.items new.columns.items
  pub first : new.non_repeaters ≡ old.non_repeaters
  pub most : new.max_repetitions ≡ old.max_repetitions
  pub gathered : new.gathered ≡ old.gathered
  pub rounds : new.rounds ≡ old.rounds

-- it was asked by a GetNextRequest for one name
abbrev pub IsLeast : BulkDialogue → Type 0
IsLeast d = (is_next d.ask ≡ true) × (asked_of d.columns.items ≤ 1)

-- the column of this number is at its end, and the others are to be asked again
pub record EndsBulk (olds : List BulkColumn) (number : ℕ) (news : List BulkColumn) : Type 0 where
  pub ended : BulkColumn
  pub same : HoldsAt (λ (c : BulkColumn). bulk_request ended ≡ bulk_request c) olds number
  pub given : HoldsAt (λ (c : BulkColumn). ended.got.items ≡ c.got.items) olds number
  pub is_ended : ended.progress ≡ progress.Ended
  pub waits : AllZip ColumnWaits (set olds number ended) news

-- the device can't answer so much, and is asked for less; or the Response holds the front, if there is one, or has
-- tooBig
abbrev pub IsLessAnswered : BulkDialogue → BulkDialogue → BulkAnswered → Type 0
IsLessAnswered old new Less = AsksLess old new
IsLessAnswered old new Front = IsLeast old × HasFront old.columns.items × (new ≡ old)
IsLessAnswered old new TooBig = IsLeast old × (¬ HasFront old.columns.items) × (new ≡ old)
IsLessAnswered old new _ = ⊥

-- its bindings are read, each for the column whose turn it is; or they don't answer what was asked; or the device can't
-- answer so much; or it says of a column that there is no next variable; or it has another error. Nothing else changes
abbrev pub IsBulkAnswered : (List ℕ → Type 0) → Pdu → BulkDialogue → BulkDialogue → BulkAnswered → Type 0
IsBulkAnswered Seen answer old new Taken = IsNoError answer × (¬ HasNothing old answer)
    × IsRead Seen (is_next old.ask) old.columns.items (turns_of old) (variables_of answer.list.now) new.columns.items
    × SameLimits old new × (new.rounds ≡ old.rounds)
IsBulkAnswered Seen answer old new (Unfit fault) = IsNoError answer × (¬ HasNothing old answer)
    × IsBulkFault Seen (is_next old.ask) old.columns.items (turns_of old) (variables_of answer.list.now) fault
    × DialogueSaysSame old new
IsBulkAnswered Seen answer old new Less = IsTooBig old answer × IsLessAnswered old new Less
IsBulkAnswered Seen answer old new Front = IsTooBig old answer × IsLessAnswered old new Front
IsBulkAnswered Seen answer old new TooBig = IsTooBig old answer × IsLessAnswered old new TooBig
IsBulkAnswered Seen answer old new (Ended number) = (answer.second ≡ NO_SUCH_NAME)
    × IsBulkAskedAt old.columns.items answer.third number × EndsBulk old.columns.items number new.columns.items
    × SameLimits old new × (new.rounds ≡ old.rounds)
IsBulkAnswered Seen answer old new (Failed column) = (¬ IsNoError answer) × (¬ (answer.second ≡ TOO_BIG))
    × MatchOption column ((number : ℕ) → ¬ IsBulkAskedAt old.columns.items answer.third number)
    (IsBulkAskedAt old.columns.items answer.third)
    × (answer.second ≡ NO_SUCH_NAME → column ≡ None) × (new ≡ old)

-- the name that was asked for the column of this number, with endOfMibView
abbrev pub IsBulkEndAt : List BulkColumn → ℕ → Variable → Type 0
IsBulkEndAt columns number v =
    HoldsAt (λ (c : BulkColumn). (name : List ℕ) → Asks c.progress name → IsException EndOfMibView name v) columns
    number

-- the list has all that the answer says: its bindings, or what noSuchName says of a column
abbrev pub BulkTells : BulkDialogue → Pdu → BulkAnswered → List Variable → Type 0
BulkTells old answer (Ended number) told = (v : Variable) × Contains told v × IsBulkEndAt old.columns.items number v
BulkTells old answer _ told = All (Contains told) (variables_of answer.list.now)

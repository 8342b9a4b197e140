-- A whole dialogue with a device for a GetBulkRequest.
--
-- `told`: a list with all that the device's answers say. `IsBulkRun`: the steps lead from one dialogue to the other.
-- `bulk_asks_in`: how often the device was asked. `BulkAsksWell`: the law inwards of a column.
use Rattle.std.specs.Prelude.{◌≡◌, ◌+◌, ℕ, List, [], ◌∷◌}
use Rattle.snmp_msg.specs.Variables.{Variable}
use Rattle.snmp_msg.specs.declared.pdu.Pdu.{Pdu}
use Rattle.snmp_walk.specs.Column.{Asks, MayAsk}
use Rattle.snmp_walk.specs.BulkDialogue.{IsBulkNext}
use Rattle.snmp_walk.specs.BulkAnswered.{BulkTells, IsBulkAnswered}
use Rattle.snmp_walk.specs.declared.operation.ReadOperation.TheVariants.{GetNext}
use Rattle.snmp_walk.specs.declared.bulk_column.BulkColumn.{BulkColumn}
use Rattle.snmp_walk.specs.declared.bulk_dialogue.BulkDialogue.{BulkDialogue}
use Rattle.snmp_walk.specs.declared.bulk_dialogue.BulkAnswered.{BulkAnswered}
use Rattle.snmp_walk.specs.declared.bulk_dialogue.BulkNext.{BulkNext}
use Rattle.snmp_walk.specs.declared.bulk_dialogue.BulkNext.TheVariants as next

-- a step: the dialogue goes on, or the device answers
pub data BulkStep : Type 0 where
  goes : (becomes : BulkNext) → BulkStep
  came : (answer : Pdu) (becomes : BulkAnswered) → BulkStep

abbrev pub IsBulkStep : (List ℕ → Type 0) → List Variable → BulkDialogue → BulkStep → BulkDialogue → Type 0
IsBulkStep Seen told old (goes becomes) new = IsBulkNext Seen old new becomes
IsBulkStep Seen told old (came answer becomes) new = IsBulkAnswered Seen answer old new becomes
    × BulkTells old answer becomes told

abbrev pub IsBulkRun : (List ℕ → Type 0) → List Variable → BulkDialogue → List BulkStep → BulkDialogue → Type 0
IsBulkRun Seen told first [] last = last ≡ first
IsBulkRun Seen told first (step ∷ steps) last = (second : BulkDialogue) × IsBulkStep Seen told first step second
    × IsBulkRun Seen told second steps last

-- how often the device is asked after this
abbrev pub asks_of_bulk : BulkNext → ℕ
asks_of_bulk (next.Asks ask) = 1
asks_of_bulk _ = 0

abbrev pub bulk_asks_in : List BulkStep → ℕ
bulk_asks_in [] = 0
bulk_asks_in (goes becomes ∷ steps) = asks_of_bulk becomes + bulk_asks_in steps
bulk_asks_in (came answer becomes ∷ steps) = bulk_asks_in steps

-- what the device is asked for the column, it may be asked
abbrev pub BulkAsksWell : (List ℕ → Type 0) → List Variable → BulkColumn → Type 0
BulkAsksWell Seen told c = (name : List ℕ) → Asks c.progress name → MayAsk Seen told GetNext c.first name

-- A whole dialogue with a device.
--
-- `told`: a list with all that the device's answers say. `IsRun`: the steps lead from one dialogue to the other.
-- `asks_in`: how often the device was asked. `AsksWell`: the law inwards of a column.
use Rattle.std.specs.Prelude.{◌≡◌, ◌+◌, ℕ, List, [], ◌∷◌}
use Rattle.snmp_msg.specs.Variables.{Variable}
use Rattle.snmp_msg.specs.declared.pdu.Pdu.{Pdu}
use Rattle.snmp_walk.specs.Column.{Asks, MayAsk}
use Rattle.snmp_walk.specs.Dialogue.{AllGoOn, IsNext}
use Rattle.snmp_walk.specs.Answer.{IsAnswered, Tells}
use Rattle.snmp_walk.specs.declared.column.Column.{Column}
use Rattle.snmp_walk.specs.declared.dialogue.Dialogue.{Dialogue}
use Rattle.snmp_walk.specs.declared.dialogue.Answered.{Answered}
use Rattle.snmp_walk.specs.declared.dialogue.Next.{Next}
use Rattle.snmp_walk.specs.declared.dialogue.Next.TheVariants as next

-- a step: the dialogue goes on, or the device answers
pub data Step : Type 0 where
  goes : (becomes : Next) → Step
  came : (answer : Pdu) (becomes : Answered) → Step

abbrev pub IsStep : (List ℕ → Type 0) → List Variable → Dialogue → Step → Dialogue → Type 0
IsStep Seen told old (goes becomes) new = AllGoOn Seen old.columns.items new.columns.items
    × IsNext old new becomes
IsStep Seen told old (came answer becomes) new = IsAnswered Seen answer old new becomes
    × Tells old answer becomes told

abbrev pub IsRun : (List ℕ → Type 0) → List Variable → Dialogue → List Step → Dialogue → Type 0
IsRun Seen told first [] last = last ≡ first
IsRun Seen told first (step ∷ steps) last = (second : Dialogue) × IsStep Seen told first step second
    × IsRun Seen told second steps last

-- how often the device is asked after this
abbrev pub asks_of_next : Next → ℕ
asks_of_next next.Asks = 1
asks_of_next _ = 0

abbrev pub asks_in : List Step → ℕ
asks_in [] = 0
asks_in (goes becomes ∷ steps) = asks_of_next becomes + asks_in steps
asks_in (came answer becomes ∷ steps) = asks_in steps

-- what the device is asked for the column, it may be asked
abbrev pub AsksWell : (List ℕ → Type 0) → List Variable → Column → Type 0
AsksWell Seen told c = (name : List ℕ) → Asks c.progress name → MayAsk Seen told c.operation c.first name

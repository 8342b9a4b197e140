-- Which Sets are remembered when their messages come (RFC 3416, section 4.2.5).
--
-- `AsksSet`: a Set's device is to be asked. `IsNotedFor`: what is remembered before that. `IsNotedAgain`: what is
-- remembered of a message that asks again what waits. `IsUnnoted`: that is forgotten.
use Rattle.std.specs.Prelude.{◌≡◌, ◌-◌, ℕ, List, Option, Some, MatchOption, length, take}
use Rattle.snmp_gate.specs.Sets.{IsNoted, IsTold}
use Rattle.snmp_gate.specs.declared.set_answer.ResponseStatus.{ResponseStatus}
use Rattle.snmp_gate.specs.declared.sets.RememberedSet.{RememberedSet}
use Rattle.snmp_gate.specs.declared.sets.SetNote.{SetNote}
use Rattle.snmp_gate.specs.declared.sets.SetNote.TheVariants.{New, NoRoom, Repeated}
use Rattle.snmp_gate.specs.declared.take_client.Noted.{Noted}
use Rattle.snmp_gate.specs.declared.take_client.Noted.TheVariants as noted
use Rattle.snmp_gate.specs.declared.task.Task.TheVariants.{Set}
use Rattle.snmp_gate.specs.declared.waiting_message.WaitingMessage.{WaitingMessage}
use Rattle.snmp_gate.specs.declared.work.Work.{Work}
use Rattle.snmp_gate.specs.declared.work.Work.TheVariants.{Open, Ends}

abbrev pub AsksSet : Work → Type 0
AsksSet (Open o) = o.task.task ≡ Set
AsksSet (Ends e) = ⊥

-- of a work that asks a Set the datagram's digest is remembered now; or it was before, or there is no room for it
abbrev pub IsNotedFor : ℕ → Option (List ℕ) → Work → List RememberedSet → List RememberedSet → Noted → Type 0
IsNotedFor now digest work old new noted.NoSet = (¬ AsksSet work) × (new ≡ old)
IsNotedFor now digest work old new noted.Now = (d : List ℕ) × (digest ≡ Some d) × IsNoted now d old new New
IsNotedFor now digest work old new noted.Before = (d : List ℕ) × (digest ≡ Some d)
    × ((outcome : Option ResponseStatus) × IsNoted now d old new (Repeated outcome))
IsNotedFor now digest work old new noted.NoRoom = (d : List ℕ) × (digest ≡ Some d) × IsNoted now d old new NoRoom

-- a Set's digest is remembered, and it wasn't before
abbrev pub IsNotedAgain : ℕ → Option (List ℕ) → List RememberedSet → List RememberedSet → SetNote → Type 0
IsNotedAgain now digest old new note =
    MatchOption digest ((note ≡ New) × (new ≡ old)) (λ d. IsNoted now d old new note)

-- the Set that was remembered last is forgotten
abbrev pub IsLastForgotten : List RememberedSet → List RememberedSet → Type 0
IsLastForgotten old new = new ≡ take (length old - 1) old

abbrev pub IsUnnoted : Noted → List RememberedSet → List RememberedSet → Type 0
IsUnnoted noted.Now old new = IsLastForgotten old new
IsUnnoted _ old new = new ≡ old

-- what the Response to a message says is remembered, if it is a Set and that is known
abbrev pub IsToldOf : WaitingMessage → Option ResponseStatus → List RememberedSet → List RememberedSet → Type 0
IsToldOf m said old new = MatchOption m.digest (new ≡ old)
    (λ d. MatchOption said (new ≡ old) (λ says. IsTold d says old new))

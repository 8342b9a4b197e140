-- What a forwarder gets and what goes out of it, call by call.
--
-- `Event`: a call and its answer. `IsRun`: the events of a forwarder, the latest first. `came`, `went_out`: the
-- notifications that came to wait, and the datagrams that went out. `turned`: the Informs that notifications became.
-- `taken_in`, `sent_in`, `turned_in`: those of a history.
-- `IsHistoryOf`: a history of these events that is lawful.
use Rattle.std.specs.Prelude.{◌≡◌, ℕ, List, [], ◌∷◌, ◌++◌}
use Rattle.snmp_forward.specs.History.{AreLawful, Happening, as_inform, sent, taken, unsent}
use Rattle.snmp_forward.specs.Standing.{ForwarderStands, IsAsBefore, SendHappens, Stays, TrapHappens, sealing_at}
use Rattle.snmp_forward.specs.declared.forwarder.Forwarded.{Forwarded}
use Rattle.snmp_forward.specs.declared.forwarder.Forwarded.TheVariants.{AsInform, ToReceiver}
use Rattle.snmp_forward.specs.declared.forwarder.Forwarder.{Forwarder}
use Rattle.snmp_forward.specs.declared.forwarder.TrapTaken.{TrapTaken}
use Rattle.snmp_forward.specs.declared.forwarder.TrapTaken.TheVariants.{Waits}
use Rattle.snmp_forward.specs.declared.inform.Inform.{Inform}

-- moments are milliseconds
pub data Event : Type 0 where
  -- `take_trap` takes a datagram from the device of this number
  trap_comes : (device : ℕ) (datagram : List ℕ) (taken : TrapTaken) → Event
  -- `next` says what goes out
  goes_out : (now : ℕ) (salt : List ℕ) (ask_id : ℕ) (what : Forwarded) → Event
  -- one of these calls finds no memory
  finds_no_memory : Event

-- what the calls promise of a forwarder and what it becomes
abbrev pub TakesTrap : Forwarder → ℕ → List ℕ → TrapTaken → Forwarder → Type 0
TakesTrap old device datagram becomes new = Stays old new
    × ((before : List Happening) → ForwarderStands before old → TrapHappens old before device datagram becomes new)

abbrev pub SendsNext : Forwarder → ℕ → List ℕ → ℕ → Forwarded → Forwarder → Type 0
SendsNext old now salt ask_id what new = Stays old new
    × ((before : List Happening) → ForwarderStands before old
    → SendHappens old before (sealing_at now salt ask_id) what new)

-- the events lead from one forwarder to the other
abbrev pub IsRun : Forwarder → List Event → Forwarder → Type 0
IsRun first [] last = last ≡ first
IsRun first (trap_comes device datagram becomes ∷ before) last =
    (middle : Forwarder) × IsRun first before middle × TakesTrap middle device datagram becomes last
IsRun first (goes_out now salt ask_id what ∷ before) last =
    (middle : Forwarder) × IsRun first before middle × SendsNext middle now salt ask_id what last
IsRun first (finds_no_memory ∷ before) last =
    (middle : Forwarder) × IsRun first before middle × IsAsBefore middle last

-- ---- what came, and what went out

-- to wait: the device's number, and its datagram
abbrev pub waits_by : ℕ → List ℕ → TrapTaken → List (ℕ × List ℕ)
waits_by device datagram (Waits number) = (device, datagram) ∷ []
waits_by device datagram _ = []

abbrev pub came : List Event → List (ℕ × List ℕ)
came [] = []
came (trap_comes device datagram becomes ∷ before) = waits_by device datagram becomes ++ came before
came (goes_out now salt ask_id what ∷ before) = came before
came (finds_no_memory ∷ before) = came before

-- to a receiver, by its number
abbrev pub sent_by : Forwarded → List (ℕ × List ℕ)
sent_by (ToReceiver number receiver datagram) = (receiver, datagram.items) ∷ []
sent_by _ = []

abbrev pub went_out : List Event → List (ℕ × List ℕ)
went_out [] = []
went_out (trap_comes device datagram becomes ∷ before) = went_out before
went_out (goes_out now salt ask_id what ∷ before) = sent_by what ++ went_out before
went_out (finds_no_memory ∷ before) = went_out before

-- the Informs that notifications became
abbrev pub turned_by : Forwarded → List Inform
turned_by (AsInform number inform) = inform ∷ []
turned_by _ = []

abbrev pub turned : List Event → List Inform
turned [] = []
turned (trap_comes device datagram becomes ∷ before) = turned before
turned (goes_out now salt ask_id what ∷ before) = turned_by what ++ turned before
turned (finds_no_memory ∷ before) = turned before

-- the same, of a history
abbrev pub taken_in : List Happening → List (ℕ × List ℕ)
taken_in [] = []
taken_in (taken number device datagram to ∷ before) = (device, datagram) ∷ taken_in before
taken_in (sent number receiver by datagram ∷ before) = taken_in before
taken_in (unsent number receiver by why ∷ before) = taken_in before
taken_in (as_inform number inform ∷ before) = taken_in before

abbrev pub sent_in : List Happening → List (ℕ × List ℕ)
sent_in [] = []
sent_in (taken number device datagram to ∷ before) = sent_in before
sent_in (sent number receiver by datagram ∷ before) = (receiver, datagram) ∷ sent_in before
sent_in (unsent number receiver by why ∷ before) = sent_in before
sent_in (as_inform number inform ∷ before) = sent_in before

abbrev pub turned_in : List Happening → List Inform
turned_in [] = []
turned_in (taken number device datagram to ∷ before) = turned_in before
turned_in (sent number receiver by datagram ∷ before) = turned_in before
turned_in (unsent number receiver by why ∷ before) = turned_in before
turned_in (as_inform number inform ∷ before) = inform ∷ turned_in before

-- what came and went out is what was taken and sent, as Traps and as Informs, and all of it is lawful
pub record IsHistoryOf (f : Forwarder) (events : List Event) (history : List Happening) : Type 0 where
  pub lawful : AreLawful f.agent f.devices.list.items f.receivers.list.items history
  pub inwards : came events ≡ taken_in history
  pub outwards : went_out events ≡ sent_in history
  pub informs : turned events ≡ turned_in history

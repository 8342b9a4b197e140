-- Calls on the handle of a receiver of notifications, one after another, and what the listener in it takes by them.
--
-- `Call`: a call, its answer, and the handle that it leaves. `HaveRun`: calls on a handle, the latest first, where
-- moments don't go back. `held_after`: the handle that they leave. `AreEventsOf`: the events of its listener, and that
-- each call answers and keeps what its event is.
use Rattle.std.specs.Prelude.{◌≡◌, ◌≤◌, ◌⊎◌, ⊤, ℕ, List, [], ◌∷◌, Result, Ok, Err}
use Rattle.snmp_message.specs.declared.refusal.Refusal.TheVariants.{OutOfMemory}
use Rattle.snmp_listener.specs.Runs.{Event, finds_no_memory, takes}
use Rattle.snmp_listener.specs.declared.listener.ListenerTaken.{ListenerTaken}
use Rattle.snmp_handles.specs.declared.fault.CallFault.{CallFault}
use Rattle.snmp_handles.specs.declared.fault.CallFault.TheVariants.{Refused}
use Rattle.listener_handles.specs.Listeners.{Holds, ListenerHeld, SavesListener, TakesListener, event_of}
use Rattle.listener_handles.specs.declared.event.ListenerEvent.{ListenerEvent}

-- moments are seconds
pub data Call : Type 0 where
  took : (now : ℕ) (from w salt : List ℕ) (told : Result ListenerEvent CallFault) (left : ListenerHeld) → Call
  saved : (told : Result ⊤ CallFault) (left : ListenerHeld) → Call

-- the moment of the latest datagram, or before them this one
abbrev pub latest_call : ℕ → List Call → ℕ
latest_call since [] = since
latest_call since (took now from w salt told left ∷ before) = now
latest_call since (saved told left ∷ before) = latest_call since before

abbrev pub held_after : ListenerHeld → List Call → ListenerHeld
held_after first [] = first
held_after first (took now from w salt told left ∷ before) = left
held_after first (saved told left ∷ before) = left

abbrev pub HaveRun : ℕ → ListenerHeld → List Call → Type 0
HaveRun since first [] = ⊤
HaveRun since first (took now from w salt told left ∷ before) = HaveRun since first before
    × (latest_call since before ≤ now) × TakesListener (held_after first before) now from w salt told left
HaveRun since first (saved told left ∷ before) = HaveRun since first before
    × SavesListener (held_after first before) told left

-- the listener took this by the call, and the call answers and keeps that; or it found no memory, and says so
abbrev pub IsEventOf : ℕ → List ℕ → List ℕ → List ℕ → Result ListenerEvent CallFault → ListenerHeld → Event → Type 0
IsEventOf now from w salt told left event = ((what : ListenerTaken)
    × (event ≡ takes now from w salt what left.listener.manager.clocks) × (told ≡ Ok (event_of what)) × Holds what left)
    ⊎ ((event ≡ finds_no_memory) × (told ≡ Err (Refused OutOfMemory)))

abbrev pub AreEventsOf : List Call → List Event → Type 0
AreEventsOf [] [] = ⊤
AreEventsOf [] (event ∷ events) = ⊥
AreEventsOf (took now from w salt told left ∷ calls) [] = ⊥
AreEventsOf (took now from w salt told left ∷ calls) (event ∷ events) = IsEventOf now from w salt told left event
    × AreEventsOf calls events
AreEventsOf (saved told left ∷ calls) events = AreEventsOf calls events

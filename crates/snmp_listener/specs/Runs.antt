-- What a listener takes, call by call, and what the laws say of it.
--
-- `Event`: a call of `take` and its answer. `IsRun`: the events of a listener, the latest first. `told_in`: what was
-- told in them. `WasTold`: one of them tells a datagram. `told_again`: what was told, and can be accepted yet.
-- `IsTold`: a call tells the notification. `IsToBeTold`: it is to be reported. `acknowledgement_of`: the
-- acknowledgement that goes out. `times_dropped`: how many datagrams were dropped for a reason.
use Rattle.std.specs.Prelude.{◌≡◌, ◌≤◌, ◌<◌, ◌⊎◌, ◌+◌, ℕ, cond, nat_eq, List, [], ◌∷◌, ◌++◌, length, Option, Some, None}
use Rattle.std.specs.Prelude.{Err}
use Rattle.std.specs.Global.{Vec}
use Rattle.sha2.specs.Sha256.{sha256}
use Rattle.engine_clock.specs.Marks.{Marks}
use Rattle.snmp_message.specs.declared.refusal.Refusal.{Refusal}
use Rattle.snmp_incoming.specs.Outcome.{Given}
use Rattle.snmp_listener.specs.Acknowledging.{Acknowledges}
use Rattle.snmp_listener.specs.Counting.{place_of}
use Rattle.snmp_listener.specs.Listening.{IsFit, Kind, ListenerState, ListenerTakes, inform, reason_of, trap}
use Rattle.snmp_listener.specs.Listening.{uncounted}
use Rattle.snmp_listener.specs.Told.{HasDigest, lasting, sender_of, told_now}
use Rattle.snmp_listener.specs.declared.dropped.Dropped.{Dropped}
use Rattle.snmp_listener.specs.declared.dropped.Dropped.TheVariants as drops
use Rattle.snmp_listener.specs.declared.listener.ListenerTaken.{ListenerTaken}
use Rattle.snmp_listener.specs.declared.listener.ListenerTaken.TheVariants.{Trap, Inform, Copy, Dropped as IsDropped}
use Rattle.snmp_listener.specs.declared.told.ToldNotification.{ToldNotification}

-- moments are seconds
pub data Event : Type 0 where
  -- a datagram is taken; these are the clocks that the manager holds then
  takes : (now : ℕ) (from w salt : List ℕ) (what : ListenerTaken) (clocks : Marks) → Event
  -- no memory is found, and all is as before
  finds_no_memory : Event

-- the moment of the latest of the events, or before them this one
abbrev pub latest : ℕ → List Event → ℕ
latest since [] = since
latest since (takes now from w salt what clocks ∷ before) = now
latest since (finds_no_memory ∷ before) = latest since before

-- the events lead from one listener to the other, and their moments don't go back
abbrev pub IsRun : ℕ → ListenerState → List Event → ListenerState → Type 0
IsRun since first [] last = last ≡ first
IsRun since first (takes now from w salt what clocks ∷ before) last = (middle : ListenerState)
    × IsRun since first before middle × (latest since before ≤ now)
    × ListenerTakes middle now from w salt what last × (clocks ≡ last.manager.clocks)
IsRun since first (finds_no_memory ∷ before) last = IsRun since first before last

-- ---- what was told

-- what a call tells, as it is remembered
abbrev pub told_by : ℕ → List ℕ → ListenerTaken → Marks → List ToldNotification
told_by now w (Trap g) clocks = told_now now (sha256 w) (sender_of g clocks) ∷ []
told_by now w (Inform g text) clocks = told_now now (sha256 w) None ∷ []
told_by now w (Copy text) clocks = []
told_by now w (IsDropped why answer) clocks = []

abbrev pub told_in : List Event → List ToldNotification
told_in [] = []
told_in (takes now from w salt what clocks ∷ before) = told_in before ++ told_by now w what clocks
told_in (finds_no_memory ∷ before) = told_in before

-- one of the events tells this datagram
abbrev pub WasTold : List Event → List ℕ → Type 0
WasTold [] w = ⊥
WasTold (takes now from v salt what clocks ∷ before) w = ((v ≡ w) × (reason_of what ≡ None)) ⊎ WasTold before w
WasTold (finds_no_memory ∷ before) w = WasTold before w

-- what was told in the events, and can be accepted yet at this moment, by the clocks that are held then
abbrev pub told_again : List Event → ℕ → ListenerState → List ToldNotification
told_again events now l = lasting now l.manager.clocks (told_in events)

-- the call tells this notification
abbrev pub IsTold : ListenerTaken → Kind → Given → Type 0
IsTold (Trap told) trap g = told ≡ g
IsTold (Inform told text) inform g = told ≡ g
IsTold _ kind g = ⊥

-- ---- what is to be told

-- The datagram is a notification that is accepted and fit to be told; it wasn't told before, or can't be accepted any
-- more; and there is room to remember it.
pub record IsToBeTold (events : List Event) (old : ListenerState) (now : ℕ) (from w : List ℕ) (kind : Kind) (g : Given)
    (new : ListenerState) : Type 0 where
  pub fit : IsFit kind old now from w g (uncounted old new)
  pub no_copy : ¬ HasDigest (sha256 w) (told_again events now new)
  pub room : length (told_again events now new) < old.rules.most

-- it isn't reported since it is an Inform whose acknowledgement is refused
abbrev pub IsUnanswerable : ListenerState → ℕ → List ℕ → Kind → Given → ListenerTaken → Type 0
IsUnanswerable old now salt kind g what = (refusal : Refusal) × (kind ≡ inform)
    × (reason_of what ≡ Some (drops.Refused refusal)) × Acknowledges old.agent now g salt (Err refusal)

-- ---- what is acknowledged

-- the acknowledgement that goes out; the Response tooBig is none
abbrev pub acknowledgement_of : ListenerTaken → Option (Vec ℕ)
acknowledgement_of (Trap g) = None
acknowledgement_of (Inform g text) = Some text
acknowledgement_of (Copy text) = text
acknowledgement_of (IsDropped why answer) = None

-- ---- what is counted

-- 1 if this is a reason with the same counter
abbrev pub counts_for : Dropped → Option Dropped → ℕ
counts_for why None = 0
counts_for why (Some other) = cond (nat_eq (place_of why) (place_of other)) 1 0

-- how many of the events drop a datagram for this reason
abbrev pub times_dropped : Dropped → List Event → ℕ
times_dropped why [] = 0
times_dropped why (takes now from w salt what clocks ∷ before) =
    times_dropped why before + counts_for why (reason_of what)
times_dropped why (finds_no_memory ∷ before) = times_dropped why before

-- Managers that share saved marks: what each may know, and what a step does.
--
-- `Knowing` and `knows_after`. For each manager and each file a set of marks for each engine. At first a
-- manager knows the marks that it holds, and a file those that it lists. A take adds the pair of an
-- authentic datagram with the moment, a save copies a manager's set to a new file, an absorb unites it with
-- a file's, a restart replaces it by a file's. Sets know no order. The code reads, prints and joins maps.
--
-- `HasGreatest`, `HasGreatestPairs`. Each manager and each file holds the greatest mark, or pair, of what
-- it knows.
--
-- `Steps`. What one event changes. `NamesMissing`: it names a manager or a file that isn't there.
-- `counted`: the events before the one that was refused, or all. `StepsAll`: events happened one after
-- another. `StopsAt`: the next event is there, and `RefusesEvent` says why it is refused. `TakesNoMemory`:
-- it is a take that wants none.
--
-- `SameKnowledge`, `SamePairsKnown`, `HasOrigin`, `IsNeverRestarted`. The words of the laws.
use Rattle.std.specs.Prelude.{◌↔◌, Contains, ◌≡◌, ◌≢◌, ◌≤◌, ◌⊎◌, ℕ, suc, List, [], ◌∷◌, ◌++◌, length, take, slice_get}
use Rattle.std.specs.Prelude.{slice_set, Some, Result, Ok, Err}
use Rattle.engine_clock.specs.Pairs.{BootsAndTime, IsGreatestOf}
use Rattle.engine_clock.specs.Marks.{SeenPair, Marks, mark_at, pair_at, IsGreatestMarkOf, IsMarkJoinOf}
use Rattle.engine_clock.specs.Saved.{AreMarks, listing}
use Rattle.usm_users.specs.User.{User}
use Rattle.usm_core.specs.Authentic.{Authentic}
use Rattle.usm_core.specs.Verified.{manager}
use Rattle.snmp_incoming.specs.Answers.{IsPlain}
use Rattle.snmp_manager.specs.Views.{Held}
use Rattle.snmp_manager.specs.Learning.{LearnsFrom}
use Rattle.snmp_manager.specs.Takes.{HoldsAuthentic}
use Rattle.snmp_manager.specs.declared.event.Event.{Event}
use Rattle.snmp_manager.specs.declared.event.Event.TheVariants.{Take, Save, Absorb, Restart}
use Rattle.snmp_manager.specs.declared.event.WorldFault.{WorldFault}
use Rattle.snmp_manager.specs.declared.event.WorldFault.TheVariants.{NoSuch, OutOfMemory}
use Rattle.snmp_manager.specs.declared.event.WorldStopped.{WorldStopped}
use Rattle.snmp_manager.specs.State.{WorldState}

-- for each engine a set of marks
abbrev pub Knowledge : Type 1
Knowledge = List ℕ → SeenPair → Type 0

-- the knowledge of each manager and of each file, and how many files there are
pub record Knowing : Type 1 where
  pub managers : ℕ → Knowledge
  pub files : ℕ → Knowledge
  pub saved : ℕ

-- Each manager begins with its marks, and each file with those that it lists.
abbrev pub at_first : WorldState → Knowing
at_first world = record {
  managers = λ i engine mark. (held : Held) × (slice_get world.managers i ≡ Some held)
      × (mark_at held.clocks engine ≡ Some mark);
  files = λ f engine mark. (marks : Marks) × AreMarks marks × (slice_get world.files f ≡ Some (listing marks))
      × (mark_at marks engine ≡ Some mark);
  saved = length world.files;
}

-- the datagram is authentic as one of this engine with the pair of this mark, whose moment is now
abbrev pub AuthenticAt : List User → ℕ → List ℕ → List ℕ → SeenPair → Type 0
AuthenticAt users now w engine mark = Authentic users w engine mark.pair × (mark.seen ≡ now)

-- A take adds what is authentic, a save copies, an absorb unites, and a restart replaces.
abbrev pub knows_after : List User → Event → Knowing → Knowing
knows_after users (Take i now w) k = record {
  managers = λ j engine mark. k.managers j engine mark ⊎ ((j ≡ i) × AuthenticAt users now w.items engine mark);
  files = k.files;
  saved = k.saved;
}
knows_after users (Save i) k = record {
  managers = k.managers;
  files = λ f engine mark. ((f ≢ k.saved) × k.files f engine mark) ⊎ ((f ≡ k.saved) × k.managers i engine mark);
  saved = suc k.saved;
}
knows_after users (Absorb i f now) k = record {
  managers = λ j engine mark. k.managers j engine mark ⊎ ((j ≡ i) × k.files f engine mark);
  files = k.files;
  saved = k.saved;
}
knows_after users (Restart i f now) k = record {
  managers = λ j engine mark. ((j ≢ i) × k.managers j engine mark) ⊎ ((j ≡ i) × k.files f engine mark);
  files = k.files;
  saved = k.saved;
}

abbrev pub knows_after_all : List User → List Event → Knowing → Knowing
knows_after_all users [] k = k
knows_after_all users (event ∷ events) k = knows_after_all users events (knows_after users event k)

-- Each manager and each file has the greatest of what is known there.
pub record HasGreatest (k : Knowing) (world : WorldState) : Type 0 where
  pub managers : (i : ℕ) (held : Held) → slice_get world.managers i ≡ Some held → (engine : List ℕ)
      → IsGreatestMarkOf (k.managers i engine) (mark_at held.clocks engine)
  pub files : (f : ℕ) (marks : Marks) → AreMarks marks → slice_get world.files f ≡ Some (listing marks)
      → (engine : List ℕ) → IsGreatestMarkOf (k.files f engine) (mark_at marks engine)
  pub saved : k.saved ≡ length world.files

abbrev pub HaveUsers : List User → WorldState → Type 0
HaveUsers users world = (i : ℕ) (held : Held) → slice_get world.managers i ≡ Some held → held.users ≡ users

-- One manager changes as R says and keeps its users, and the others stay.
pub record Changes (i : ℕ) (R : Held → Held → Type 0) (old new : List Held) : Type 0 where
  pub before : Held
  pub after : Held
  pub was : slice_get old i ≡ Some before
  pub changes : R before after
  pub users : after.users ≡ before.users
  pub is : new ≡ slice_set old i after

-- the file lists these marks
pub record Reads (files : List (List ℕ)) (f : ℕ) (marks : Marks) : Type 0 where
  pub fits : AreMarks marks
  pub there : slice_get files f ≡ Some (listing marks)

-- the marks of one manager become a file
pub record Writes (managers : List Held) (i : ℕ) (old new : List (List ℕ)) : Type 0 where
  pub held : Held
  pub was : slice_get managers i ≡ Some held
  pub fits : AreMarks held.clocks
  pub is : new ≡ old ++ listing held.clocks ∷ []

abbrev pub Steps : WorldState → Event → WorldState → Type 0
Steps old (Take i now w) new =
    Changes i (λ before after. LearnsFrom before.users now w.items before.clocks after.clocks) old.managers
    new.managers × (new.files ≡ old.files)
Steps old (Save i) new = (new.managers ≡ old.managers) × Writes old.managers i old.files new.files
Steps old (Absorb i f now) new =
    ((marks : Marks) × Reads old.files f marks
    × Changes i (λ before after. IsMarkJoinOf before.clocks marks after.clocks) old.managers new.managers)
    × (new.files ≡ old.files)
Steps old (Restart i f now) new =
    ((marks : Marks) × Reads old.files f marks
    × Changes i (λ before after. after.clocks ≡ marks) old.managers new.managers) × (new.files ≡ old.files)

-- the event names a manager or a file that doesn't exist
abbrev pub NamesMissing : Event → WorldState → Type 0
NamesMissing (Take i now w) world = length world.managers ≤ i
NamesMissing (Save i) world = length world.managers ≤ i
NamesMissing (Absorb i f now) world = (length world.managers ≤ i) ⊎ (length world.files ≤ f)
NamesMissing (Restart i f now) world = (length world.managers ≤ i) ⊎ (length world.files ≤ f)

-- A take for which no memory is asked for: by a manager that is there, of a datagram that isn't sealed where
-- it passes its digest, and whose engine is held where it is authentic.
abbrev pub TakesNoMemory : Event → WorldState → Type 0
TakesNoMemory (Take i now w) world = (held : Held) × (slice_get world.managers i ≡ Some held)
    × IsPlain manager held.users w.items × HoldsAuthentic held w.items
TakesNoMemory (Save i) world = ⊥
TakesNoMemory (Absorb i f now) world = ⊥
TakesNoMemory (Restart i f now) world = ⊥

-- why the world refuses the event
abbrev pub RefusesEvent : WorldFault → Event → WorldState → Type 0
RefusesEvent NoSuch event world = NamesMissing event world
RefusesEvent OutOfMemory event world = (NamesMissing event world → ⊥) × (TakesNoMemory event world → ⊥)

-- ---- runs

-- the events happened one after another
abbrev pub StepsAll : WorldState → List Event → WorldState → Type 0
StepsAll old [] new = new ≡ old
StepsAll old (event ∷ events) new = (mid : WorldState) × Steps old event mid × StepsAll mid events new

-- The event after those that counted is refused by the world that they left, for this reason.
pub record StopsAt (events : List Event) (world : WorldState) (stopped : WorldStopped) : Type 0 where
  pub event : Event
  pub next : slice_get events stopped.done ≡ Some event
  pub why : RefusesEvent stopped.why event world

-- the events that counted: all, or those before the refused one
abbrev pub counted : Result (Unit {0}) WorldStopped → List Event → List Event
counted (Ok u) events = events
counted (Err stopped) events = take stopped.done events

-- ---- pairs

-- the pairs of the marks of a set
abbrev pub PairsOf : (SeenPair → Type 0) → BootsAndTime → Type 0
PairsOf S pair = (mark : SeenPair) × S mark × (mark.pair ≡ pair)

-- each manager has the greatest of the pairs that it knows
abbrev pub HasGreatestPairs : Knowing → WorldState → Type 0
HasGreatestPairs k world = (i : ℕ) (held : Held) → slice_get world.managers i ≡ Some held → (engine : List ℕ)
    → IsGreatestOf (PairsOf (k.managers i engine)) (pair_at held.clocks engine)

-- ---- for the laws

-- the same marks of each engine
abbrev pub SameKnowledge : Knowledge → Knowledge → Type 0
SameKnowledge a b = (engine : List ℕ) (mark : SeenPair) → a engine mark ↔ b engine mark

-- the same pairs of each engine, seen at whatever moments
abbrev pub SamePairsKnown : Knowledge → Knowledge → Type 0
SamePairsKnown a b = (engine : List ℕ) (pair : BootsAndTime) → PairsOf (a engine) pair ↔ PairsOf (b engine) pair

-- the datagrams that managers took, with their moments
abbrev pub taken_in : List Event → List (ℕ × List ℕ)
taken_in [] = []
taken_in (Take i now w ∷ events) = (now, w.items) ∷ taken_in events
taken_in (Save i ∷ events) = taken_in events
taken_in (Absorb i f now ∷ events) = taken_in events
taken_in (Restart i f now ∷ events) = taken_in events

-- some manager authenticated the mark's pair at its moment, or some manager or file began with it
abbrev pub HasOrigin : List User → List Event → WorldState → List ℕ → SeenPair → Type 0
HasOrigin users events begin engine mark =
    ((t : ℕ × List ℕ) × Contains (taken_in events) t × AuthenticAt users t.0 t.1 engine mark)
    ⊎ (((i : ℕ) × (at_first begin).managers i engine mark) ⊎ ((f : ℕ) × (at_first begin).files f engine mark))

-- manager i isn't restarted
abbrev pub IsNeverRestarted : ℕ → List Event → Type 0
IsNeverRestarted i [] = Unit {0}
IsNeverRestarted i (Take j now w ∷ events) = IsNeverRestarted i events
IsNeverRestarted i (Save j ∷ events) = IsNeverRestarted i events
IsNeverRestarted i (Absorb j f now ∷ events) = IsNeverRestarted i events
IsNeverRestarted i (Restart j f now ∷ events) = (i ≢ j) × IsNeverRestarted i events

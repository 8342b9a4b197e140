-- What `snmpsec replay` does with a configuration, a clocks file and a log.
--
-- `ReplayAnswers printing handed streams end`, `ReplayStopsBy`. What `replay` has read and written where
-- it ends, and where it stops with a fault. `Begins`: the manager has the users that the configuration
-- loads to (`Loads`) and the marks that the clocks file saves. `Refuses`: the line for the configuration,
-- or, where that loads, for the clocks file.
use Rattle.std.specs.Prelude.{◌≡◌, ◌⊎◌, ⊤, ℕ, List, ◌++◌, codes, IfSome}
use Rattle.std.specs.Io.KnownBytes.{Appends}
use Rattle.engine_clock.specs.Saved.{Saves, IsFirstFault}
use Rattle.snmp_manager.specs.Views.{Held}
use Rattle.snmpsec_replay.specs.declared.printing.Printing.{Printing}
use Rattle.snmpsec_replay.specs.Replay.{ReplayText, Streams, StopsBy}
use Rattle.snmpsec_io.specs.Transfer.{WritesFront}
use Rattle.snmpsec_replay.specs.declared.fault.ReplayFault.{ReplayFault}
use Rattle.snmpsec_replay.specs.declared.fault.ReplayFault.TheVariants as faults
use Rattle.usm_users.specs.User.{User}
use Rattle.vacm_core.specs.Tables.{Tables}
use Rattle.snmpsec_config.specs.Refusals.{Loads, RefusesText, refusal_line}
use Rattle.snmpsec_config.specs.declared.fault.ConfigFault.{ConfigFault}
use Rattle.snmpsec_output.specs.Merge.{refused_line}
use Rattle.snmpsec_commands.specs.declared.replay.Beginning.{Beginning}
use Rattle.snmpsec_commands.specs.declared.replay.ReplayEnd.{ReplayEnd}
use Rattle.snmpsec_commands.specs.declared.replay.ReplayEnd.TheVariants as ends
use Rattle.snmpsec_commands.specs.declared.replay.NoManager.{NoManager}
use Rattle.snmpsec_commands.specs.declared.replay.NoManager.TheVariants.{Refused, OutOfMemory}

-- the texts that a replay is handed beside the log: a configuration, and a clocks file with its name, read at a moment
pub record Handed : Type 0 where
  pub moment : ℕ
  pub config : List ℕ
  pub name : List ℕ
  pub clocks : List ℕ

abbrev pub handed_of : Beginning → Handed
handed_of b = record { moment = b.moment; config = b.config.now; name = b.clocks_name.now; clocks = b.clocks.now }

-- The manager has the users of the configuration, and the marks that the clocks file saves.
pub record Begins (h : Handed) (begin : Held) : Type 0 where
  pub tables : Tables
  pub users : Loads h.config begin.users tables
  pub marks : Saves h.moment h.clocks begin.clocks

-- the line for a configuration that is refused
pub record RefusesConfig (h : Handed) (line : List ℕ) : Type 0 where
  pub fault : ConfigFault
  pub told : RefusesText h.config fault
  pub text : line ≡ refusal_line fault ++ codes "\n"

-- the line for a clocks file that is no saved text, where the configuration is read
pub record RefusesClocks (h : Handed) (line : List ℕ) : Type 0 where
  pub users : List User
  pub tables : Tables
  pub loads : Loads h.config users tables
  pub number : ℕ
  pub fault : IsFirstFault h.moment h.clocks number
  pub text : line ≡ refused_line h.name number

abbrev pub Refuses : Handed → List ℕ → Type 0
Refuses h line = RefusesConfig h line ⊎ RefusesClocks h line

-- why no manager begins
abbrev pub TellsNoManager : Handed → NoManager → Type 0
TellsNoManager h (Refused output) = Refuses h output.out.items
TellsNoManager h OutOfMemory = ⊤

-- The log is replayed whole by the manager that the two texts give, and what is written is its text.
pub record Replayed (p : Printing) (h : Handed) (s : Streams) : Type 0 where
  pub begin : Held
  pub begins : Begins h begin
  pub text : IfSome s.unread (λ log. (text : List ℕ) × ReplayText p begin log text × Appends s.held s.written text)

-- One of the two texts is refused by a line, and nothing is read of the log.
pub record Refusing (h : Handed) (s : Streams) : Type 0 where
  pub line : List ℕ
  pub refuses : Refuses h line
  pub unread : s.left ≡ s.unread
  pub wrote : Appends s.held s.written line

-- what is written where it ends, by which lines are wanted
abbrev pub ReplayAnswers : Printing → Handed → Streams → ReplayEnd → Type 0
ReplayAnswers p h s ends.Replayed = Replayed p h s
ReplayAnswers p h s (ends.Refused why) = Refusing h s

-- what is written before the log is read: a front of the line of a refusal, or nothing where memory is refused
abbrev pub RefusalStopsBy : Handed → Streams → ReplayFault → Type 0
RefusalStopsBy h s (faults.LogLine n why) = ⊥
RefusalStopsBy h s faults.CannotRead = ⊥
RefusalStopsBy h s faults.CannotWrite = (line : List ℕ) × Refuses h line × WritesFront s.held s.written line
RefusalStopsBy h s faults.OutOfMemory = s.written ≡ s.held

-- What is done where it stops with a fault: the replay of the manager that the two texts give stops, or
-- nothing is read of the log.
abbrev pub ReplayStopsBy : Printing → Handed → Streams → ReplayFault → Type 0
ReplayStopsBy p h s fault = ((begin : Held) × Begins h begin × StopsBy p begin s fault)
    ⊎ ((s.left ≡ s.unread) × RefusalStopsBy h s fault)

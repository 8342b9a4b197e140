-- What `snmpsec show --from` and `snmpsec open --from` print: of each datagram of a file what `show` and
-- `open` do, behind a line of its own.
--
-- `TellsPrintout printout asked streams status`, `StopsPrintout`. The same for `show --from` and `open
-- --from`: P is `PrintsShown`, `PrintsAnyVersion` (`show --community`) or `PrintsOpened`, a line `datagram N
-- MOMENT` and after it what the command prints of the datagram, with names if they are asked for. The refusal of
-- a configuration stands alone.
use Rattle.std.specs.Prelude.{◌≡◌, ◌⊎◌, ⊤, ℕ, ◌==◌, not, Bool, List, ◌++◌, codes, decimal, Option}
use Rattle.std.specs.Io.KnownBytes.{Appends, Keeps}
use Rattle.snmpsec_io.specs.Transfer.{WritesFront}
use Rattle.usm_users.specs.User.{User}
use Rattle.vacm_core.specs.Tables.{Tables}
use Rattle.capture_files.specs.Datagrams.{PrintsLine, Streams}
use Rattle.snmpsec_config.specs.declared.fault.ConfigFault.{ConfigFault}
use Rattle.snmpsec_config.specs.Refusals.{Loads, RefusesText, refusal_line}
use Rattle.snmpsec_output.specs.Open.{OpensBy}
use Rattle.snmpsec_output.specs.Questions.{Printed}
use Rattle.snmpsec_output.specs.Show.{ShowsDatagram}
use Rattle.snmpsec_output.specs.Community.{ShowsAnyVersion}
use Rattle.capture_datagrams.specs.Forms.{StopsFile, TellsFile}
use Rattle.capture_datagrams.specs.declared.forms.ReadOptions.{ReadOptions}
use Rattle.capture_datagrams.specs.declared.datagrams.Unread.{Unread}
use Rattle.capture_datagrams.specs.declared.datagrams.Unread.TheVariants as unread
use Rattle.capture_datagrams.specs.declared.printout.Printout.{Printout}
use Rattle.capture_datagrams.specs.declared.printout.Printout.TheVariants as printout
use Rattle.capture_datagrams.specs.declared.printout.NoUsers.{NoUsers}
use Rattle.capture_datagrams.specs.declared.printout.NoUsers.TheVariants as none

-- the line of datagram n, from 1, and its moment
abbrev pub head_line : ℕ → ℕ → List ℕ
head_line n moment = codes "datagram " ++ (decimal n ++ (codes " " ++ (decimal moment ++ codes "\n")))

-- what a command prints, behind the line of the datagram; a status other than 0 is a refusal
pub record StandsBehind (n moment : ℕ) (printed : Printed) (text : List ℕ)
    (refused : Bool) : Type 0 where
  pub status : refused ≡ not (printed.status == 0)
  pub is : text ≡ head_line n moment ++ printed.out

-- as `show` prints it
abbrev pub PrintsShown : Bool → ℕ → ℕ → List ℕ → List ℕ → Bool → Type 0
PrintsShown names n moment datagram text refused = (printed : Printed) × ShowsDatagram names datagram printed
    × StandsBehind n moment printed text refused

-- as `show --community` prints it
abbrev pub PrintsAnyVersion : Bool → ℕ → ℕ → List ℕ → List ℕ → Bool → Type 0
PrintsAnyVersion names n moment datagram text refused = (printed : Printed) × ShowsAnyVersion names datagram printed
    × StandsBehind n moment printed text refused

-- as `open` prints it, by these users
abbrev pub PrintsOpened : Bool → List User → ℕ → ℕ → List ℕ → List ℕ → Bool → Type 0
PrintsOpened names users n moment datagram text refused = (printed : Printed) × OpensBy names users datagram printed
    × StandsBehind n moment printed text refused

-- ---- a file of datagrams, opened by the users of a configuration

-- the users of the configuration, with the keys of their passwords
abbrev pub LoadsUsers : List ℕ → List User → Type 0
LoadsUsers config users = (tables : Tables) × Loads config users tables

-- the line of a refused configuration, and beside it what is wrong
pub record TellsConfig (fault : ConfigFault) (line note : List ℕ) : Type 0 where
  pub text : line ≡ refusal_line fault ++ codes "\n"
  pub why : List ℕ
  pub beside : note ≡ codes "snmpsec: " ++ (why ++ codes "\n")

-- the configuration is refused, by these lines
pub record IsRefusalOf (config line note : List ℕ) : Type 0 where
  pub fault : ConfigFault
  pub told : RefusesText config fault
  pub lines : TellsConfig fault line note

-- why no users are there
abbrev pub TellsNoUsers : List ℕ → NoUsers → Type 0
TellsNoUsers config (none.Refused told) = IsRefusalOf config told.text.items told.note.items × (told.status ≡ 1)
TellsNoUsers config none.OutOfMemory = ⊤

-- The configuration is refused. Of its line that is done which `Writes` says, and of what is wrong beside it what
-- `TellsNote` says. Nothing is read of the file.
pub record RefusesUsers (config : List ℕ) (s : Streams)
    (Writes TellsNote : Option (List ℕ) → Option (List ℕ) → List ℕ → Type 0) : Type 0 where
  pub line : List ℕ
  pub note : List ℕ
  pub refuses : IsRefusalOf config line note
  pub unread : s.left ≡ s.unread
  pub wrote : Writes s.held s.written line
  pub tells : TellsNote s.untold s.told note

-- The line of a refused configuration is written, with status 1, or else the datagrams as its users open them.
abbrev pub OpensFile : Bool → List ℕ → ReadOptions → Streams → ℕ → Type 0
OpensFile names config a s status =
    ((status ≡ 1) × RefusesUsers config s Appends Appends)
    ⊎ ((users : List User) × LoadsUsers config users × TellsFile (PrintsOpened names users) a s status)

-- where it stops before the file
abbrev pub StopsBefore : List ℕ → Streams → Unread → Type 0
StopsBefore config s unread.CannotRead = ⊥
StopsBefore config s unread.CannotWrite =
    RefusesUsers config s WritesFront (λ old new note. Keeps old new) ⊎ RefusesUsers config s Appends WritesFront
StopsBefore config s unread.OutOfMemory = (s.left ≡ s.unread) × Keeps s.held s.written × Keeps s.untold s.told

abbrev pub StopsOpening : Bool → List ℕ → ReadOptions → Streams → Unread → Type 0
StopsOpening names config a s f =
    StopsBefore config s f
    ⊎ ((users : List User) × LoadsUsers config users × StopsFile (PrintsOpened names users) a s f)

-- ---- each printout

abbrev pub TellsPrintout : Printout → ReadOptions → Streams → ℕ → Type 0
TellsPrintout printout.Log a s status = TellsFile PrintsLine a s status
TellsPrintout (printout.Shown names) a s status = TellsFile (PrintsShown names) a s status
TellsPrintout (printout.ShownAnyVersion names) a s status = TellsFile (PrintsAnyVersion names) a s status
TellsPrintout (printout.Opened config names) a s status = OpensFile names config.now a s status

abbrev pub StopsPrintout : Printout → ReadOptions → Streams → Unread → Type 0
StopsPrintout printout.Log a s f = StopsFile PrintsLine a s f
StopsPrintout (printout.Shown names) a s f = StopsFile (PrintsShown names) a s f
StopsPrintout (printout.ShownAnyVersion names) a s f = StopsFile (PrintsAnyVersion names) a s f
StopsPrintout (printout.Opened config names) a s f = StopsOpening names config.now a s f

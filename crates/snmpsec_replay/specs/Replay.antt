-- What a replay writes for a log, and what it has written where it stops.
--
-- `Answers`, `ReplayText`. The text that a manager's replay of a log is: for each entry the line of its
-- number, moment and outcome, the managers between as the takes leave them, and at the end the listing of
-- the last manager's marks. `Printing` says from which number on, and whether there are lines
-- (`printed_line`).
--
-- `StopsBy`. What was read, taken and written where a replay stops with a fault. `IsBad`: what comes next
-- is no line of this number. `WriteFails`: of what answers the lines that were read a front was written,
-- and not all.
use Rattle.snmp_message.specs.Numbers.{refusal_number, refusal_name}
use Rattle.std.specs.Prelude.{◌≡◌, ◌⊎◌, if◌then◌else◌, Bool, true, ℕ, ◌+◌, ◌<◌, List, [], ◌∷◌, ◌++◌, length, codes}
use Rattle.std.specs.Prelude.{Option, Some, decimal}
use Rattle.std.specs.Io.KnownBytes.{Appends, Consumes, IsAtEnd, Keeps}
use Rattle.hex.specs.Hex.{encode_lower}
use Rattle.snmp_ber.specs.Splits.{Lacks}
use Rattle.engine_clock.specs.Saved.{AreMarks, listing}
use Rattle.snmp_manager.specs.declared.outcome.Outcome.{Outcome}
use Rattle.snmp_manager.specs.declared.outcome.Outcome.TheVariants.{Accepted, Refused}
use Rattle.snmp_manager.specs.Views.{Held}
use Rattle.snmp_manager.specs.Runs.{TakesOne}
use Rattle.snmpsec_replay.specs.Log.{LogEntry, IsLine, AreLines, HasNoLine}
use Rattle.snmpsec_io.specs.Transfer.{WritesFront}
use Rattle.snmpsec_config.specs.Words.{level_word}
use Rattle.snmpsec_replay.specs.declared.fault.ReplayFault.{ReplayFault}
use Rattle.snmpsec_replay.specs.declared.fault.ReplayFault.TheVariants as fault
use Rattle.snmpsec_replay.specs.declared.printing.Printing.{Printing}
use Rattle.snmpsec_replay.specs.declared.replay.Ending.{Ending}
use Rattle.snmpsec_replay.specs.declared.replay.Ending.TheVariants as ending
use Rattle.snmpsec_replay.specs.declared.replay.Step.{Step}
use Rattle.snmpsec_replay.specs.declared.replay.Step.TheVariants as step

-- ---- the words

abbrev pub outcome_text : Outcome → List ℕ
outcome_text (Accepted level tag) = codes "accepted " ++ (level_word level ++ (codes " " ++ encode_lower (tag ∷ [])))
outcome_text (Refused why) =
    codes "refused " ++ (decimal (refusal_number why.refusal) ++ (codes " " ++ refusal_name why.refusal))

-- the line for the datagram of line n
unfoldable pub answer_line : ℕ → ℕ → Outcome → List ℕ
answer_line n moment outcome = decimal n
    ++ (codes " " ++ (decimal moment ++ (codes " " ++ (outcome_text outcome ++ codes "\n"))))

-- what is printed for the datagram of line n: its line, or nothing where no lines are wanted
abbrev pub printed_line : Bool → ℕ → ℕ → Outcome → List ℕ
printed_line lines n moment outcome = if lines then answer_line n moment outcome else []

-- a line for each datagram, from 1 on
abbrev pub from_line_1 : Printing
from_line_1 = record { first = 1; lines = true }

-- ---- the text

-- The manager `old` takes the entries of a log from line n on, `text` has a line for each, and then it is
-- `new`. Where no lines are wanted the text is empty.
abbrev pub Answers : Bool → Held → ℕ → List LogEntry → List ℕ → Held → Type 0
Answers lines old n [] text new = (text ≡ []) × (new ≡ old)
Answers lines old n (e ∷ es) text new =
    (outcome : Outcome) × (mid : Held) × (rest : List ℕ) × TakesOne old e.moment e.datagram outcome mid
    × (text ≡ printed_line lines n e.moment outcome ++ rest) × Answers lines mid (n + 1) es rest new

-- the manager `begin` takes the lines of the log, `text` has a line for each that is wanted, and then it is `after`
pub record Replays (p : Printing) (begin : Held) (log text : List ℕ) (after : Held) : Type 0 where
  pub entries : List LogEntry
  pub lines : AreLines 1 entries log
  pub answers : Answers p.lines begin p.first entries text after

-- a line for each line of the log, if that is wanted, and then the saved text
pub record ReplayText (p : Printing) (begin : Held) (log text : List ℕ) : Type 0 where
  pub answers : List ℕ
  pub after : Held
  pub replays : Replays p begin log answers after
  pub fits : AreMarks after.clocks
  pub is : text ≡ answers ++ listing after.clocks

-- ---- where a replay stops

-- the bytes that a reader has left and that a writer holds, before and after
pub record Streams : Type 0 where
  pub unread : Option (List ℕ)
  pub left : Option (List ℕ)
  pub held : Option (List ℕ)
  pub written : Option (List ℕ)

abbrev pub streams : Option (List ℕ) → Option (List ℕ) → Option (List ℕ) → Option (List ℕ) → Streams
streams unread left held written = record { unread = unread; left = left; held = held; written = written }

-- `read` is whole lines, a part was read after it, and `text` answers the lines
pub record Reads (p : Printing) (begin : Held) (s : Streams) (IsPart : List LogEntry → List ℕ → Type 0)
    (text : List ℕ) (after : Held) : Type 0 where
  pub read : List ℕ
  pub part : List ℕ
  pub replays : Replays p begin read text after
  pub consumed : Consumes s.unread s.left (read ++ part)
  pub is_part : IsPart replays.entries part

-- and the text is written
pub record Stands (p : Printing) (begin : Held) (s : Streams) (IsPart : List LogEntry → List ℕ → Type 0)
    (after : Held) : Type 0 where
  pub text : List ℕ
  pub reads : Reads p begin s IsPart text after
  pub wrote : Appends s.held s.written text

-- at most one line, with its line feed or without
abbrev pub IsLinePart : List ℕ → Type 0
IsLinePart part = (line : List ℕ) × Lacks 10 line × ((part ≡ line) ⊎ (part ≡ line ++ 10 ∷ []))

-- nothing more, and the reader is at its end
abbrev pub IsEnd : Option (List ℕ) → List LogEntry → List ℕ → Type 0
IsEnd left es part = (part ≡ []) × IsAtEnd left

-- what is next has the number n, and is no line
pub record IsBad (p : Printing) (left : Option (List ℕ)) (n : ℕ) (es : List LogEntry) (part : List ℕ) : Type 0 where
  pub number : n ≡ p.first + length es
  pub line : IsLinePart part
  pub more : 0 < length part
  pub none : (rest : List ℕ) → left ≡ Some rest → HasNoLine (length es + 1) (part ++ rest)

-- A write failed: what is written is a front of what answers the lines that were read, or of the whole text,
-- and not all of it.
pub record WriteFails (p : Printing) (begin : Held) (s : Streams) : Type 0 where
  pub text : List ℕ
  pub after : Held
  pub front : (Reads p begin s (λ es part. IsLinePart part) text after × WritesFront s.held s.written text)
      ⊎ (Reads p begin s (IsEnd s.left) text after × WritesFront s.held s.written (text ++ listing after.clocks))

-- memory may be wanted before anything is read, behind a whole line, and at the end
abbrev pub MayWant : Option (List ℕ) → List LogEntry → List ℕ → Type 0
MayWant left es part = ((part ≡ []) × ((es ≡ []) ⊎ IsAtEnd left))
    ⊎ ((line : List ℕ) × Lacks 10 line × (part ≡ line ++ 10 ∷ []))

-- what a replay by the manager `begin` has done where it stops with a fault
abbrev pub StopsBy : Printing → Held → Streams → ReplayFault → Type 0
StopsBy p begin s (fault.LogLine n why) = (after : Held) × Stands p begin s (IsBad p s.left n) after
StopsBy p begin s fault.CannotRead = (after : Held) × Stands p begin s (λ es part. Lacks 10 part) after
StopsBy p begin s fault.CannotWrite = WriteFails p begin s
StopsBy p begin s fault.OutOfMemory = (after : Held) × Stands p begin s (MayWant s.left) after

-- ---- between the functions

-- a front of the text is written, and the rest waits
pub record Waits (p : Printing) (begin : Held) (s : Streams) (waiting : List ℕ)
    (IsPart : List LogEntry → List ℕ → Type 0) (after : Held) : Type 0 where
  pub text : List ℕ
  pub reads : Reads p begin s IsPart text after
  pub done : List ℕ
  pub parts : text ≡ done ++ waiting
  pub wrote : Appends s.held s.written done

-- where the lines end, with what is not yet written
abbrev pub Ends : Printing → Held → Held → Streams → List ℕ → Ending → Type 0
Ends p begin now s waiting ending.Whole = Waits p begin s waiting (IsEnd s.left) now
Ends p begin now s waiting (ending.LogLine n why) = (after : Held) × Waits p begin s waiting (IsBad p s.left n) after
Ends p begin now s waiting ending.CannotRead = (after : Held) × Waits p begin s waiting (λ es part. Lacks 10 part) after
Ends p begin now s waiting ending.OutOfMemory = (after : Held) × Waits p begin s waiting (MayWant s.left) after

-- How a log ends behind the last line that is taken: nothing stands there, or one octet more, which is a part
-- of line n.
abbrev pub EndsBehind : ℕ → Option (List ℕ) → Option (List ℕ) → Ending → Type 0
EndsBehind n unread left ending.Whole = Consumes unread left [] × IsAtEnd left
EndsBehind n unread left (ending.LogLine m why) = (x : ℕ) × (m ≡ n) × Consumes unread left (x ∷ [])
EndsBehind n unread left ending.CannotRead = Keeps unread left
EndsBehind n unread left ending.OutOfMemory = ⊥

-- what one line does to the manager and to what is not yet written
abbrev pub AnswersLine : Bool → Held → ℕ → List ℕ → List ℕ → Held → List ℕ → Step → Type 0
AnswersLine lines old n line waited new waits step.Answered =
    (e : LogEntry) × (outcome : Outcome) × IsLine line e × TakesOne old e.moment e.datagram outcome new
    × (waits ≡ waited ++ printed_line lines n e.moment outcome)
AnswersLine lines old n line waited new waits (step.OutOfForm why) =
    ((e : LogEntry) → IsLine line e → ⊥) × (waits ≡ waited)
AnswersLine lines old n line waited new waits step.OutOfMemory = waits ≡ waited

-- what the saved text has done where it stops
abbrev pub SavesUnless : List ℕ → Option (List ℕ) → Option (List ℕ) → ReplayFault → Type 0
SavesUnless text old new (fault.LogLine m why) = ⊥
SavesUnless text old new fault.CannotRead = ⊥
SavesUnless text old new fault.CannotWrite = WritesFront old new text
SavesUnless text old new fault.OutOfMemory = Keeps old new

-- A front of what waited was written, and the rest waits.
abbrev pub WritesSome : Option (List ℕ) → Option (List ℕ) → List ℕ → List ℕ → Type 0
WritesSome old new waited waits = (front : List ℕ) × (waited ≡ front ++ waits) × Appends old new front

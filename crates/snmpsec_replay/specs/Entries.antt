-- What is next in a log, where it is read line by line.
--
-- `TellsNext unread left next`: a line of a log with its line feed, the end, or what is no line (`IsNoEntry`).
-- `StopsNext`: it isn't told which.
use Rattle.std.specs.Prelude.{◌≡◌, ◌⊎◌, ⊤, ℕ, ◌<◌, ◌≤◌, List, [], ◌∷◌, ◌++◌, length, Option}
use Rattle.std.specs.Io.KnownBytes.{Consumes, IsAtEnd}
use Rattle.snmp_ber.specs.Splits.{Lacks}
use Rattle.snmpsec_replay.specs.Log.{LogEntry, IsLine}
use Rattle.snmpsec_replay.specs.Lines.{ReadsPart}
use Rattle.snmpsec_replay.specs.declared.fault.ReplayFault.{ReplayFault}
use Rattle.snmpsec_replay.specs.declared.fault.ReplayFault.TheVariants as faults
use Rattle.snmpsec_replay.specs.declared.entries.NextEntry.{NextEntry}
use Rattle.snmpsec_replay.specs.declared.entries.NextEntry.TheVariants as next

-- the line, without its line feed, says nothing
abbrev pub SaysNothing : List ℕ → Type 0
SaysNothing line = (e : LogEntry) → IsLine line e → ⊥

-- what is no line of a log: it is longer than one may be, or has no line feed at the end, or says nothing
abbrev pub IsNoEntry : Option (List ℕ) → List ℕ → Type 0
IsNoEntry left part =
    (Lacks 10 part × (131072 < length part))
    ⊎ ((Lacks 10 part × (0 < length part) × IsAtEnd left)
    ⊎ ((line : List ℕ) × (part ≡ line ++ 10 ∷ []) × Lacks 10 line × SaysNothing line))

abbrev pub TellsNext : Option (List ℕ) → Option (List ℕ) → NextEntry → Type 0
TellsNext unread left (next.Entry e) = (line : List ℕ) × IsLine line e × Lacks 10 line × (length line ≤ 131072)
    × Consumes unread left (line ++ 10 ∷ [])
TellsNext unread left next.End = Consumes unread left [] × IsAtEnd left
TellsNext unread left (next.Faulty why) = (part : List ℕ) × Consumes unread left part × IsNoEntry left part

-- what a line with its line feed is
abbrev pub TellsLineAs : List ℕ → NextEntry → Type 0
TellsLineAs line (next.Entry e) = IsLine line e
TellsLineAs line next.End = ⊥
TellsLineAs line (next.Faulty why) = SaysNothing line

-- It isn't told where a read fails, behind a part of a line; or where a growth of memory was refused.
abbrev pub StopsNext : Option (List ℕ) → Option (List ℕ) → ReplayFault → Type 0
StopsNext unread left faults.CannotRead = ReadsPart unread left
StopsNext unread left faults.OutOfMemory = ⊤
StopsNext unread left (faults.LogLine n why) = ⊥
StopsNext unread left faults.CannotWrite = ⊥

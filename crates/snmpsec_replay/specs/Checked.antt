-- What a text is to a replay, where it is only looked at.
--
-- `TellsLog`. A log that is only looked at is lines, and their number is reported; or after some lines comes
-- what is none, and its number is reported.
--
-- `StopsLog`. Where a read fails, lines of a log stand before it, and a part of what is next, without a
-- line feed.
use Rattle.std.specs.Prelude.{◌≡◌, ⊤, ℕ, List, ◌++◌, length, Option}
use Rattle.std.specs.Io.KnownBytes.{Consumes}
use Rattle.snmp_ber.specs.Splits.{Lacks}
use Rattle.snmpsec_replay.specs.Log.{LogEntry, AreLines}
use Rattle.snmpsec_replay.specs.Replay.{IsEnd, IsBad, from_line_1}
use Rattle.snmpsec_replay.specs.declared.checked.CheckedLog.{CheckedLog}
use Rattle.snmpsec_replay.specs.declared.checked.CheckedLog.TheVariants as logs
use Rattle.snmpsec_replay.specs.declared.fault.ReplayFault.{ReplayFault}
use Rattle.snmpsec_replay.specs.declared.fault.ReplayFault.TheVariants as faults

-- lines of a log were read, and a part after them
pub record ReadsLog (unread left : Option (List ℕ)) (IsPart : List LogEntry → List ℕ → Type 0) : Type 0 where
  pub entries : List LogEntry
  pub read : List ℕ
  pub part : List ℕ
  pub lines : AreLines 1 entries read
  pub consumed : Consumes unread left (read ++ part)
  pub is_part : IsPart entries part

-- All of it is lines, and their number is reported; or after some lines comes what is none, and its number is reported.
abbrev pub TellsLog : Option (List ℕ) → Option (List ℕ) → CheckedLog → Type 0
TellsLog unread left (logs.Whole n) = ReadsLog unread left (λ es part. IsEnd left es part × (n ≡ length es))
TellsLog unread left (logs.Faulty n why) = ReadsLog unread left (IsBad from_line_1 left n)

-- It isn't told where a read fails: behind lines of a log, and behind a part of what is next, so that nothing
-- that is no line was passed over; or where a growth of memory was refused.
abbrev pub StopsLog : Option (List ℕ) → Option (List ℕ) → ReplayFault → Type 0
StopsLog unread left faults.CannotRead = ReadsLog unread left (λ es part. Lacks 10 part)
StopsLog unread left faults.OutOfMemory = ⊤
StopsLog unread left (faults.LogLine n why) = ⊥
StopsLog unread left faults.CannotWrite = ⊥

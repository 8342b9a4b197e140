-- The counters of refused messages (usmStats, RFC 3414, section 5).
use Rattle.snmp_message.specs.declared.refusal.Refusal.{Refusal}
use Rattle.std.specs.Prelude.{ℕ, ◌+◌, ◌-◌, ◌%◌, ◌^◌, List, slice_index, slice_set, Option, Some}
use Rattle.std.specs.Prelude.{None, Result, Ok, Err}
use Rattle.snmp_message.specs.declared.refusal.Refusal.TheVariants.{UnknownEngine, UnknownUser, UnsupportedLevel}
use Rattle.snmp_message.specs.declared.refusal.Refusal.TheVariants.{WrongDigest, NotInWindow, DecryptionError}
use Rattle.snmp_incoming.specs.Outcome.{Given}

-- the counter of a refusal: 1 usmStatsUnsupportedSecLevels, 2 usmStatsNotInTimeWindows, 3 usmStatsUnknownUserNames,
-- 4 usmStatsUnknownEngineIDs, 5 usmStatsWrongDigests and 6 usmStatsDecryptionErrors
abbrev pub counter_of : Refusal → Option ℕ
counter_of UnsupportedLevel = Some 1
counter_of NotInWindow = Some 2
counter_of UnknownUser = Some 3
counter_of UnknownEngine = Some 4
counter_of WrongDigest = Some 5
counter_of DecryptionError = Some 6
counter_of _ = None

-- counter n, counted from 1
abbrev pub counter_at : List ℕ → ℕ → ℕ
counter_at counters n = slice_index counters (n - 1)

-- one more in this counter, which is a Counter32: it goes from 4294967295 to 0
abbrev pub counted : List ℕ → Option ℕ → List ℕ
counted counters None = counters
counted counters (Some n) = slice_set counters (n - 1) ((counter_at counters n + 1) % 2 ^ 32)

-- A refusal that has a counter adds one to it.
abbrev pub counters_after : List ℕ → Result Given Refusal → List ℕ
counters_after counters (Ok given) = counters
counters_after counters (Err refusal) = counted counters (counter_of refusal)

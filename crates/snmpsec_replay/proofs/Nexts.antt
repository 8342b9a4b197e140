-- What is next in a log, of a line with its line feed.
use Rattle.std.proofs.Common.{ℕ, ◌≤◌, List, [], ◌∷◌, ◌++◌, length, Option, Result, Ok, Err, IfOk, refl, inr}
use Rattle.std.specs.Io.KnownBytes.{Consumes}
use Rattle.snmp_ber.specs.Splits.{Lacks}
use Rattle.snmpsec_replay.specs.Entries.{TellsLineAs, TellsNext}
use Rattle.snmpsec_replay.specs.declared.fault.ReplayFault.{ReplayFault}
use Rattle.snmpsec_replay.specs.declared.entries.NextEntry.{NextEntry}
use Rattle.snmpsec_replay.specs.declared.entries.NextEntry.TheVariants as next

pub line_next : (r : Result NextEntry ReplayFault) (unread left : Option (List ℕ)) (line : List ℕ) → IfOk r (TellsLineAs line) → Lacks 10 line → length line ≤ 131072
    → Consumes unread left (line ++ 10 ∷ []) → IfOk r (TellsNext unread left)
line_next (Ok (next.Entry e)) unread left line h plain short c = (line, h, plain, short, c)
line_next (Ok next.End) unread left line h plain short c = absurd h
line_next (Ok (next.Faulty why)) unread left line h plain short c = (line ++ 10 ∷ [], c, inr (inr (line, refl, plain, h)))
line_next (Err fault) unread left line h plain short c = tt

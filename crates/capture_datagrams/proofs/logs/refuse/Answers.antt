use Rattle.capture_datagrams.proofs.LogEntries.{refusal_written, row_stops, note_stops}
use Rattle.capture_datagrams.proofs.logs.refuse.Goals as goal

pub returns-in_default-write_whole-clause-err : goal.returns-in_default-write_whole-clause-err
returns-in_default-write_whole-clause-err g c = row_stops _ _ _ _ _ _ _ _ c.in-Ok.ensures c.in-Ok-line_note.ensures c.as_bytes.ensures.value c.in_default-write_whole.ensures.err

pub returns-in-Ok-write_whole-2-clause-ok : goal.returns-in-Ok-write_whole-2-clause-ok
returns-in-Ok-write_whole-2-clause-ok g c =
    refusal_written _ _ _ _ _ _ _ _ _ _ c.in-Ok.ensures c.in-Ok-line_note.ensures c.as_bytes.ensures.value c.as_bytes-2.ensures.value c.in-Ok-write_whole.ensures.ok c.in-Ok-write_whole-2.ensures.ok

pub returns-clause-err : goal.returns-clause-err
returns-clause-err g c =
    note_stops _ _ _ _ _ _ _ _ _ _ c.in-Ok.ensures c.in-Ok-line_note.ensures c.as_bytes.ensures.value c.as_bytes-2.ensures.value c.in-Ok-write_whole.ensures.ok c.in-Err.ensures.err

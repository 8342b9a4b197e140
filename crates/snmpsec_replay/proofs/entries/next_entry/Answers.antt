use Rattle.snmpsec_replay.proofs.Nexts.{line_next}
use Rattle.snmpsec_replay.proofs.entries.next_entry.Goals as goal

pub returns-in-Whole-clause-ok : goal.returns-in-Whole-clause-ok
returns-in-Whole-clause-ok g c =
    let got = rw c.in-Whole.is at c.in-Ok.ensures.ok in
    line_next c.entry_of.result _ _ _ (rw c.deref.ensures.value at c.entry_of.ensures.ok) got.0 got.1 got.2

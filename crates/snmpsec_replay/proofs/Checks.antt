-- A log that is looked at, line by line.
use Rattle.std.proofs.Common.{◌≡◌, ℕ, ◌+◌, ◌<◌, ◌≤◌, List, [], ◌∷◌, ◌++◌, length, Option, refl, inl, inr, sym, ap, ◌∙◌, arith, append-nil, length-append, subst}
use Rattle.std.specs.Io.KnownBytes.{Consumes}
use Rattle.std.proofs.KnownBytes.{Consumes-nil, Consumes-trans}
use Rattle.snmp_ber.specs.Splits.{Lacks}
use Rattle.snmpsec_replay.specs.Log.{LogEntry, IsLine, IsLineAt}
use Rattle.snmpsec_replay.specs.Replay.{IsBad, from_line_1}
use Rattle.snmpsec_replay.specs.Checked.{ReadsLog, StopsLog}
use Rattle.snmpsec_replay.specs.Entries.{IsNoEntry, StopsNext}
use Rattle.snmpsec_replay.specs.declared.fault.ReplayFault.{ReplayFault}
use Rattle.snmpsec_replay.specs.declared.fault.ReplayFault.TheVariants as faults
use Rattle.snmpsec_replay.proofs.Replays.{IsNext, lines_more, bad_line, bad_front}

-- what is no entry is no line of this number
pub no_entry : (left : Option (List ℕ)) (k : ℕ) (part : List ℕ) → IsNoEntry left part → (es : List LogEntry) → k ≡ length es → IsBad from_line_1 left (k + 1) es part
no_entry left k part h es n =
    let number : 1 + k ≡ k + 1 = omega arith in
    subst (λ m. IsBad from_line_1 left m es part) number (elim h [
      | inl long ↦ bad_front from_line_1 left k part long.0 (inl long.1) es n
      | inr (inl cut) ↦ bad_front from_line_1 left k part cut.0 (inr (cut.1, cut.2)) es n
      | inr (inr bad) ↦ subst (λ p. IsBad from_line_1 left (1 + k) es p) (sym bad.1) (bad_line from_line_1 left k bad.0 bad.2 bad.3 es n)
    ])

pub begins : (unread : Option (List ℕ)) → ReadsLog unread unread (IsNext 0)
begins unread = record { entries = []; read = []; part = []; lines = refl; consumed = Consumes-nil unread; is_part = (refl, refl) }

-- a line more
pub goes_on : (unread left : Option (List ℕ)) (k : ℕ) → ReadsLog unread left (IsNext k) → (left' : Option (List ℕ)) (line : List ℕ) (e : LogEntry) → k < 1000000
    → IsLine line e → length line ≤ 131072 → Consumes left left' (line ++ 10 ∷ []) → ReadsLog unread left' (IsNext (k + 1))
goes_on unread left k r left' line e within says short c =
    let es = r.entries in
    let number : k + 1 ≡ 1 + length es = ap (λ j. j + 1) r.is_part.1 ∙ omega arith in
    let longer : length (es ++ e ∷ []) ≡ length es + 1 = length-append es (e ∷ []) in
    let at : IsLineAt (k + 1) line e = record { says = says; number = omega (arith, within); short = short } in
    record {
      entries = es ++ e ∷ [];
      read = r.read ++ (line ++ 10 ∷ []);
      part = [];
      lines = lines_more 1 es r.read line e r.lines (subst (λ j. IsLineAt j line e) number at);
      consumed = rw (append-nil (r.read ++ (line ++ 10 ∷ []))) (Consumes-trans _ _ _ _ _ (rw (r.is_part.0, append-nil r.read) at r.consumed) c);
      is_part = (refl, ap (λ j. j + 1) r.is_part.1 ∙ sym longer);
    }

-- something else than a line
pub ends : (unread left : Option (List ℕ)) (k : ℕ) → ReadsLog unread left (IsNext k) → (left' : Option (List ℕ)) (P : List LogEntry → List ℕ → Type 0) (part : List ℕ)
    → Consumes left left' part → ((es : List LogEntry) → k ≡ length es → P es part) → ReadsLog unread left' P
ends unread left k r left' P part c says = record {
  entries = r.entries;
  read = r.read;
  part = part;
  lines = r.lines;
  consumed = Consumes-trans _ _ _ _ _ (rw (r.is_part.0, append-nil r.read) at r.consumed) c;
  is_part = says r.entries r.is_part.1;
}

-- a read that fails behind lines
pub stops : (unread left : Option (List ℕ)) (k : ℕ) → ReadsLog unread left (IsNext k) → (left' : Option (List ℕ)) (fault : ReplayFault) → StopsNext left left' fault
    → StopsLog unread left' fault
stops unread left k r left' faults.CannotRead h = ends unread left k r left' (λ es part. Lacks 10 part) h.0 h.2 (λ es n. h.1)
stops unread left k r left' faults.OutOfMemory h = tt
stops unread left k r left' (faults.LogLine n why) h = absurd h
stops unread left k r left' faults.CannotWrite h = absurd h

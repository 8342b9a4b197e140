-- A replay, line by line.
use Rattle.std.proofs.Common.{◌≡◌, Bool, ℕ, ◌+◌, ◌<◌, ◌⊎◌, List, [], ◌∷◌, ◌++◌, length, Option, Some, None, IfSome, is_some, true, MatchOption, refl, sym, ap, ◌∙◌, arith, inl, inr, append_assoc, append-nil, length-append, subst}
use Rattle.std.specs.Io.KnownBytes.{Appends, Consumes, IsAtEnd, Keeps}
use Rattle.std.proofs.KnownBytes.{Appends-nil, Appends-trans, Appends-kept, Consumes-nil, Consumes-trans, Consumes-whole}
use Rattle.std.proofs.lemmas.Bool.{cases_eq}
use Rattle.snmp_ber.specs.Splits.{Lacks}
use Rattle.engine_clock.specs.Saved.{AreMarks, listing}
use Rattle.snmp_manager.specs.declared.outcome.Outcome.{Outcome}
use Rattle.snmp_manager.specs.Views.{Held}
use Rattle.snmp_manager.specs.Runs.{TakesOne}
use Rattle.snmpsec_replay.specs.Log.{LogEntry, IsLine, IsLineAt, AreLines, HasNoLine}
use Rattle.snmpsec_io.specs.Transfer.{WritesFront}
use Rattle.snmpsec_replay.specs.Replay.{printed_line, Answers, ReplayText, streams, Stands, Waits, IsLinePart, IsEnd, IsBad, MayWant, WriteFails, StopsBy, Ends, EndsBehind, SavesUnless, WritesSome}
use Rattle.snmpsec_replay.specs.declared.fault.ReplayFault.{ReplayFault}
use Rattle.snmpsec_replay.specs.declared.fault.ReplayFault.TheVariants as fault
use Rattle.snmpsec_replay.specs.declared.printing.Printing.{Printing}
use Rattle.snmpsec_replay.specs.declared.replay.Ending.{Ending}
use Rattle.snmpsec_replay.specs.declared.replay.Ending.TheVariants as ending
use Rattle.snmpsec_replay.proofs.Texts.{none_over_limit, none_unended, none_past_limit, none_at_line}

-- ---- one line more

pub lines_more : (k : ℕ) (es : List LogEntry) (read line : List ℕ) (e : LogEntry) → AreLines k es read → IsLineAt (k + length es) line e
    → AreLines k (es ++ e ∷ []) (read ++ (line ++ 10 ∷ []))
lines_more k [] read line e h at = (line, [], subst (λ n. IsLineAt n line e) (omega arith) at, ap (λ t. t ++ (line ++ 10 ∷ [])) h, refl)
lines_more k (x ∷ es) read line e (l, rest, is, parts, later) at =
    let number : k + length (x ∷ es) ≡ (k + 1) + length es = omega arith in (
      l,
      rest ++ (line ++ 10 ∷ []),
      is,
      ap (λ t. t ++ (line ++ 10 ∷ [])) parts ∙ append_assoc l (10 ∷ rest) _,
      lines_more (k + 1) es rest line e later (subst (λ n. IsLineAt n line e) number at),
    )

answers_more : (lines : Bool) (old : Held) (k : ℕ) (es : List LogEntry) (text : List ℕ) (mid : Held) (e : LogEntry) (outcome : Outcome) (new : Held)
    → Answers lines old k es text mid → TakesOne mid e.moment e.datagram outcome new
    → Answers lines old k (es ++ e ∷ []) (text ++ printed_line lines (k + length es) e.moment outcome) new
answers_more lines old k [] text mid e outcome new h takes =
    let number : k + length {A = LogEntry} [] ≡ k = omega arith in (
      outcome,
      new,
      [],
      subst (λ m. TakesOne m e.moment e.datagram outcome new) h.1 takes,
      ap (λ t. t ++ printed_line lines (k + length {A = LogEntry} []) e.moment outcome) h.0 ∙ ap (λ n. printed_line lines n e.moment outcome) number ∙ sym (append-nil _),
      (refl, refl),
    )
answers_more lines old k (x ∷ es) text mid e outcome new (o, m, rest, first, parts, later) takes =
    let number : k + length (x ∷ es) ≡ (k + 1) + length es = omega arith in (
      o,
      m,
      rest ++ printed_line lines (k + length (x ∷ es)) e.moment outcome,
      first,
      ap (λ t. t ++ printed_line lines (k + length (x ∷ es)) e.moment outcome) parts ∙ append_assoc (printed_line lines k x.moment o) rest _,
      subst (λ n. Answers lines m (k + 1) (es ++ e ∷ []) (rest ++ printed_line lines n e.moment outcome) new) (sym number)
          (answers_more lines m (k + 1) es rest mid e outcome new later takes),
    )

-- ---- where a replay stands after k lines

abbrev pub IsNext : ℕ → List LogEntry → List ℕ → Type 0
IsNext k es part = (part ≡ []) × (k ≡ length es)

pub starts : (p : Printing) (begin : Held) (unread held : Option (List ℕ)) (waiting : List ℕ) → waiting ≡ [] → Waits p begin (streams unread unread held held) waiting (IsNext 0) begin
starts p begin unread held waiting none = record {
  text = [];
  reads = record {
    read = [];
    part = [];
    replays = record { entries = []; lines = refl; answers = (refl, refl) };
    consumed = Consumes-nil unread;
    is_part = (refl, refl);
  };
  done = [];
  parts = sym none;
  wrote = Appends-nil held;
}

-- a part of the next line was read
pub reads_part : {p : Printing} {begin now : Held} {unread left held written : Option (List ℕ)} {k : ℕ} {waiting : List ℕ}
    → Waits p begin (streams unread left held written) waiting (IsNext k) now
    → (left' : Option (List ℕ)) (P : List LogEntry → List ℕ → Type 0) (part waits : List ℕ) → Consumes left left' part → waits ≡ waiting
    → ((es : List LogEntry) → k ≡ length es → P es part)
    → Waits p begin (streams unread left' held written) waits P now
reads_part w left' P part waits c same says =
    let r = w.reads in
    record {
      text = w.text;
      reads = record {
        read = r.read;
        part = part;
        replays = r.replays;
        consumed = Consumes-trans _ _ _ _ _ (rw (r.is_part.0, append-nil r.read) at r.consumed) c;
        is_part = says r.replays.entries r.is_part.1;
      };
      done = w.done;
      parts = w.parts ∙ ap (λ t. w.done ++ t) (sym same);
      wrote = w.wrote;
    }

-- the next line was read and answered
pub reads_line : {p : Printing} {begin now : Held} {unread left held written : Option (List ℕ)} {k : ℕ} {waiting : List ℕ}
    → Waits p begin (streams unread left held written) waiting (IsNext k) now
    → (left' : Option (List ℕ)) (line waits : List ℕ) (e : LogEntry) (outcome : Outcome) (new : Held)
    → IsLineAt (k + 1) line e → TakesOne now e.moment e.datagram outcome new → Consumes left left' (line ++ 10 ∷ []) → waits ≡ waiting ++ printed_line p.lines (p.first + k) e.moment outcome
    → Waits p begin (streams unread left' held written) waits (IsNext (k + 1)) new
reads_line {p = p} {begin = begin} {now = now} {k = k} {waiting = waiting} w left' line waits e outcome new at takes c more =
    let r = w.reads in
    let es = r.replays.entries in
    let number : k + 1 ≡ 1 + length es = ap (λ j. j + 1) r.is_part.1 ∙ omega arith in
    let longer : length (es ++ e ∷ []) ≡ length es + 1 = length-append es (e ∷ []) in
    record {
      text = w.text ++ printed_line p.lines (p.first + k) e.moment outcome;
      reads = record {
        read = r.read ++ (line ++ 10 ∷ []);
        part = [];
        replays = record {
          entries = es ++ e ∷ [];
          lines = lines_more 1 es r.read line e r.replays.lines (subst (λ j. IsLineAt j line e) number at);
          answers = subst (λ j. Answers p.lines begin p.first (es ++ e ∷ []) (w.text ++ printed_line p.lines (p.first + j) e.moment outcome) new) (sym r.is_part.1)
              (answers_more p.lines begin p.first es w.text now e outcome new r.replays.answers takes);
        };
        consumed = rw (append-nil (r.read ++ (line ++ 10 ∷ []))) (Consumes-trans _ _ _ _ _ (rw (r.is_part.0, append-nil r.read) at r.consumed) c);
        is_part = (refl, ap (λ j. j + 1) r.is_part.1 ∙ sym longer);
      };
      done = w.done;
      parts = ap (λ t. t ++ printed_line p.lines (p.first + k) e.moment outcome) w.parts ∙ append_assoc w.done waiting _ ∙ ap (λ t. w.done ++ t) (sym more);
      wrote = w.wrote;
    }

-- a front of what waited was written
pub writes_some : {p : Printing} {begin now : Held} {unread left held written : Option (List ℕ)} {waiting : List ℕ} {P : List LogEntry → List ℕ → Type 0}
    → Waits p begin (streams unread left held written) waiting P now
    → (written' : Option (List ℕ)) (waits : List ℕ) → WritesSome written written' waiting waits
    → Waits p begin (streams unread left held written') waits P now
writes_some w written' waits (front, cut, a) = record {
  text = w.text;
  reads = record { read = w.reads.read; part = w.reads.part; replays = w.reads.replays; consumed = w.reads.consumed; is_part = w.reads.is_part };
  done = w.done ++ front;
  parts = w.parts ∙ ap (λ t. w.done ++ t) cut ∙ sym (append_assoc w.done front waits);
  wrote = Appends-trans _ _ _ _ _ w.wrote a;
}

-- all is written
pub stands : {p : Printing} {begin now : Held} {unread left held written : Option (List ℕ)} {waiting : List ℕ} {P : List LogEntry → List ℕ → Type 0}
    → Waits p begin (streams unread left held written) waiting P now
    → (written' : Option (List ℕ)) → Appends written written' waiting → Stands p begin (streams unread left held written') P now
stands {held = held} w written' a = record {
  text = w.text;
  reads = record { read = w.reads.read; part = w.reads.part; replays = w.reads.replays; consumed = w.reads.consumed; is_part = w.reads.is_part };
  wrote = subst (Appends held written') (sym w.parts) (Appends-trans _ _ _ _ _ w.wrote a);
}

-- what waited couldn't be written
pub write_fails : {p : Printing} {begin now : Held} {unread left held written : Option (List ℕ)} {waiting : List ℕ} {P : List LogEntry → List ℕ → Type 0}
    → Waits p begin (streams unread left held written) waiting P now
    → ((es : List LogEntry) (part : List ℕ) → P es part → IsLinePart part)
    → (written' : Option (List ℕ)) → WritesFront written written' waiting → WriteFails p begin (streams unread left held written')
write_fails {now = now} w is written' (front, rest, cut, some, a) = record {
  text = w.text;
  after = now;
  front = inl (
    record { read = w.reads.read; part = w.reads.part; replays = w.reads.replays; consumed = w.reads.consumed; is_part = is _ _ w.reads.is_part },
    (w.done ++ front, rest, w.parts ∙ ap (λ t. w.done ++ t) cut ∙ sym (append_assoc w.done front rest), some, Appends-trans _ _ _ _ _ w.wrote a),
  );
}

-- ---- the parts of a line

pub part_none : (part : List ℕ) → part ≡ [] → IsLinePart part
part_none part e = ([], tt, inl e)

pub part_plain : (part : List ℕ) → Lacks 10 part → IsLinePart part
part_plain part h = (part, h, inl refl)

part_line : (line : List ℕ) → Lacks 10 line → IsLinePart (line ++ 10 ∷ [])
part_line line h = (line, h, inr refl)

pub part_octet : (x : ℕ) → (x ≡ 10) ⊎ (x ≡ 10 → ⊥) → IsLinePart (x ∷ [])
part_octet x (inl e) = ([], tt, inr (ap (λ y. y ∷ []) e))
part_octet x (inr n) = (x ∷ [], (n, tt), inl refl)

wanted_part : (left : Option (List ℕ)) (es : List LogEntry) (part : List ℕ) → MayWant left es part → IsLinePart part
wanted_part left es part (inl none) = part_none part none.0
wanted_part left es part (inr (line, lacks, is)) = (line, lacks, inr is)

pub none_taken : (es : List LogEntry) → 0 ≡ length es → es ≡ []
none_taken [] n = refl
none_taken (e ∷ es) n = absurd (omega (arith, n))

pub bad_front : (p : Printing) (left : Option (List ℕ)) (k : ℕ) (part : List ℕ) → Lacks 10 part → (131072 < length part) ⊎ ((0 < length part) × IsAtEnd left)
    → (es : List LogEntry) → k ≡ length es → IsBad p left (p.first + k) es part
bad_front p left k part h (inl long) es number = record { number = ap (λ j. p.first + j) number; line = part_plain part h; more = omega (arith, long); none = λ rest is. none_over_limit (length es + 1) part rest h long }
bad_front p left k part h (inr end) es number = record { number = ap (λ j. p.first + j) number; line = part_plain part h; more = end.0; none = λ rest is. none_unended (length es + 1) part rest h (rw is at end.1) }

pub bad_line : (p : Printing) (left : Option (List ℕ)) (k : ℕ) (line : List ℕ) → Lacks 10 line → ((e : LogEntry) → IsLine line e → ⊥)
    → (es : List LogEntry) → k ≡ length es → IsBad p left (p.first + k) es (line ++ 10 ∷ [])
bad_line p left k line h none es number = record {
  number = ap (λ j. p.first + j) number;
  line = part_line line h;
  more = (let l = length-append line (10 ∷ []) in omega (arith, l));
  none = λ rest is. none_at_line (length es + 1) line rest h none;
}

pub bad_number : (p : Printing) (left : Option (List ℕ)) (k x : ℕ) → (x ≡ 10) ⊎ (x ≡ 10 → ⊥) → k ≡ 1000000 → (es : List LogEntry) → k ≡ length es → IsBad p left (p.first + 1000000) es (x ∷ [])
bad_number p left k x d past es number = record {
  number = ap (λ j. p.first + j) (sym past ∙ number);
  line = part_octet x d;
  more = omega arith;
  none = λ rest is. subst (λ n. HasNoLine n ((x ∷ []) ++ rest)) (ap (λ j. j + 1) (sym past ∙ number)) (none_past_limit ((x ∷ []) ++ rest));
}

-- ---- the end

pub saves : {p : Printing} {begin now : Held} {unread left held written : Option (List ℕ)}
    → Stands p begin (streams unread left held written) (IsEnd left) now
    → (written' : Option (List ℕ)) → AreMarks now.clocks → Appends written written' (listing now.clocks)
    → IfSome unread (λ log. (text : List ℕ) × ReplayText p begin log text × Appends held written' text)
saves {begin = begin} {now = now} {unread = unread} {left = left} {held = held} s written' fits a =
    let r = s.reads in
    let c = rw (r.is_part.0, append-nil r.read) at r.consumed in
    Consumes-whole unread left r.read _ c r.is_part.1
    (s.text ++ listing now.clocks, record { answers = s.text; after = now; replays = r.replays; fits = fits; is = refl }, Appends-trans _ _ _ _ _ s.wrote a)

pub save_fails : {p : Printing} {begin now : Held} {unread left held written : Option (List ℕ)}
    → Stands p begin (streams unread left held written) (IsEnd left) now
    → (written' : Option (List ℕ)) (e : ReplayFault) → SavesUnless (listing now.clocks) written written' e → StopsBy p begin (streams unread left held written') e
save_fails s written' (fault.LogLine m why) h = absurd h
save_fails s written' fault.CannotRead h = absurd h
save_fails {now = now} s written' fault.CannotWrite (front, rest, cut, some, a) = record {
  text = s.text;
  after = now;
  front = inr (
    record { read = s.reads.read; part = s.reads.part; replays = s.reads.replays; consumed = s.reads.consumed; is_part = s.reads.is_part },
    (s.text ++ front, rest, ap (λ t. s.text ++ t) cut ∙ sym (append_assoc s.text front rest), some, Appends-trans _ _ _ _ _ s.wrote a),
  );
}
save_fails {now = now} s written' fault.OutOfMemory k = (
  now,
  record {
    text = s.text;
    reads = record { read = s.reads.read; part = s.reads.part; replays = s.reads.replays; consumed = s.reads.consumed; is_part = inl (s.reads.is_part.0, inr s.reads.is_part.1) };
    wrote = Appends-kept _ _ _ _ s.wrote k;
  },
)

pub ends_write_fails : (p : Printing) (begin now : Held) (unread left held written : Option (List ℕ)) (waiting : List ℕ) (e : Ending)
    → Ends p begin now (streams unread left held written) waiting e
    → (written' : Option (List ℕ)) → WritesFront written written' waiting → WriteFails p begin (streams unread left held written')
ends_write_fails p begin now unread left held written waiting ending.Whole h written' w = write_fails h (λ es part is. part_none part is.0) written' w
ends_write_fails p begin now unread left held written waiting (ending.LogLine n why) h written' w = write_fails h.1 (λ es part is. is.line) written' w
ends_write_fails p begin now unread left held written waiting ending.CannotRead h written' w = write_fails h.1 (λ es part is. part_plain part is) written' w
ends_write_fails p begin now unread left held written waiting ending.OutOfMemory h written' w = write_fails h.1 (λ es part is. wanted_part left es part is) written' w

-- ---- one octet

pub octet_given : (P : Type 0) (Q : ℕ → Type 0) (o : Option ℕ) → is_some o ≡ true → MatchOption o P Q → (x : ℕ) × Q x
octet_given P Q None h m = absurd cc
octet_given P Q (Some x) h m = (x, m)

-- a reader that kept its bytes gave none
pub kept_none : (a b : Option (List ℕ)) → Keeps a b → Consumes a b []
kept_none None b k = tt
kept_none (Some x) None k = absurd k
kept_none (Some x) (Some y) k = sym k

-- ---- behind the last line that is taken

pub ends_behind : {p : Printing} {begin now : Held} {unread left held written : Option (List ℕ)} {k : ℕ} {waiting : List ℕ}
    → Waits p begin (streams unread left held written) waiting (IsNext k) now
    → k ≡ 1000000 → (left' : Option (List ℕ)) (e : Ending) → EndsBehind (p.first + 1000000) left left' e → Ends p begin now (streams unread left' held written) waiting e
ends_behind w past left' ending.Whole h = reads_part w left' (IsEnd left') [] _ h.0 refl (λ es n. (refl, h.1))
ends_behind {p = p} {now = now} {k = k} w past left' (ending.LogLine m why) h =
    (now, rw h.1 (reads_part w left' (IsBad p left' (p.first + 1000000)) (h.0 ∷ []) _ h.2 refl (bad_number p left' k h.0 (cases_eq h.0 10) past)))
ends_behind {now = now} {left = left} w past left' ending.CannotRead h =
    (now, reads_part w left' (λ es part. Lacks 10 part) [] _ (kept_none left left' h) refl (λ es n. tt))
ends_behind w past left' ending.OutOfMemory h = absurd h

-- What is printed of a log, line by line.
use Rattle.std.proofs.Common.{◌≡◌, Bool, true, false, ◌||◌, ℕ, ◌+◌, ◌-◌, ◌^◌, ◌≤◌, List, [], ◌∷◌, ◌++◌, length, Option, Some, None, refl, sym, ap, ◌∙◌, arith, inl, inr, append_assoc, append-nil, length-append, subst}
use Rattle.std.specs.Io.KnownBytes.{Appends, Consumes, IsAtEnd, Keeps}
use Rattle.std.proofs.KnownBytes.{Appends-nil, Appends-trans, Appends-kept, Consumes-nil, Consumes-trans, Keeps-refl, Keeps-trans}
use Rattle.snmpsec_io.specs.Transfer.{WritesFront}
use Rattle.snmpsec_replay.specs.Log.{LogEntry, IsLine}
use Rattle.snmpsec_replay.specs.Entries.{IsNoEntry}
use Rattle.capture_files.specs.Datagrams.{Printing, PrintsAs, streams}
use Rattle.capture_datagrams.specs.Datagrams.{status_of}
use Rattle.capture_datagrams.specs.Dumped.{refused_row}
use Rattle.capture_datagrams.specs.LogPrints.{AreEntries, IsEnd, IsLineNote, PrintsEntries, Reads, Stands, StopsEntry, StopsLog, StopsRefusal, TellsLog, WritesEntry, WritesRefusal}
use Rattle.capture_datagrams.specs.declared.datagrams.Unread.{Unread}
use Rattle.capture_datagrams.specs.declared.datagrams.Unread.TheVariants as unread

or-false : (a : Bool) → (a || false) ≡ a
or-false true = refl
or-false false = refl

or-assoc : (a b c : Bool) → ((a || b) || c) ≡ (a || (b || c))
or-assoc true b c = refl
or-assoc false b c = refl

-- ---- one line more

entries_more : (es : List LogEntry) (read line : List ℕ) (e : LogEntry) → AreEntries es read → IsLine line e → length line ≤ 131072
    → AreEntries (es ++ e ∷ []) (read ++ (line ++ 10 ∷ []))
entries_more [] read line e h says short = (line, [], says, short, ap (λ t. t ++ (line ++ 10 ∷ [])) h, refl)
entries_more (x ∷ es) read line e (l, rest, is, within, parts, later) says short = (
  l,
  rest ++ (line ++ 10 ∷ []),
  is,
  within,
  ap (λ t. t ++ (line ++ 10 ∷ [])) parts ∙ append_assoc l (10 ∷ rest) _,
  entries_more es rest line e later says short,
)

prints_more : (P : Printing) (n : ℕ) (es : List LogEntry) (text : List ℕ) (refused : Bool) (e : LogEntry) (line : List ℕ) (tells : Bool)
    → PrintsEntries P n es text refused → P (n + length es) e.moment e.datagram line tells → PrintsEntries P n (es ++ e ∷ []) (text ++ line) (refused || tells)
prints_more P n [] text refused e line tells h p =
    let number : n + length {A = LogEntry} [] ≡ n = omega arith in (
      line,
      tells,
      [],
      false,
      subst (λ k. P k e.moment e.datagram line tells) number p,
      (refl, refl),
      ap (λ t. t ++ line) h.0 ∙ sym (append-nil line),
      ap (λ r. r || tells) h.1 ∙ sym (or-false tells),
    )
prints_more P n (x ∷ es) text refused e line tells (first, one, later, others, printed, rest, text_is, refused_is) p =
    let number : n + length (x ∷ es) ≡ (n + 1) + length es = omega arith in (
      first,
      one,
      later ++ line,
      others || tells,
      printed,
      prints_more P (n + 1) es later others e line tells rest (subst (λ k. P k e.moment e.datagram line tells) number p),
      ap (λ t. t ++ line) text_is ∙ append_assoc first later line,
      ap (λ r. r || tells) refused_is ∙ or-assoc one others tells,
    )

-- ---- where it stands before line n

abbrev pub IsNext : ℕ → ℕ → List ℕ → Type 0
IsNext n count part = (part ≡ []) × (n ≡ count + 1)

pub starts : (P : Printing) (unread held untold : Option (List ℕ)) → Stands P (streams unread unread held held untold untold) (IsNext 1) false
starts P unread held untold = record {
  text = [];
  reads = record { entries = []; read = []; part = []; are_entries = refl; consumed = Consumes-nil unread; is_part = (refl, refl); prints = (refl, refl) };
  wrote = Appends-nil held;
  tells = Keeps-refl untold;
}

-- what follows the lines was read
reads_part : {P : Printing} {unread left : Option (List ℕ)} {n : ℕ} {text : List ℕ} {refused : Bool} → Reads P unread left (IsNext n) text refused
    → (left' : Option (List ℕ)) (Is : ℕ → List ℕ → Type 0) (part : List ℕ) → Consumes left left' part → ((count : ℕ) → n ≡ count + 1 → Is count part)
    → Reads P unread left' Is text refused
reads_part r left' Is part c says = record {
  entries = r.entries;
  read = r.read;
  part = part;
  are_entries = r.are_entries;
  consumed = Consumes-trans _ _ _ _ _ (rw (r.is_part.0, append-nil r.read) at r.consumed) c;
  is_part = says (length r.entries) r.is_part.1;
  prints = r.prints;
}

pub stands_at : {P : Printing} {unread left held written untold told : Option (List ℕ)} {n : ℕ} {refused : Bool}
    → Stands P (streams unread left held written untold told) (IsNext n) refused
    → (left' : Option (List ℕ)) (Is : ℕ → List ℕ → Type 0) (part : List ℕ) → Consumes left left' part → ((count : ℕ) → n ≡ count + 1 → Is count part)
    → Stands P (streams unread left' held written untold told) Is refused
stands_at s left' Is part c says = record { text = s.text; reads = reads_part s.reads left' Is part c says; wrote = s.wrote; tells = s.tells }

-- the next line was read, and its datagram printed
reads_entry : {P : Printing} {unread left : Option (List ℕ)} {n : ℕ} {text : List ℕ} {refused : Bool} → Reads P unread left (IsNext n) text refused
    → (left' : Option (List ℕ)) (line : List ℕ) (e : LogEntry) (printed : List ℕ) (tells : Bool)
    → IsLine line e → length line ≤ 131072 → Consumes left left' (line ++ 10 ∷ []) → P n e.moment e.datagram printed tells
    → Reads P unread left' (IsNext (n + 1)) (text ++ printed) (refused || tells)
reads_entry {P = P} {n = n} {text = text} {refused = refused} r left' line e printed tells says short c p =
    let longer : length (r.entries ++ e ∷ []) ≡ length r.entries + 1 = length-append r.entries (e ∷ []) in
    let number : n ≡ 1 + length r.entries = r.is_part.1 ∙ omega arith in
    record {
      entries = r.entries ++ e ∷ [];
      read = r.read ++ (line ++ 10 ∷ []);
      part = [];
      are_entries = entries_more r.entries r.read line e r.are_entries says short;
      consumed = rw (append-nil (r.read ++ (line ++ 10 ∷ []))) (Consumes-trans _ _ _ _ _ (rw (r.is_part.0, append-nil r.read) at r.consumed) c);
      is_part = (refl, ap (λ k. k + 1) r.is_part.1 ∙ ap (λ k. k + 1) (sym longer));
      prints = prints_more P 1 r.entries text refused e printed tells r.prints (subst (λ k. P k e.moment e.datagram printed tells) number p);
    }

pub prints_entry : {P : Printing} {unread left held written untold told : Option (List ℕ)} {n : ℕ} {refused : Bool}
    → Stands P (streams unread left held written untold told) (IsNext n) refused
    → (left' written' : Option (List ℕ)) (line : List ℕ) (e : LogEntry) (tells both : Bool)
    → IsLine line e → length line ≤ 131072 → Consumes left left' (line ++ 10 ∷ []) → WritesEntry P n e written written' tells → both ≡ (refused || tells)
    → Stands P (streams unread left' held written' untold told) (IsNext (n + 1)) both
prints_entry {P = P} {unread = unread} {n = n} s left' written' line e tells both says short c (printed, p, wrote) either = record {
  text = s.text ++ printed;
  reads = subst (λ b. Reads P unread left' (IsNext (n + 1)) (s.text ++ printed) b) (sym either) (reads_entry s.reads left' line e printed tells says short c p);
  wrote = Appends-trans _ _ _ _ _ s.wrote wrote;
  tells = s.tells;
}

-- what was kept and then grew
kept_grown : (a b c : Option (List ℕ)) (bs : List ℕ) → Keeps a b → Appends b c bs → Appends a c bs
kept_grown None b c bs k p = tt
kept_grown (Some xs) None c bs k p = absurd k
kept_grown (Some xs) (Some ys) None bs k p = absurd p
kept_grown (Some xs) (Some ys) (Some zs) bs k p = p ∙ ap (λ t. t ++ bs) k

kept_front : (a b c : Option (List ℕ)) (text : List ℕ) → Keeps a b → WritesFront b c text → WritesFront a c text
kept_front a b c text k (front, rest, parts, some, wrote) = (front, rest, parts, some, kept_grown a b c front k wrote)

grown_front : (held mid written : Option (List ℕ)) (text more : List ℕ) → Appends held mid text → WritesFront mid written more → WritesFront held written (text ++ more)
grown_front held mid written text more a (front, rest, parts, some, wrote) =
    (text ++ front, rest, ap (λ t. text ++ t) parts ∙ sym (append_assoc text front rest), some, Appends-trans _ _ _ _ _ a wrote)

-- ---- where it ends

-- nothing follows
pub ends : {P : Printing} {name : List ℕ} {unread left held written untold told : Option (List ℕ)} {n : ℕ} {refused : Bool}
    → Stands P (streams unread left held written untold told) (IsNext n) refused
    → (left' : Option (List ℕ)) (status : ℕ) → Consumes left left' [] → IsAtEnd left' → status ≡ status_of refused
    → TellsLog P name (streams unread left' held written untold told) status
ends s left' status c end is = inl (_, stands_at s left' (IsEnd left') [] c (λ count n. (refl, inl end)), is)

-- no line more has a number
pub ends_numbered : {P : Printing} {name : List ℕ} {unread left held written untold told : Option (List ℕ)} {n : ℕ} {refused : Bool}
    → Stands P (streams unread left held written untold told) (IsNext n) refused
    → (status : ℕ) → 2 ^ 64 - 1 ≤ n → status ≡ status_of refused
    → TellsLog P name (streams unread left held written untold told) status
ends_numbered {left = left} s status most is = inl (_, stands_at s left (IsEnd left) [] (Consumes-nil left) (λ count n. (refl, inr (omega (arith, n, most)))), is)

-- what follows is no line
no_line : {P : Printing} {unread left : Option (List ℕ)} {n : ℕ} {text : List ℕ} {refused : Bool} → (r : Reads P unread left (IsNext n) text refused)
    → (left' : Option (List ℕ)) (part : List ℕ) → Consumes left left' part → IsNoEntry left' part
    → Reads P unread left' (λ k part. (k ≡ length r.entries) × IsNoEntry left' part) text refused
no_line r left' part c none =
    reads_part r left' (λ k part. (k ≡ length r.entries) × IsNoEntry left' part) part c (λ count n. (let is = r.is_part.1 in omega (arith, n, is), none))

pub line_refused : {P : Printing} {name : List ℕ} {unread left held written untold told : Option (List ℕ)} {n : ℕ} {refused : Bool}
    → Stands P (streams unread left held written untold told) (IsNext n) refused
    → (left' written' told' : Option (List ℕ)) (part : List ℕ) (status : ℕ)
    → Consumes left left' part → IsNoEntry left' part → WritesRefusal name n written written' told told' status
    → TellsLog P name (streams unread left' held written' untold told') status
line_refused {name = name} {written = written} s left' written' told' part status c none (one, note, is_note, wrote, tells) =
    let number = s.reads.is_part.1 in
    inr (
      one,
      record {
        count = length s.reads.entries;
        text = s.text;
        refused = _;
        note = note;
        reads = no_line s.reads left' part c none;
        is_note = subst (λ k. IsLineNote k note) number is_note;
        wrote = Appends-trans _ _ _ _ _ s.wrote (subst (λ k. Appends written written' (refused_row name k)) number wrote);
        tells = kept_grown _ _ _ _ s.tells tells;
      },
    )

-- ---- where it stops

pub entry_stops : {P : Printing} (name : List ℕ) {unread left held written untold told : Option (List ℕ)} {n : ℕ} {refused : Bool}
    → Stands P (streams unread left held written untold told) (IsNext n) refused
    → (left' written' : Option (List ℕ)) (line : List ℕ) (e : LogEntry) (f : Unread)
    → IsLine line e → length line ≤ 131072 → Consumes left left' (line ++ 10 ∷ []) → StopsEntry P n e written written' f
    → StopsLog P name (streams unread left' held written' untold told) f
entry_stops name s left' written' line e unread.CannotRead says short c none = absurd none
entry_stops name s left' written' line e unread.CannotWrite says short c (printed, tells, p, wrote) =
    let r = reads_entry s.reads left' line e printed tells says short c p in
    inl (record {
      text = s.text ++ printed;
      refused = _;
      reads = record { entries = r.entries; read = r.read; part = r.part; are_entries = r.are_entries; consumed = r.consumed; is_part = r.is_part.0; prints = r.prints };
      wrote = grown_front _ _ _ _ _ s.wrote wrote;
      tells = s.tells;
    })
entry_stops name {left = left} s left' written' line e unread.OutOfMemory says short c kept = (
  left,
  _,
  record {
    text = s.text;
    reads = reads_part s.reads left (λ count part. part ≡ []) [] (Consumes-nil left) (λ count n. refl);
    wrote = Appends-kept _ _ _ _ s.wrote kept;
    tells = s.tells;
  },
)

pub refusal_stops : {P : Printing} (name : List ℕ) {unread left held written untold told : Option (List ℕ)} {n : ℕ} {refused : Bool}
    → Stands P (streams unread left held written untold told) (IsNext n) refused
    → (left' written' told' : Option (List ℕ)) (part : List ℕ) (f : Unread)
    → Consumes left left' part → IsNoEntry left' part → StopsRefusal name n written written' told told' f
    → StopsLog P name (streams unread left' held written' untold told') f
refusal_stops name s left' written' told' part unread.CannotRead c none stops = absurd stops
refusal_stops name {written = written} s left' written' told' part unread.CannotWrite c none (note, is_note, inl (front, kept)) =
    let number = s.reads.is_part.1 in
    inr (inl (record {
      count = length s.reads.entries;
      text = s.text;
      refused = _;
      note = note;
      reads = no_line s.reads left' part c none;
      is_note = subst (λ k. IsLineNote k note) number is_note;
      wrote = grown_front _ _ _ _ _ s.wrote (subst (λ k. WritesFront written written' (refused_row name k)) number front);
      tells = Keeps-trans _ _ _ s.tells kept;
    }))
refusal_stops name {written = written} s left' written' told' part unread.CannotWrite c none (note, is_note, inr (wrote, front)) =
    let number = s.reads.is_part.1 in
    inr (inr (record {
      count = length s.reads.entries;
      text = s.text;
      refused = _;
      note = note;
      reads = no_line s.reads left' part c none;
      is_note = subst (λ k. IsLineNote k note) number is_note;
      wrote = Appends-trans _ _ _ _ _ s.wrote (subst (λ k. Appends written written' (refused_row name k)) number wrote);
      tells = kept_front _ _ _ _ s.tells front;
    }))
refusal_stops name {left = left} s left' written' told' part unread.OutOfMemory c none (kept, kept_told) = (
  left,
  _,
  record {
    text = s.text;
    reads = reads_part s.reads left (λ count part. part ≡ []) [] (Consumes-nil left) (λ count n. refl);
    wrote = Appends-kept _ _ _ _ s.wrote kept;
    tells = Keeps-trans _ _ _ s.tells kept_told;
  },
)

-- what the printer prints now it would have printed at first
pub writes_as : (P Q : Printing) (n : ℕ) (e : LogEntry) (held written : Option (List ℕ)) (refused : Bool) → PrintsAs P Q → WritesEntry P n e held written refused
    → WritesEntry Q n e held written refused
writes_as P Q n e held written refused also (text, p, wrote) = (text, also _ _ _ _ _ p, wrote)

pub stops_as : (P Q : Printing) (n : ℕ) (e : LogEntry) (held written : Option (List ℕ)) (f : Unread) → PrintsAs P Q → StopsEntry P n e held written f
    → StopsEntry Q n e held written f
stops_as P Q n e held written unread.CannotRead also none = none
stops_as P Q n e held written unread.CannotWrite also (text, refused, p, wrote) = (text, refused, also _ _ _ _ _ p, wrote)
stops_as P Q n e held written unread.OutOfMemory also kept = kept

-- ---- the lines for a line that is none

pub refusal_written : (name : List ℕ) (n : ℕ) (held written untold told : Option (List ℕ)) (row row_octets note note_octets : List ℕ) → row ≡ refused_row name n → IsLineNote n note
    → row_octets ≡ row → note_octets ≡ note → Appends held written row_octets → Appends untold told note_octets → WritesRefusal name n held written untold told 1
refusal_written name n held written untold told row row_octets note note_octets is is_note octets_is note_is wrote tells =
    (refl, note, is_note, subst (Appends held written) (octets_is ∙ is) wrote, subst (Appends untold told) note_is tells)

pub row_stops : (name : List ℕ) (n : ℕ) (held written untold : Option (List ℕ)) (row row_octets note : List ℕ) → row ≡ refused_row name n → IsLineNote n note
    → row_octets ≡ row → WritesFront held written row_octets → StopsRefusal name n held written untold untold unread.CannotWrite
row_stops name n held written untold row row_octets note is is_note octets_is front = (note, is_note, inl (subst (WritesFront held written) (octets_is ∙ is) front, Keeps-refl untold))

pub note_stops : (name : List ℕ) (n : ℕ) (held written untold told : Option (List ℕ)) (row row_octets note note_octets : List ℕ) → row ≡ refused_row name n → IsLineNote n note
    → row_octets ≡ row → note_octets ≡ note → Appends held written row_octets → WritesFront untold told note_octets → StopsRefusal name n held written untold told unread.CannotWrite
note_stops name n held written untold told row row_octets note note_octets is is_note octets_is note_is wrote front =
    (note, is_note, inr (subst (Appends held written) (octets_is ∙ is) wrote, subst (WritesFront untold told) note_is front))

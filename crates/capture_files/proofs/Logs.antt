-- The log of a capture, item by item.
use Rattle.std.proofs.Common.{◌≡◌, ℕ, ◌+◌, ◌≤◌, Bool, List, [], ◌∷◌, ◌++◌, length, Option, Some, None, IfSome, inl, inr, refl, sym, ap, ◌∙◌, arith, append_assoc, append-nil, length-append, subst}
use Rattle.std.specs.Io.KnownBytes.{Appends, Consumes, Keeps}
use Rattle.std.proofs.KnownBytes.{Appends-nil, Appends-trans, Appends-kept, Consumes-nil, Consumes-trans, Consumes-whole}
use Rattle.snmpsec_io.specs.Transfer.{WritesFront}
use Rattle.capture_files.specs.Items.{Record}
use Rattle.capture_files.specs.Formats.{AreItems, HasBegun, IsItem, State, StopsItem, records_of}
use Rattle.capture_files.specs.Tally.{Counts, none_passed}
use Rattle.capture_files.specs.Datagrams.{Printing, PrintsAs, PrintsRecord, IsSortedRecord, note_of, count_of, Sorts, IsLogOf, streams, Stands, StopsWriting, WriteFails, StopsItems, WritesItem, WritesRecord, WritesRecordFront, StopsRecord, StopsWrite, IsEnd, IsLess, IsWholeItem}
use Rattle.capture_files.specs.declared.datagrams.Sorted.{Sorted}
use Rattle.capture_files.specs.declared.datagrams.Sorted.TheVariants.{Logged, Told, Counted}
use Rattle.capture_files.specs.declared.fault.CaptureFault.{CaptureFault}
use Rattle.capture_files.specs.declared.fault.CaptureFault.TheVariants as fault

-- ---- one item more

items_more : (s : State) (xs : List (Option Record)) (read octets : List ℕ) (x : Option Record) (mid t : State) → AreItems s xs read mid → IsItem mid octets x t
    → AreItems s (xs ++ x ∷ []) (read ++ octets) t
items_more s [] read octets x mid t h is =
    (octets, [], t, subst (λ q. IsItem q octets x t) h.1 is, ap (λ o. o ++ octets) h.0 ∙ sym (append-nil octets), (refl, refl))
items_more s (y ∷ ys) read octets x mid t (front, rest, next, first, parts, later) is = (
  front,
  rest ++ octets,
  next,
  first,
  ap (λ o. o ++ octets) parts ∙ append_assoc front rest octets,
  items_more next ys rest octets x mid t later is,
)

records_more : (xs : List (Option Record)) (r : Record) → records_of (xs ++ Some r ∷ []) ≡ records_of xs ++ r ∷ []
records_more [] r = refl
records_more (None ∷ xs) r = records_more xs r
records_more (Some x ∷ xs) r = ap (λ t. x ∷ t) (records_more xs r)

records_same : (xs : List (Option Record)) → records_of (xs ++ None ∷ []) ≡ records_of xs
records_same [] = refl
records_same (None ∷ xs) = records_same xs
records_same (Some x ∷ xs) = ap (λ t. x ∷ t) (records_same xs)

pub sorts_more : (P : Printing) (ports : List ℕ) (n : ℕ) (rs : List Record) (before : Counts) (log notes : List ℕ) (mid : Counts) (r : Record) (s : Sorted) (text : List ℕ) (refused : Bool)
    (after : Counts) → Sorts P ports n rs before log notes mid → IsSortedRecord ports r s → PrintsRecord P mid.datagrams s text refused → after ≡ count_of s refused mid
    → Sorts P ports n (rs ++ r ∷ []) before (log ++ text) (notes ++ note_of (n + length rs) s) after
sorts_more P ports n [] before log notes mid r s text refused after h is prints counts =
    let number : n + length {A = Record} [] ≡ n = omega arith in (
      s,
      text,
      refused,
      [],
      [],
      is,
      subst (λ c. PrintsRecord P c.datagrams s text refused) h.2 prints,
      ap (λ t. t ++ text) h.0 ∙ sym (append-nil _),
      ap (λ t. t ++ note_of (n + length {A = Record} []) s) h.1 ∙ ap (λ k. note_of k s) number ∙ sym (append-nil _),
      (refl, refl, counts ∙ ap (count_of s refused) h.2),
    )
sorts_more P ports n (x ∷ rs) before log notes mid r s text refused after (first, words, tells_refusal, more, told, sorted, printed, logs, tells, later) is prints counts =
    let number : n + length (x ∷ rs) ≡ (n + 1) + length rs = omega arith in (
      first,
      words,
      tells_refusal,
      more ++ text,
      told ++ note_of (n + length (x ∷ rs)) s,
      sorted,
      printed,
      ap (λ t. t ++ text) logs ∙ append_assoc words more _,
      ap (λ t. t ++ note_of (n + length (x ∷ rs)) s) tells ∙ append_assoc (note_of n first) told _,
      subst (λ k. Sorts P ports (n + 1) (rs ++ r ∷ []) (count_of first tells_refusal before) (more ++ text) (told ++ note_of k s) after) (sym number)
          (sorts_more P ports (n + 1) rs (count_of first tells_refusal before) more told mid r s text refused after later is prints counts),
    )

-- ---- before record n, which begins at a place

pub record IsBefore (begin n place : ℕ) (now state : State) (count : ℕ) (read part : List ℕ) : Type 0 where
  pub none : part ≡ []
  pub same : state ≡ now
  pub number : n ≡ count + 1
  pub at : place ≡ begin + length read

pub starts : (P : Printing) (ports : List ℕ) (s : State) (begin place : ℕ) (unread held untold : Option (List ℕ)) (passed : Counts) → passed ≡ none_passed → place ≡ begin
    → Stands P ports s (streams unread unread held held untold untold) (IsBefore begin 1 place s) passed
starts P ports s begin place unread held untold passed none at = record {
  items = [];
  state = s;
  read = [];
  part = [];
  log = [];
  notes = [];
  are_items = (refl, refl);
  sorts = (refl, refl, none);
  consumed = Consumes-nil unread;
  is_part = record { none = refl; same = refl; number = refl; at = omega (arith, at) };
  wrote = Appends-nil held;
  tells = Appends-nil untold;
}

-- a part was read behind
pub reads_part : {P : Printing} {ports : List ℕ} {s : State} {unread left held written untold told : Option (List ℕ)} {begin n place : ℕ} {now : State} {passed : Counts}
    → Stands P ports s (streams unread left held written untold told) (IsBefore begin n place now) passed
    → (left' : Option (List ℕ)) (IsPart : State → ℕ → List ℕ → List ℕ → Type 0) (part : List ℕ) → Consumes left left' part
    → ((count : ℕ) (read : List ℕ) → place ≡ begin + length read → IsPart now count read part)
    → Stands P ports s (streams unread left' held written untold told) IsPart passed
reads_part w left' IsPart part c p = record {
  items = w.items;
  state = w.state;
  read = w.read;
  part = part;
  log = w.log;
  notes = w.notes;
  are_items = w.are_items;
  sorts = w.sorts;
  consumed = Consumes-trans _ _ _ _ _ (rw (w.is_part.none, append-nil w.read) at w.consumed) c;
  is_part = subst (λ q. IsPart q (length (records_of w.items)) w.read part) (sym w.is_part.same) (p (length (records_of w.items)) w.read w.is_part.at);
  wrote = w.wrote;
  tells = w.tells;
}

-- ---- an item is taken

reads_none : {P : Printing} {ports : List ℕ} {s : State} {unread left held written untold told : Option (List ℕ)} {begin n place : ℕ} {now : State} {passed : Counts}
    → Stands P ports s (streams unread left held written untold told) (IsBefore begin n place now) passed
    → (left' written' told' : Option (List ℕ)) (octets : List ℕ) (t : State) (next : ℕ) (after : Counts) (place' : ℕ)
    → IsItem now octets None t → Consumes left left' octets → next ≡ n → after ≡ passed → Keeps written written' → Keeps told told' → place' ≡ place + length octets
    → Stands P ports s (streams unread left' held written' untold told') (IsBefore begin next place' t) after
reads_none {P = P} {ports = ports} w left' written' told' octets t next after place' is consumes number same kept quiet on =
    let further = length-append w.read octets in
    let at = w.is_part.at in
    let records = records_same w.items in
    let before = w.is_part.number in
    let count = ap length records in
    record {
      items = w.items ++ None ∷ [];
      state = t;
      read = w.read ++ octets;
      part = [];
      log = w.log;
      notes = w.notes;
      are_items = items_more _ w.items w.read octets None w.state t w.are_items (subst (λ q. IsItem q octets None t) (sym w.is_part.same) is);
      sorts = subst (λ rs. Sorts P ports 1 rs none_passed w.log w.notes after) (sym records) (subst (λ c. Sorts P ports 1 (records_of w.items) none_passed w.log w.notes c) (sym same) w.sorts);
      consumed = rw (append-nil (w.read ++ octets)) (Consumes-trans _ _ _ _ _ (rw (w.is_part.none, append-nil w.read) at w.consumed) consumes);
      is_part = record { none = refl; same = refl; number = omega (arith, number, before, count); at = omega (arith, on, at, further) };
      wrote = Appends-kept _ _ _ _ w.wrote kept;
      tells = Appends-kept _ _ _ _ w.tells quiet;
    }

reads_record : {P : Printing} {ports : List ℕ} {s : State} {unread left held written untold told : Option (List ℕ)} {begin n place : ℕ} {now : State} {passed : Counts}
    → Stands P ports s (streams unread left held written untold told) (IsBefore begin n place now) passed
    → (left' written' told' : Option (List ℕ)) (octets : List ℕ) (r : Record) (t : State) (next : ℕ) (after : Counts) (place' : ℕ)
    → IsItem now octets (Some r) t → Consumes left left' octets → next ≡ n + 1 → WritesRecord P ports r n passed after written written' told told'
    → place' ≡ place + length octets
    → Stands P ports s (streams unread left' held written' untold told') (IsBefore begin next place' t) after
reads_record {P = P} {ports = ports} {n = n} {passed = passed} w left' written' told' octets r t next after place' is consumes number wr on =
    let further = length-append w.read octets in
    let at = w.is_part.at in
    let records = records_more w.items r in
    let before = w.is_part.number in
    let longer = length-append (records_of w.items) (r ∷ []) in
    let count = ap length records in
    let k : n ≡ 1 + length (records_of w.items) = omega (arith, before) in
    record {
      items = w.items ++ Some r ∷ [];
      state = t;
      read = w.read ++ octets;
      part = [];
      log = w.log ++ wr.text;
      notes = w.notes ++ note_of n wr.sorted;
      are_items = items_more _ w.items w.read octets (Some r) w.state t w.are_items (subst (λ q. IsItem q octets (Some r) t) (sym w.is_part.same) is);
      sorts = subst (λ rs. Sorts P ports 1 rs none_passed (w.log ++ wr.text) (w.notes ++ note_of n wr.sorted) after) (sym records)
          (subst (λ j. Sorts P ports 1 (records_of w.items ++ r ∷ []) none_passed (w.log ++ wr.text) (w.notes ++ note_of j wr.sorted) after) (sym k)
          (sorts_more P ports 1 (records_of w.items) none_passed w.log w.notes passed r wr.sorted wr.text wr.refused after w.sorts wr.sorts wr.prints wr.counts));
      consumed = rw (append-nil (w.read ++ octets)) (Consumes-trans _ _ _ _ _ (rw (w.is_part.none, append-nil w.read) at w.consumed) consumes);
      is_part = record { none = refl; same = refl; number = omega (arith, number, before, count, longer); at = omega (arith, on, at, further) };
      wrote = Appends-trans _ _ _ _ _ w.wrote wr.wrote;
      tells = Appends-trans _ _ _ _ _ w.tells wr.tells;
    }

-- an item was read, and what it becomes is written
pub reads_item : {P : Printing} {ports : List ℕ} {s : State} {unread left held written untold told : Option (List ℕ)} {begin n place : ℕ} {now : State} {passed : Counts}
    → Stands P ports s (streams unread left held written untold told) (IsBefore begin n place now) passed
    → (left' written' told' : Option (List ℕ)) (octets : List ℕ) (x : Option Record) (t : State) (next : ℕ) (after : Counts) (place' : ℕ)
    → IsItem now octets x t → Consumes left left' octets → WritesItem P ports x n next passed after written written' told told' → place' ≡ place + length octets
    → Stands P ports s (streams unread left' held written' untold told') (IsBefore begin next place' t) after
reads_item w left' written' told' octets None t next after place' is consumes (number, same, kept, quiet) on =
    reads_none w left' written' told' octets t next after place' is consumes number same kept quiet on
reads_item w left' written' told' octets (Some r) t next after place' is consumes (number, wr) on =
    reads_record w left' written' told' octets r t next after place' is consumes number wr on

prints_as : (P Q : Printing) (n : ℕ) (text : List ℕ) (refused : Bool) (s : Sorted) → PrintsAs P Q → PrintsRecord P n s text refused → PrintsRecord Q n s text refused
prints_as P Q n text refused (Logged moment datagram) same p = same (n + 1) moment datagram.now text refused p
prints_as P Q n text refused (Told why) same p = p
prints_as P Q n text refused (Counted why) same p = p

-- ---- writing stops

front_more : (a b c : Option (List ℕ)) (text more : List ℕ) → Appends a b text → WritesFront b c more → WritesFront a c (text ++ more)
front_more a b c text more first (front, rest, cut, some, second) =
    (text ++ front, rest, ap (λ t. text ++ t) cut ∙ sym (append_assoc text front rest), some, Appends-trans _ _ _ _ _ first second)

stops_more : (a b c u v w : Option (List ℕ)) (log more notes told : List ℕ) → Appends a b log → Appends u v notes
    → StopsWriting b c more v w told → StopsWriting a c (log ++ more) u w (notes ++ told)
stops_more a b c u v w log more notes told wrote tells (inl (front, all)) = inl (front_more _ _ _ _ _ wrote front, Appends-trans _ _ _ _ _ tells all)
stops_more a b c u v w log more notes told wrote tells (inr (all, front)) = inr (Appends-trans _ _ _ _ _ wrote all, front_more _ _ _ _ _ tells front)

writes_front : {P : Printing} {ports : List ℕ} {s : State} {unread left held written untold told : Option (List ℕ)} {begin n place : ℕ} {now : State} {passed : Counts}
    → Stands P ports s (streams unread left held written untold told) (IsBefore begin n place now) passed
    → (left' written' told' : Option (List ℕ)) (octets : List ℕ) (r : Record) (t : State)
    → IsItem now octets (Some r) t → Consumes left left' octets → WritesRecordFront P ports r n passed.datagrams written written' told told'
    → WriteFails P ports s (streams unread left' held written' untold told')
writes_front {P = P} {ports = ports} {n = n} {passed = passed} w left' written' told' octets r t is consumes wr =
    let before = w.is_part.number in
    let k : n ≡ 1 + length (records_of w.items) = omega (arith, before) in
    let after = count_of wr.sorted wr.refused passed in
    record {
      items = w.items ++ Some r ∷ [];
      state = t;
      read = w.read ++ octets;
      log = w.log ++ wr.text;
      notes = w.notes ++ note_of n wr.sorted;
      passed = after;
      are_items = items_more _ w.items w.read octets (Some r) w.state t w.are_items (subst (λ q. IsItem q octets (Some r) t) (sym w.is_part.same) is);
      sorts = subst (λ rs. Sorts P ports 1 rs none_passed (w.log ++ wr.text) (w.notes ++ note_of n wr.sorted) after) (sym (records_more w.items r))
          (subst (λ j. Sorts P ports 1 (records_of w.items ++ r ∷ []) none_passed (w.log ++ wr.text) (w.notes ++ note_of j wr.sorted) after) (sym k)
          (sorts_more P ports 1 (records_of w.items) none_passed w.log w.notes passed r wr.sorted wr.text wr.refused after w.sorts wr.sorts wr.prints refl));
      consumed = Consumes-trans _ _ _ _ _ (rw (w.is_part.none, append-nil w.read) at w.consumed) consumes;
      stops = stops_more _ _ _ _ _ _ _ _ _ _ w.wrote w.tells wr.stops;
    }

stops_record : {P : Printing} {ports : List ℕ} {s : State} {unread left held written untold told : Option (List ℕ)} {begin n place : ℕ} {now : State} {passed : Counts}
    → Stands P ports s (streams unread left held written untold told) (IsBefore begin n place now) passed
    → (left' written' told' : Option (List ℕ)) (octets : List ℕ) (r : Record) (t : State)
    → IsItem now octets (Some r) t → Consumes left left' octets → (f : CaptureFault) → StopsRecord P ports r n passed.datagrams written written' told told' f
    → StopsItems P ports s begin (streams unread left' held written' untold told') f
stops_record w left' written' told' octets r t is consumes (fault.Octet place) stops = absurd stops
stops_record w left' written' told' octets r t is consumes fault.CannotRead stops = absurd stops
stops_record w left' written' told' octets r t is consumes fault.CannotWrite stops = writes_front w left' written' told' octets r t is consumes stops
stops_record {passed = passed} w left' written' told' octets r t is consumes fault.OutOfMemory (kept, quiet) = (
  passed,
  record {
    items = w.items;
    state = w.state;
    read = w.read;
    part = octets;
    log = w.log;
    notes = w.notes;
    are_items = w.are_items;
    sorts = w.sorts;
    consumed = Consumes-trans _ _ _ _ _ (rw (w.is_part.none, append-nil w.read) at w.consumed) consumes;
    is_part = (Some r, t, subst (λ q. IsItem q octets (Some r) t) (sym w.is_part.same) is);
    wrote = Appends-kept _ _ _ _ w.wrote kept;
    tells = Appends-kept _ _ _ _ w.tells quiet;
  },
)

-- an item was read, and writing what it becomes stopped
pub stops_item : {P : Printing} {ports : List ℕ} {s : State} {unread left held written untold told : Option (List ℕ)} {begin n place : ℕ} {now : State} {passed : Counts}
    → Stands P ports s (streams unread left held written untold told) (IsBefore begin n place now) passed
    → (left' written' told' : Option (List ℕ)) (octets : List ℕ) (x : Option Record) (t : State)
    → IsItem now octets x t → Consumes left left' octets → (f : CaptureFault) → StopsWrite P ports x n passed.datagrams written written' told told' f
    → StopsItems P ports s begin (streams unread left' held written' untold told') f
stops_item w left' written' told' octets None t is consumes f stops = absurd stops
stops_item w left' written' told' octets (Some r) t is consumes f stops = stops_record w left' written' told' octets r t is consumes f stops

-- the next item isn't read
pub stops_reading : {P : Printing} {ports : List ℕ} {s : State} {unread left held written untold told : Option (List ℕ)} {begin n place : ℕ} {now : State} {passed : Counts}
    → Stands P ports s (streams unread left held written untold told) (IsBefore begin n place now) passed
    → (left' : Option (List ℕ)) (f : CaptureFault) → StopsItem now left left' f → StopsItems P ports s begin (streams unread left' held written untold told) f
stops_reading w left' (fault.Octet place) stops = absurd stops
stops_reading w left' fault.CannotRead r = (_, reads_part w left' IsLess r.part r.consumed (λ count read at. (r.none, r.most)))
stops_reading w left' fault.CannotWrite stops = absurd stops
stops_reading w left' fault.OutOfMemory r = (_, reads_part w left' IsWholeItem r.part r.consumed (λ count read at. (r.item, r.next', r.is_item)))

pub next_number : (P : Printing) (ports : List ℕ) (x : Option Record) (n next : ℕ) (before after : Counts) (held written untold told : Option (List ℕ))
    → WritesItem P ports x n next before after held written untold told → next ≤ n + 1
next_number P ports None n next before after held written untold told (number, same, kept, quiet) = omega (arith, number)
next_number P ports (Some r) n next before after held written untold told (number, wr) = omega (arith, number)

-- ---- a printer that prints as another

pub writes_as : (P Q : Printing) (ports : List ℕ) (n next : ℕ) (before after : Counts) (held written untold told : Option (List ℕ)) (x : Option Record) → PrintsAs P Q
    → WritesItem P ports x n next before after held written untold told → WritesItem Q ports x n next before after held written untold told
writes_as P Q ports n next before after held written untold told None same w = w
writes_as P Q ports n next before after held written untold told (Some r) same (number, w) = (
  number,
  record {
    sorted = w.sorted;
    text = w.text;
    refused = w.refused;
    sorts = w.sorts;
    prints = prints_as P Q before.datagrams w.text w.refused w.sorted same w.prints;
    counts = w.counts;
    wrote = w.wrote;
    tells = w.tells;
  },
)

pub stops_as : (P Q : Printing) (ports : List ℕ) (n count : ℕ) (held written untold told : Option (List ℕ)) (x : Option Record) (f : CaptureFault) → PrintsAs P Q
    → StopsWrite P ports x n count held written untold told f → StopsWrite Q ports x n count held written untold told f
stops_as P Q ports n count held written untold told None f same w = w
stops_as P Q ports n count held written untold told (Some r) (fault.Octet place) same w = w
stops_as P Q ports n count held written untold told (Some r) fault.CannotRead same w = w
stops_as P Q ports n count held written untold told (Some r) fault.CannotWrite same w =
    record { sorted = w.sorted; text = w.text; refused = w.refused; sorts = w.sorts; prints = prints_as P Q count w.text w.refused w.sorted same w.prints; stops = w.stops }
stops_as P Q ports n count held written untold told (Some r) fault.OutOfMemory same w = w

-- ---- the whole

pub whole_log : (P : Printing) (ports : List ℕ) (s : State) (begin : ℕ) (unread behind left held written untold told : Option (List ℕ)) (passed : Counts)
    → HasBegun unread behind s begin → Stands P ports s (streams behind left held written untold told) (IsEnd left) passed
    → IfSome unread (λ capture. (lines : List ℕ) × (tells : List ℕ) × IsLogOf P ports capture lines tells passed × Appends held written lines × Appends untold told tells)
whole_log P ports s begin unread behind left held written untold told passed b w =
    let c = rw (w.is_part.0, append-nil w.read) at w.consumed in
    Consumes-whole unread left (b.front ++ w.read) _ (Consumes-trans _ _ _ _ _ b.consumed c) w.is_part.1 (
      w.log,
      w.notes,
      record { front = b.front; rest = w.read; begun = s; items = w.items; ended = w.state; parts = refl; is_beginning = b.is_beginning; are_items = w.are_items; sorts = w.sorts },
      w.wrote,
      w.tells,
    )

-- The listings of marks, and what has been read of a saved text.
use Rattle.std.proofs.Common.{◌≡◌, ◌≢◌, ℕ, zero, suc, ◌+◌, ◌<◌, ◌≤◌, List, [], ◌∷◌, ◌++◌, length, slice_index, OnOk, is_ok, ◌==◌, Result, Ok, Err, true, false, refl, sym, ap, ◌∙◌, arith, ◌⊎◌, inl, inr}
use Rattle.std.specs.List.{flat_map, AllByRecursion}
use Rattle.std.proofs.lemmas.List.{append_assoc, append-nil, length-append}
use Rattle.std.proofs.lemmas.Bool.{eqb-true, cases_lt}
use Rattle.std.specs.FinMap.{entries, from_entries, empty, len, len-entries}
use Rattle.engine_clock.specs.Engines.{engine_cmp}
use Rattle.engine_clock.specs.Marks.{SeenPair, Marks, learned}
use Rattle.engine_clock.specs.Listings.{AllFit, listing_by, Lists, BeginsWellBy, IsFirstFaultBy}
use Rattle.engine_clock.specs.Saved.{Entry, IsEntry, AreMarks, IsSeenAt, line, heading, listing, old_line, old_heading, Saves, BeginsWell, AreHeld, IsFirstFault, heading_in, line_in, FitsIn}
use Rattle.engine_clock.specs.Reading.{IsFaultIn}
use Rattle.engine_clock.specs.Faults.{IsFaultOf}
use Rattle.engine_clock.specs.declared.saved.Form.{Form}
use Rattle.engine_clock.specs.declared.saved.Form.TheVariants.{WithMoments, ReadAt}
use Rattle.engine_clock.specs.declared.saved.ClockFault.{ClockFault}
use Rattle.engine_clock.specs.declared.saved.ClockFault.TheVariants.{Line, OutOfMemory}
use Rattle.engine_clock.proofs.Lines.{one_line, line-not_nil}
use Rattle.engine_clock.proofs.Entries.{all_below, entries-empty, entries-learned, entries-from_entries, is_sorted-from}
use Rattle.engine_clock.proofs.Listings as listings

-- ---- listings in one form

abbrev pub listing_in : Form → Marks → List ℕ
listing_in f m = listing_by (heading_in f) (line_in f) m

abbrev pub ListsIn : Form → List ℕ → Marks → Type 0
ListsIn f text m = Lists (heading_in f) (line_in f) (FitsIn f) text m

abbrev FirstFaultIn : Form → List ℕ → ℕ → Type 0
FirstFaultIn f text n = IsFirstFaultBy (heading_in f) (line_in f) (FitsIn f) text n

pub one_listing_in : (f : Form) (p q : Marks) → AllFit (FitsIn f) p → AllFit (FitsIn f) q → listing_in f p ≡ listing_in f q → p ≡ q
one_listing_in f = listings.one_listing (heading_in f) (line_in f) (FitsIn f) (one_line f) (line-not_nil f)

-- the rest goes on with the line of an engine that is above all others
abbrev pub GoesOn : Form → Marks → List ℕ → Type 0
GoesOn f m rest = listings.GoesOn (heading_in f) (line_in f) (FitsIn f) (one_line f) (line-not_nil f) m rest

pub first_fault : (f : Form) (text rest : List ℕ) (p : Marks) → AllFit (FitsIn f) p → text ≡ listing_in f p ++ rest → rest ≢ [] → (GoesOn f p rest → ⊥)
    → FirstFaultIn f text (suc (suc (len p)))
first_fault f = listings.first_fault (heading_in f) (line_in f) (FitsIn f) (one_line f) (line-not_nil f)

no_heading_in : (f : Form) (text : List ℕ) → ((rest : List ℕ) → text ≢ heading_in f ++ rest) → FirstFaultIn f text 1
no_heading_in f = listings.no_heading (heading_in f) (line_in f) (FitsIn f) (one_line f) (line-not_nil f)

one_first_fault_in : (f : Form) (text : List ℕ) (m n : ℕ) → FirstFaultIn f text m → FirstFaultIn f text n → m ≡ n
one_first_fault_in f = listings.one_first_fault (heading_in f) (line_in f) (FitsIn f) (one_line f) (line-not_nil f)

pub one_listing : (p q : Marks) → AreMarks p → AreMarks q → listing p ≡ listing q → p ≡ q
one_listing = one_listing_in WithMoments

-- ---- the two forms

headings_differ : (a b : List ℕ) → heading ++ a ≡ old_heading ++ b → ⊥
headings_differ a b e = let wrong : 50 ≡ 49 = ap (λ t. slice_index t 12) e in cc wrong

new_is_not_old : (text a b : List ℕ) → text ≡ heading ++ a → text ≡ old_heading ++ b → ⊥
new_is_not_old text a b new old = headings_differ a b (sym new ∙ old)

-- a text saves one map
pub one_saved : (now : ℕ) (text : List ℕ) (p q : Marks) → Saves now text p → Saves now text q → p ≡ q
one_saved now text p q (inl a) (inl b) = one_listing_in WithMoments p q a.0 b.0 (sym a.1 ∙ b.1)
one_saved now text p q (inl a) (inr b) = absurd (new_is_not_old text _ _ a.1 b.1)
one_saved now text p q (inr a) (inl b) = absurd (new_is_not_old text _ _ b.1 a.1)
one_saved now text p q (inr a) (inr b) = one_listing_in (ReadAt now) p q a.0 b.0 (sym a.1 ∙ b.1)

fits_seen : (now : ℕ) (es : List Entry) → AllByRecursion (IsSeenAt now) es → AllByRecursion IsEntry es
fits_seen now [] h = tt
fits_seen now (e ∷ es) h = (h.0.0, fits_seen now es h.1)

-- what is saved is within its bounds
pub AreMarks-saved : (now : ℕ) (text : List ℕ) (p : Marks) → Saves now text p → AreMarks p
AreMarks-saved now text p (inl a) = a.0
AreMarks-saved now text p (inr a) = fits_seen now (entries p) a.0

more_text : (f : Form) (text rest : List ℕ) (m : Marks) → text ≡ listing_in f m ++ rest → text ≡ heading_in f ++ (flat_map (line_in f) (entries m) ++ rest)
more_text f text rest m e = e ∙ append_assoc (heading_in f) (flat_map (line_in f) (entries m)) rest

old_not_begun : (now : ℕ) (text a : List ℕ) (n : ℕ) → text ≡ heading ++ a → BeginsWellBy old_heading old_line (IsSeenAt now) text (suc n) → ⊥
old_not_begun now text a n new w = new_is_not_old text a _ new (more_text (ReadAt now) text w.3.0 w.0 w.3.1)

new_not_begun : (now : ℕ) (text a : List ℕ) (n : ℕ) → text ≡ old_heading ++ a → BeginsWellBy heading line IsEntry text (suc n) → ⊥
new_not_begun now text a n old w = new_is_not_old text _ a (more_text WithMoments text w.3.0 w.0 w.3.1) old

either_well : {A B : Type 0} → A ⊎ B → (A → ⊥) → (B → ⊥) → ⊥
either_well (inl a) f g = f a
either_well (inr b) f g = g b

-- the first fault in the form of the heading is that of the text
pub fault_new : (now : ℕ) (text a : List ℕ) (n : ℕ) → text ≡ heading ++ a → FirstFaultIn WithMoments text n → IsFirstFault now text n
fault_new now text a zero new h = cc h.before.1
fault_new now text a (suc n) new h = record {
  before = (h.before.0, h.before.1, inl h.before.2);
  at = λ w. either_well w h.at (old_not_begun now text a n new);
  whole = λ marks s. either_well s (λ l. h.whole marks l.0 l.1) (λ l. new_is_not_old text a _ new l.1);
}

pub fault_old : (now : ℕ) (text a : List ℕ) (n : ℕ) → text ≡ old_heading ++ a → FirstFaultIn (ReadAt now) text n → IsFirstFault now text n
fault_old now text a zero old h = cc h.before.1
fault_old now text a (suc n) old h = record {
  before = (h.before.0, h.before.1, inr h.before.2);
  at = λ w. either_well w (new_not_begun now text a n old) h.at;
  whole = λ marks s. either_well s (λ l. new_is_not_old text _ a l.1 old) (λ l. h.whole marks l.0 l.1);
}

pub fault_of_new : (now : ℕ) (text a : List ℕ) (fault : ClockFault) → text ≡ heading ++ a → IsFaultIn WithMoments text fault → IsFaultOf now text fault
fault_of_new now text a (Line n) new h = fault_new now text a n new h
fault_of_new now text a OutOfMemory new h = inl h

pub fault_of_old : (now : ℕ) (text a : List ℕ) (fault : ClockFault) → text ≡ old_heading ++ a → IsFaultIn (ReadAt now) text fault → IsFaultOf now text fault
fault_of_old now text a (Line n) old h = fault_old now text a n old h
fault_of_old now text a OutOfMemory old h = inr h

-- the first line is that of neither version
pub no_heading : (now : ℕ) (text : List ℕ) → ((rest : List ℕ) → text ≢ heading ++ rest) → ((rest : List ℕ) → text ≢ old_heading ++ rest) → IsFirstFault now text 1
no_heading now text no_new no_old =
    let new = no_heading_in WithMoments text no_new in
    let old = no_heading_in (ReadAt now) text no_old in
    record {
      before = (0, refl, inl tt);
      at = λ w. either_well w new.at old.at;
      whole = λ marks s. either_well s (λ l. new.whole marks l.0 l.1) (λ l. old.whole marks l.0 l.1);
    }

-- ---- a text has one first fault

fewer : (now : ℕ) (text : List ℕ) (m n : ℕ) → m ≤ n → BeginsWell now text n → BeginsWell now text m
fewer now text m n l (inl w) = inl (listings.fewer heading line IsEntry (one_line WithMoments) (line-not_nil WithMoments) text m n l w)
fewer now text m n l (inr w) = inr (listings.fewer old_heading old_line (IsSeenAt now) (one_line (ReadAt now)) (line-not_nil (ReadAt now)) text m n l w)

not_earlier : (now : ℕ) (text : List ℕ) (m n : ℕ) → IsFirstFault now text m → IsFirstFault now text n → ¬ (m < n)
not_earlier now text m n first second less =
    let k = second.before in
    let there : m ≤ k.0 = omega (arith, k.1) in
    first.at (fewer now text m k.0 there k.2)

pub one_first_fault : (now : ℕ) (text : List ℕ) (m n : ℕ) → IsFirstFault now text m → IsFirstFault now text n → m ≡ n
one_first_fault now text m n first second =
    let a = not_earlier now text m n first second in
    let b = not_earlier now text n m second first in
    elim (cases_lt m n) [ inl less ↦ absurd (a less) | inr le ↦ elim (cases_lt n m) [ inl more ↦ absurd (b more) | inr ge ↦ omega arith ] ]

-- ---- what has been read

-- the text is the listing of the map, and the rest
pub record ReadSoFar (f : Form) (text : List ℕ) (m : Marks) (rest : List ℕ) : Type 0 where
  pub fits : AllFit (FitsIn f) m
  pub read : text ≡ listing_in f m ++ rest

pub none_read : (f : Form) (text rest : List ℕ) → text ≡ heading_in f ++ rest → ReadSoFar f text empty rest
none_read f text rest e = record {
  fits = rw entries-empty tt;
  read = e ∙ ap (λ t. t ++ rest) (sym (append-nil (heading_in f))) ∙ ap (λ es. (heading_in f ++ flat_map (line_in f) es) ++ rest) (sym entries-empty);
}

lines-push : (f : Form) (es : List Entry) (x : Entry) → flat_map (line_in f) (es ++ x ∷ []) ≡ flat_map (line_in f) es ++ line_in f x
lines-push f [] x = append-nil (line_in f x)
lines-push f (e ∷ es) x = ap (λ t. line_in f e ++ t) (lines-push f es x) ∙ sym (append_assoc (line_in f e) (flat_map (line_in f) es) (line_in f x))

AllFit-push : (P : Entry → Type 0) (es : List Entry) (x : Entry) → AllByRecursion P es → P x → AllByRecursion P (es ++ x ∷ [])
AllFit-push P [] x h p = (p, tt)
AllFit-push P (e ∷ es) x h p = (h.0, AllFit-push P es x h.1 p)

pub one_read : (f : Form) (text rest after : List ℕ) (m m' : Marks) (e : Entry) → ReadSoFar f text m rest → FitsIn f e
    → all_below (entries m) e.0 ≡ true → rest ≡ line_in f e ++ after → m' ≡ learned e.0 e.1 m → ReadSoFar f text m' after
one_read f text rest after m m' e so_far fits above left made = rw made record {
  fits = rw (entries-learned m e above) (AllFit-push (FitsIn f) (entries m) e so_far.fits fits);
  read = so_far.read ∙ ap (λ t. listing_in f m ++ t) left ∙ sym (append_assoc (listing_in f m) (line_in f e) after)
      ∙ ap (λ t. t ++ after) (append_assoc (heading_in f) (flat_map (line_in f) (entries m)) (line_in f e) ∙ ap (λ t. heading_in f ++ t) (sym (lines-push f (entries m) e)) ∙ ap (λ es. heading_in f ++ flat_map (line_in f) es) (sym (entries-learned m e above)));
}

pub len-learned : (m : Marks) (e : Entry) → all_below (entries m) e.0 ≡ true → len (learned e.0 e.1 m) ≡ suc (len m)
len-learned m e above =
    let longer = ap length (entries-learned m e above) ∙ length-append (entries m) (e ∷ []) in
    let a = len-entries (learned e.0 e.1 m) in
    let b = len-entries m in
    omega arith

-- an entry that goes on: the text begins well at least up to its line
pub entry_well : (f : Form) (text rest after : List ℕ) (m : Marks) (e : Entry) → ReadSoFar f text m rest → FitsIn f e → true ≡ all_below (entries m) e.0
    → rest ≡ line_in f e ++ after → BeginsWellBy (heading_in f) (line_in f) (FitsIn f) text 2
entry_well f text rest after m e so_far fits above left =
    let more = learned e.0 e.1 m in
    let read = one_read f text rest after m more e so_far fits (sym above) left refl in
    let longer = len-learned m e (sym above) in
    listings.fewer (heading_in f) (line_in f) (FitsIn f) (one_line f) (line-not_nil f) text 2 (suc (len more)) (omega arith) (more, read.fits, refl, (after, read.read))

-- ---- what the entries of a map say of it

module _ (es : List Entry) (h : AreHeld es) where
  pub entries-held : entries (from_entries {R = engine_cmp} es) ≡ es
  entries-held = entries-from_entries es (is_sorted-from es h.rising)

  pub AreMarks-held : AreMarks (from_entries es)
  AreMarks-held = rw entries-held h.fits

  pub listing-held : listing (from_entries es) ≡ heading ++ flat_map line es
  listing-held = ap (λ es. heading ++ flat_map line es) entries-held

pub len-empty_marks : len (empty {X = SeenPair} {R = engine_cmp}) ≡ 0
len-empty_marks = len-entries (empty {X = SeenPair} {R = engine_cmp}) ∙ ap length entries-empty

-- ---- a turn of the loop

-- the line that comes is not of an engine above all others
pub not_above : (f : Form) (m : Marks) (rest after : List ℕ) (e : Entry) → FitsIn f e → rest ≡ line_in f e ++ after → false ≡ all_below (entries m) e.0
    → GoesOn f m rest → ⊥
not_above f m rest after e fits left test w =
    let same = (one_line f e w.0 after w.3.0 fits w.1 (sym left ∙ w.3.1)).0 in
    let wrong : false ≡ true = test ∙ ap (λ (x : Entry). all_below (entries m) x.0) same ∙ w.2 in
    cc wrong

line-long : (f : Form) (e : Entry) → 0 ≢ length (line_in f e)
line-long f e h = line-not_nil f e [] (nil_of (line_in f e) (sym h) ∙ sym (append-nil (line_in f e)))
  where
    nil_of : (xs : List ℕ) → length xs ≡ 0 → [] ≡ xs
    nil_of [] e = refl
    nil_of (x ∷ xs) e = absurd (omega arith)

pub one_turn : (f : Form) (text rest after : List ℕ) (m m' : Marks) (e : Entry) (n : ℕ) → ReadSoFar f text m rest → n ≡ suc (suc (len m))
    → n + length rest ≤ length text + 2 → FitsIn f e → true ≡ all_below (entries m) e.0 → rest ≡ line_in f e ++ after → m' ≡ learned e.0 e.1 m
    → record { so_far : ReadSoFar f text m' after; number : n + 1 ≡ suc (suc (len m')); bound : n + 1 + length after ≤ length text + 2 }
one_turn f text rest after m m' e n so_far number bound fits above left made =
    let more = len-learned m e (sym above) in
    let more' : len m' ≡ suc (len m) = ap len made ∙ more in
    let long : length rest ≡ length (line_in f e) + length after = ap length left ∙ length-append (line_in f e) after in
    let some = line-long f e in
    record {
      so_far = one_read f text rest after m m' e so_far fits (sym above) left made;
      number = omega arith;
      bound = omega arith;
    }

pub not_empty : (rest : List ℕ) → false ≡ (length rest == 0) → rest ≢ []
not_empty rest test e = let wrong : false ≡ true = test ∙ ap (λ (r : List ℕ). length r == 0) e in cc wrong

pub is_empty : (rest : List ℕ) → true ≡ (length rest == 0) → rest ≡ []
is_empty [] test = refl
is_empty (x ∷ rest) test = let zero = eqb-true (length (x ∷ rest)) 0 (sym test) in absurd (omega arith)

pub on_ok : {P : Type 0} {T E : Type 0} (r : Result T E) → is_ok r ≡ true → OnOk r P → P
on_ok (Ok x) is h = h
on_ok (Err e) is h = cc is

-- all has been read
pub all_read : (f : Form) (text rest : List ℕ) (m : Marks) → ReadSoFar f text m rest → true ≡ (length rest == 0) → ListsIn f text m
all_read f text rest m so_far test =
    (so_far.fits, so_far.read ∙ ap (λ r. listing_in f m ++ r) (is_empty rest test) ∙ append-nil (listing_in f m))

pub given_back : (f : Form) (text rest : List ℕ) (m p : Marks) → ReadSoFar f text m rest → true ≡ (length rest == 0) → ListsIn f text p → m ≡ p
given_back f text rest m p so_far test listed =
    let read = all_read f text rest m so_far test in
    one_listing_in f m p read.0 listed.0 (sym read.1 ∙ listed.1)

pub heading_long : (f : Form) (text rest : List ℕ) → text ≡ heading_in f ++ rest → length text ≡ 14 + length rest
heading_long WithMoments text rest e = ap length e ∙ length-append heading rest
heading_long (ReadAt now) text rest e = ap length e ∙ length-append old_heading rest

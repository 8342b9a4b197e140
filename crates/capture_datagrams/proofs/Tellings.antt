-- What is reported of a capture: the last line, and the ports that are asked for.
use Rattle.std.proofs.Common.{◌≡◌, ℕ, ◌<◌, ◌≤◌, ◌^◌, zero, suc, List, [], ◌∷◌, ◌++◌, length, take, drop, map, decimal, codes, Option, slice_index_or, refl, sym, ap, ◌∙◌, arith, subst, inl, inr}
use Rattle.std.specs.List.{All}
use Rattle.std.specs.Io.KnownBytes.{Appends, Consumes, IsAtEnd}
use Rattle.std.proofs.KnownBytes.{Appends-nil, Keeps-refl}
use Rattle.capture_files.specs.Datagrams.{Printing, StopsBy, Streams}
use Rattle.capture_files.specs.Tally.{Counts}
use Rattle.capture_files.specs.declared.fault.CaptureFault.TheVariants as capture
use Rattle.capture_datagrams.specs.declared.datagrams.Unread.{Unread}
use Rattle.capture_datagrams.specs.declared.datagrams.Unread.TheVariants as unread
use Rattle.capture_datagrams.specs.declared.texts.TextForm.{TextForm}
use Rattle.capture_datagrams.specs.Texts.{IsTextOf, StopsText, TellsText, WritesBoth, WritesPart}
use Rattle.capture_datagrams.specs.Datagrams.{IsWhole, Leaves, LosesLine, LosesPassed, Tells, TellsNot, line_of, refused_line, status_of, IsFirstNoPort, IsNoPort}

-- ---- the last line

pub line_made : (words : List ℕ) → (length words ≡ 0 → ⊥) → line_of words ≡ codes "snmpsec: passed over: " ++ (words ++ codes "\n")
line_made [] some = absurd (some refl)
line_made (x ∷ xs) some = refl

pub tells_beside : (P : Printing) (ports name : List ℕ) (s : Streams) (told : Option (List ℕ)) (status : ℕ) (line : List ℕ)
    → Leaves P ports name (record s { told = told }) status [] line → Appends told s.told line → Tells P ports name s status
tells_beside P ports name s told status line leaves tells = record {
  written = s.written;
  told = told;
  in_log = [];
  beside = line;
  leaves = leaves;
  wrote = Appends-nil s.written;
  tells = tells;
}

pub tells_in_log : (P : Printing) (ports name : List ℕ) (s : Streams) (written : Option (List ℕ)) (status : ℕ) (line : List ℕ)
    → Leaves P ports name (record s { written = written }) status line [] → Appends written s.written line → Tells P ports name s status
tells_in_log P ports name s written status line leaves wrote = record {
  written = written;
  told = s.told;
  in_log = line;
  beside = [];
  leaves = leaves;
  wrote = wrote;
  tells = Appends-nil s.told;
}

pub lost_beside : (P : Printing) (ports name : List ℕ) (s : Streams) (told : Option (List ℕ)) (passed : Counts) (fault : Unread)
    → IsWhole P ports (record s { told = told }) passed → LosesPassed passed told s.told fault → TellsNot P ports name s fault
lost_beside P ports name s told passed unread.CannotRead whole lost = absurd lost
lost_beside P ports name s told passed unread.CannotWrite whole lost = inr (
  status_of passed.refused,
  inl (record {
    written = s.written;
    told = told;
    in_log = [];
    beside = lost.0;
    leaves = inl (passed, refl, whole, refl, lost.1);
    wrote = Appends-nil s.written;
    tells = lost.2;
  }),
)
lost_beside P ports name s told passed unread.OutOfMemory whole lost = inr (record {
  written = s.written;
  told = told;
  leaves = inl (passed, whole);
  wrote = Keeps-refl s.written;
  tells = lost;
})

pub lost_in_log : (P : Printing) (ports name : List ℕ) (s : Streams) (written : Option (List ℕ)) (place : ℕ) (fault : Unread)
    → StopsBy P ports (record s { written = written }) (capture.Octet place) → LosesLine written s.written (refused_line name place) fault → TellsNot P ports name s fault
lost_in_log P ports name s written place unread.CannotRead stops lost = absurd lost
lost_in_log P ports name s written place unread.CannotWrite stops lost = inr (
  1,
  inr (record {
    written = written;
    told = s.told;
    in_log = refused_line name place;
    beside = [];
    leaves = inr (refl, place, stops, refl, refl);
    wrote = lost;
    tells = Appends-nil s.told;
  }),
)
lost_in_log P ports name s written place unread.OutOfMemory stops lost = inr (record {
  written = written;
  told = s.told;
  leaves = inr (place, stops);
  wrote = lost;
  tells = Keeps-refl s.told;
})

-- ---- texts

pub text_told : (P : Printing) (form : TextForm) (moment : ℕ) (name : List ℕ) (s : Streams) (text line note : List ℕ) (status told : ℕ) → Consumes s.unread s.left text × IsAtEnd s.left
    → length text ≤ 16777216 → IsTextOf P form moment name text line note told → status ≡ told → WritesBoth s line note → TellsText P form moment name s status
text_told P form moment name s text line note status told read short is same wrote = record {
  text = text;
  line = line;
  note = note;
  consumed = read.0;
  end = read.1;
  short = short;
  is_line = subst (λ k. IsTextOf P form moment name text line note k) (sym same) is;
  ends = wrote;
}

pub text_lost : (P : Printing) (form : TextForm) (moment : ℕ) (name : List ℕ) (s : Streams) (text line note : List ℕ) (told : ℕ) (f : Unread) → Consumes s.unread s.left text × IsAtEnd s.left
    → length text ≤ 16777216 → IsTextOf P form moment name text line note told → f ≡ unread.CannotWrite → WritesPart s line note → StopsText P form moment name s f
text_lost P form moment name s text line note told f read short is same wrote =
    subst (StopsText P form moment name s) (sym same)
    (told, record { text = text; line = line; note = note; consumed = read.0; end = read.1; short = short; is_line = is; ends = wrote })

-- ---- the ports

split : {X : Type 0} (f : X → List ℕ) (xs : List X) (i : ℕ) (d : X) → i < length xs
    → map f xs ≡ map f (take i xs) ++ f (slice_index_or xs i d) ∷ map f (drop (suc i) xs)
split f [] i d below = absurd (omega arith)
split f (y ∷ ys) zero d below = refl
split f (y ∷ ys) (suc i) d below = ap (λ (words : List (List ℕ)). f y ∷ words) (split f ys i d (omega arith))

-- the words before are ports, and this one is none
pub first_no_port : {X : Type 0} (f : X → List ℕ) (xs : List X) (i : ℕ) (d : X) (ports : List ℕ) → i < length xs
    → map decimal ports ≡ map f (take i xs) → All (λ port. port < 2 ^ 16) ports → IsNoPort (f (slice_index_or xs i d))
    → IsFirstNoPort (map f xs) (f (slice_index_or xs i d))
first_no_port f xs i d ports below same are none = record {
  before = ports;
  after = map f (drop (suc i) xs);
  parts = split f xs i d below ∙ ap (λ (words : List (List ℕ)). words ++ f (slice_index_or xs i d) ∷ map f (drop (suc i) xs)) (sym same);
  ports = are;
  none = none;
}

-- A list of files, cut at the one that is looked at.
use Rattle.std.proofs.Common.{◌≡◌, ℕ, zero, suc, ◌+◌, ◌<◌, ◌≤◌, List, [], ◌∷◌, ◌++◌, length, take, drop, get_or, Result, Ok, Err, refl, sym, ap, arith, add-one, inl, inr}
use Rattle.std.specs.Prelude.{map, IfOk}
use Rattle.engine_clock.specs.Marks.{Marks}
use Rattle.engine_clock.specs.Faults.{IsFaultOf}
use Rattle.engine_clock.specs.declared.saved.ClockFault.{ClockFault}
use Rattle.engine_clock.specs.declared.saved.ClockFault.TheVariants as clock_faults
use Rattle.engine_clock.specs.Merging.{IsMergeOf, HoldsMergeOf}
use Rattle.snmpsec_output.specs.Merge.{NamedText, texts_of, TellsFault, MergeAnswers}
use Rattle.snmpsec_output.specs.Questions.{Printed}

-- A file stands at this index.
pub record StandsAt (files : List NamedText) (i : ℕ) (file : NamedText) : Type 0 where
  pub split : files ≡ take i files ++ file ∷ drop (i + 1) files
  pub taken : take (i + 1) (texts_of files) ≡ take i (texts_of files) ++ file.1 ∷ []

split_at : {A B : Type 0} (f : A → B) (xs : List A) (i : ℕ) (x : A) → x ≡ get_or xs i x → i < length xs → map f xs ≡ take i (map f xs) ++ f x ∷ drop (suc i) (map f xs)
split_at f [] i x e h = absurd (omega arith)
split_at f (y ∷ ys) zero x e h = ap (λ z. f z ∷ map f ys) (sym e)
split_at f (y ∷ ys) (suc i) x e h = ap (λ zs. f y ∷ zs) (split_at f ys i x e (omega arith))

taken_at : {A : Type 0} (f : A → NamedText) (xs : List A) (i : ℕ) (x : A) → x ≡ get_or xs i x → i < length xs → take (suc i) (texts_of (map f xs)) ≡ take i (texts_of (map f xs)) ++ (f x).1 ∷ []
taken_at f [] i x e h = absurd (omega arith)
taken_at f (y ∷ ys) zero x e h = ap (λ z. (f z).1 ∷ []) (sym e)
taken_at f (y ∷ ys) (suc i) x e h = ap (λ zs. (f y).1 ∷ zs) (taken_at f ys i x e (omega arith))

pub stands_at : {A : Type 0} (f : A → NamedText) (xs : List A) (i : ℕ) (x : A) → x ≡ get_or xs i x → i < length xs → StandsAt (map f xs) i (f x)
stands_at f xs i x e h = record { split = rw add-one (split_at f xs i x e h); taken = rw add-one (taken_at f xs i x e h) }

texts_taken : (i : ℕ) (files : List NamedText) → take i (texts_of files) ≡ texts_of (take i files)
texts_taken zero files = refl
texts_taken (suc i) [] = refl
texts_taken (suc i) (file ∷ files) = ap (λ texts. file.1 ∷ texts) (texts_taken i files)

-- the file that isn't saved clocks is reported
told : (moment : ℕ) (files : List NamedText) (i : ℕ) (file : NamedText) (held : Marks) (fault : ClockFault) (printed : Printed) → StandsAt files i file
    → HoldsMergeOf moment (take i (texts_of files)) held → IsFaultOf moment file.1 fault → TellsFault file.0 fault printed → MergeAnswers moment files printed
told moment files i file held (clock_faults.Line line) printed at holds fault tells = inr (record {
  before = take i files;
  file = file;
  after = drop (i + 1) files;
  parts = at.split;
  held = held;
  accepted = rw (← texts_taken i files) holds;
  line = line;
  fault = fault;
  out = tells.0;
  err = tells.1;
  status = tells.2;
})
told moment files i file held clock_faults.OutOfMemory printed at holds fault tells = absurd tells

pub if_told : {A E : Type 0} (r : Result A E) (printed : A → Printed) (moment : ℕ) (files : List NamedText) (i : ℕ) (file : NamedText) (held : Marks) (fault : ClockFault) → StandsAt files i file
    → HoldsMergeOf moment (take i (texts_of files)) held → IsFaultOf moment file.1 fault → IfOk r (λ x. TellsFault file.0 fault (printed x)) → IfOk r (λ x. MergeAnswers moment files (printed x))
if_told (Ok x) printed moment files i file held fault at holds is_fault tells = told moment files i file held fault (printed x) at holds is_fault tells
if_told (Err e) printed moment files i file held fault at holds is_fault tells = tt

all_texts : {A : Type 0} (f : A → NamedText) (xs : List A) (i : ℕ) → length xs ≤ i → take i (texts_of (map f xs)) ≡ texts_of (map f xs)
all_texts f [] zero h = refl
all_texts f [] (suc i) h = refl
all_texts f (x ∷ xs) zero h = absurd (omega arith)
all_texts f (x ∷ xs) (suc i) h = ap (λ texts. (f x).1 ∷ texts) (all_texts f xs i (omega arith))

-- all files are saved clocks
pub all_merged : {A : Type 0} (moment : ℕ) (f : A → NamedText) (xs : List A) (i : ℕ) (printed : Printed) → length xs ≤ i → printed.status ≡ 0 → printed.err ≡ []
    → IsMergeOf moment (take i (texts_of (map f xs))) printed.out → MergeAnswers moment (map f xs) printed
all_merged moment f xs i printed h nothing quiet merged = inl (record { out = rw (← all_texts f xs i h) merged; err = quiet; status = nothing })

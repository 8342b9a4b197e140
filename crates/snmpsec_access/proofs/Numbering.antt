-- A text whose lines are numbered one after another.
use Rattle.std.proofs.Common.{◌≡◌, ◌≢◌, ◌==◌, ℕ, ◌+◌, true, false, List, [], ◌∷◌, ◌++◌, length, ◌≤◌, length-append, refl, sym, ap, ◌∙◌, append_assoc, append-nil, arith}
use Rattle.std.specs.List.{starts_with}
use Rattle.std.proofs.lemmas.Bool.{cond-true, cond-false}
use Rattle.snmp_ber.specs.Splits.{Lacks, IsSplit}
use Rattle.snmpsec_access.specs.Headings.{lines, put_front, numbers_of}

not_equal : (a b : ℕ) → a ≢ b → (a == b) ≡ false
not_equal a b ne = grind arith

on_front : (front rest : List ℕ) → Lacks 10 front → lines (front ++ 10 ∷ rest) ≡ front ∷ lines rest
on_front [] rest lacks = refl
on_front (x ∷ front) rest lacks =
    cond-false (x == 10) _ _ (not_equal x 10 lacks.0) ∙ ap (put_front x) (on_front front rest lacks.1)

pub split : (text front rest : List ℕ) → IsSplit 10 text front rest → lines text ≡ front ∷ lines rest
split text front rest is = ap lines is.parts ∙ on_front front rest is.first

pub last : (text : List ℕ) → Lacks 10 text → lines text ≡ text ∷ []
last [] lacks = refl
last (x ∷ text) lacks = cond-false (x == 10) _ _ (not_equal x 10 lacks.0) ∙ ap (put_front x) (last text lacks.1)

-- the numbers so far, and those of the lines that are left
abbrev pub Numbered : List ℕ → List ℕ → ℕ → List ℕ → List ℕ → Type 0
Numbered begin text n left numbers = numbers_of begin 1 (lines text) ≡ numbers ++ numbers_of begin n (lines left)

pub one_told : (begin text left line later numbers : List ℕ) (n : ℕ) → Numbered begin text n left numbers → IsSplit 10 left line later
    → starts_with (◌==◌) line begin ≡ true → Numbered begin text (n + 1) later (numbers ++ n ∷ [])
one_told begin text left line later numbers n so is told =
    so ∙ ap (λ ls. numbers ++ numbers_of begin n ls) (split left line later is)
    ∙ ap (λ ns. numbers ++ ns) (cond-true (starts_with (◌==◌) line begin) _ _ told)
    ∙ sym (append_assoc numbers (n ∷ []) (numbers_of begin (n + 1) (lines later)))

pub none_told : (begin text left line later numbers : List ℕ) (n : ℕ) → Numbered begin text n left numbers → IsSplit 10 left line later
    → starts_with (◌==◌) line begin ≡ false → Numbered begin text (n + 1) later numbers
none_told begin text left line later numbers n so is untold =
    so ∙ ap (λ ls. numbers ++ numbers_of begin n ls) (split left line later is)
    ∙ ap (λ ns. numbers ++ ns) (cond-false (starts_with (◌==◌) line begin) _ _ untold)

pub last_told : (begin text left numbers : List ℕ) (n : ℕ) → Numbered begin text n left numbers → Lacks 10 left
    → starts_with (◌==◌) left begin ≡ true → numbers ++ n ∷ [] ≡ numbers_of begin 1 (lines text)
last_told begin text left numbers n so lacks told =
    sym (so ∙ ap (λ ls. numbers ++ numbers_of begin n ls) (last left lacks) ∙ ap (λ ns. numbers ++ ns) (cond-true (starts_with (◌==◌) left begin) _ _ told))

pub last_untold : (begin text left numbers : List ℕ) (n : ℕ) → Numbered begin text n left numbers → Lacks 10 left
    → starts_with (◌==◌) left begin ≡ false → numbers ≡ numbers_of begin 1 (lines text)
last_untold begin text left numbers n so lacks untold =
    sym (so ∙ ap (λ ls. numbers ++ numbers_of begin n ls) (last left lacks) ∙ ap (λ ns. numbers ++ ns) (cond-false (starts_with (◌==◌) left begin) _ _ untold)
    ∙ append-nil numbers)

pub shorter : (left line later : List ℕ) (n most : ℕ) → n + length left ≤ most → IsSplit 10 left line later → n + 1 + length later ≤ most
shorter left line later n most fits is = omega (arith, fits, ap length is.parts ∙ length-append line (10 ∷ later))

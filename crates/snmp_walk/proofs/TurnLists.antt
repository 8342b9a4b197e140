-- Turns, one after another.
use Rattle.std.specs.Prelude.{◌≡◌, ◌⊎◌, ◌<◌, ◌≤◌, ◌+◌, ◌-◌, ℕ, zero, suc, List, [], ◌∷◌, ◌++◌, All, length, drop}
use Rattle.std.proofs.Common.{refl, sym, ap, ◌∙◌, inl, inr, arith}
use Rattle.std.proofs.lemmas.List.{drop_all}
use Rattle.std.proofs.lemmas.List.Elements.{All-append}
use Rattle.snmp_walk.specs.Turns.{repeated}

-- nothing, however often
pub repeated_nothing : (n : ℕ) → repeated n [] ≡ []
repeated_nothing zero = refl
repeated_nothing (suc n) = repeated_nothing n

-- once, and then once less
pub repeated_once : (n : ℕ) (numbers : List ℕ) → 0 < n → repeated n numbers ≡ numbers ++ repeated (n - 1) numbers
repeated_once zero numbers some = absurd (omega arith)
repeated_once (suc n) numbers some = let less : suc n - 1 ≡ n = omega arith in ap (λ k. numbers ++ repeated k numbers) (sym less)

pub all_repeated : (P : ℕ → Type 0) (n : ℕ) (numbers : List ℕ) → All P numbers → All P (repeated n numbers)
all_repeated P zero numbers all = λ k d below. absurd (omega (arith, below))
all_repeated P (suc n) numbers all = All-append P numbers (repeated n numbers) all (all_repeated P n numbers all)

-- a repetition that is over, and the next one
pub begun_again : (front again : List ℕ) (at left : ℕ) → length again ≤ at → 0 < left → front ++ (again ++ repeated (left - 1) again) ≡ front ++ (drop at again ++ repeated left again)
begun_again front again at left over more =
    ap (λ numbers. front ++ numbers) (sym (repeated_once left again more) ∙ ap (λ numbers. numbers ++ repeated left again) (sym (drop_all at again over)))

-- there is someone, or nobody is left
pub someone_left : (once again : List ℕ) (at n : ℕ) → length once ≤ at → (0 < length again) ⊎ (drop at once ++ (again ++ repeated n again) ≡ [])
someone_left once [] at n past = inr (ap (λ numbers. numbers ++ repeated n []) (drop_all at once past) ∙ repeated_nothing n)
someone_left once (x ∷ again) at n past = inl (omega arith)

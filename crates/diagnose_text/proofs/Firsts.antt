-- The first variables of a PDU, one after another.
use Rattle.std.proofs.Common.{◌≡◌, ◌∙◌, ◌+◌, ◌<◌, ◌≤◌, ℕ, zero, suc, List, [], ◌∷◌, ◌++◌, length, take, min, ap, subst, refl, arith}
use Rattle.std.specs.List.{AllZip}
use Rattle.std.proofs.lemmas.List.{length-append}
use Rattle.snmp_msg.specs.Variables.{Variable}
use Rattle.diagnose_text.specs.Facts.{AreFirst, greatest_count, variables_told}

take_short : {X : Type 0} (n : ℕ) (xs ys : List X) → n ≤ length xs → take n (xs ++ ys) ≡ take n xs
take_short zero xs ys h = refl
take_short (suc n) [] ys h = absurd (omega (arith, h))
take_short (suc n) (x ∷ xs) ys h = ap (λ t. x ∷ t) (take_short n xs ys (omega (arith, h)))

take_whole : {X : Type 0} (n : ℕ) (xs : List X) → length xs ≤ n → take n xs ≡ xs
take_whole zero [] h = refl
take_whole zero (x ∷ xs) h = absurd (omega (arith, h))
take_whole (suc n) [] h = refl
take_whole (suc n) (x ∷ xs) h = ap (λ t. x ∷ t) (take_whole n xs (omega (arith, h)))

and_zip : {X Y : Type 0} (R : X → Y → Type 0) (xs : List X) (ys : List Y) (x : X) (y : Y) → AllZip R xs ys → R x y → AllZip R (xs ++ x ∷ []) (ys ++ y ∷ [])
and_zip R [] [] x y h is = (is, tt)
and_zip R [] (b ∷ ys) x y h is = absurd h
and_zip R (a ∷ xs) [] x y h is = absurd h
and_zip R (a ∷ xs) (b ∷ ys) x y h is = (h.0, and_zip R xs ys x y h.1 is)

same_lengths : {X Y : Type 0} (R : X → Y → Type 0) (xs : List X) (ys : List Y) → AllZip R xs ys → length xs ≡ length ys
same_lengths R [] [] h = refl
same_lengths R [] (b ∷ ys) h = absurd h
same_lengths R (a ∷ xs) [] h = absurd h
same_lengths R (a ∷ xs) (b ∷ ys) h = ap suc (same_lengths R xs ys h.1)

take_size : {X : Type 0} (n : ℕ) (xs : List X) → length (take n xs) ≡ min n (length xs)
take_size zero xs = omega arith
take_size (suc n) [] = omega arith
take_size (suc n) (x ∷ xs) = ap suc (take_size n xs) ∙ omega arith

pub none_yet : {X : Type 0} (R : Variable → X → Type 0) → AreFirst R [] [] 0
none_yet R = record { first = tt; left = refl }

-- one more is reported
pub one_told : {X : Type 0} (R : Variable → X → Type 0) (seen : List Variable) (told later : List X) (more : ℕ) (v : Variable) (x : X) → length told < variables_told → AreFirst R seen told more → R v x
    → later ≡ told ++ x ∷ [] → AreFirst R (seen ++ v ∷ []) later more
one_told R seen told later more v x room h is pushed =
    let few : length seen < 8 = omega (arith, room, same_lengths R (take 8 seen) told h.first, take_size 8 seen) in
    let whole : take 8 seen ≡ seen = take_whole 8 seen (omega (arith, few)) in
    let longer : length (seen ++ v ∷ []) ≡ length seen + 1 = length-append seen (v ∷ []) in
    record {
      first = rw (pushed, take_whole 8 (seen ++ v ∷ []) (omega (arith, few, longer))) (and_zip R seen told v x (subst (λ vs. AllZip R vs told) whole h.first) is);
      left = omega (arith, h.left, few, longer);
    }

-- one more is counted
pub one_counted : {X : Type 0} (R : Variable → X → Type 0) (seen : List Variable) (told : List X) (more later : ℕ) (v : Variable) → (length told < variables_told → ⊥) → AreFirst R seen told more
    → later ≡ min (more + 1) greatest_count → AreFirst R (seen ++ v ∷ []) told later
one_counted R seen told more later v full h counted =
    let many : 8 ≤ length seen = omega (arith, full, same_lengths R (take 8 seen) told h.first, take_size 8 seen) in
    let longer : length (seen ++ v ∷ []) ≡ length seen + 1 = length-append seen (v ∷ []) in
    record {
      first = rw (take_short 8 seen (v ∷ []) many) h.first;
      left = omega (arith, h.left, many, longer, counted);
    }

-- Parts that are joined to one text.
use Rattle.std.proofs.Common.{◌≡◌, ◌+◌, ◌<◌, List, [], ◌∷◌, ◌++◌, length, map, take, slice_index, refl, sym, ap, ◌∙◌, arith, append_assoc, append-nil, length-take-le, ℕ}
use Rattle.std.specs.Prelude.{IsSorted}
use Rattle.std.specs.declared.cmp.Ordering.{Ordering}
use Rattle.std.proofs.lemmas.List.{get_or-map, length-map, take_more}
use Rattle.capture_files.specs.Tally.{count_part, link_parts, link_word}
use Rattle.std.specs.List.{join_by, flat_map}

flat_mapped : {X : Type 0} (f : X → List ℕ) (sep : List ℕ) (xs : List X) → flat_map (λ x. sep ++ f x) xs ≡ flat_map (λ part. sep ++ part) (map f xs)
flat_mapped f sep [] = refl
flat_mapped f sep (x ∷ xs) = ap (λ t. (sep ++ f x) ++ t) (flat_mapped f sep xs)

-- the texts of values are joined as texts
pub join_mapped : {X : Type 0} (f : X → List ℕ) (sep : List ℕ) (xs : List X) → join_by f sep xs ≡ join_by (λ part. part) sep (map f xs)
join_mapped f sep [] = refl
join_mapped f sep (x ∷ xs) = ap (λ t. f x ++ t) (flat_mapped f sep xs)

-- four lists put behind one another
pub four : {X : Type 0} (a b c d m0 m1 m2 m3 m4 : List X) → m0 ≡ [] → m1 ≡ m0 ++ a → m2 ≡ m1 ++ b → m3 ≡ m2 ++ c → m4 ≡ m3 ++ d → m4 ≡ a ++ (b ++ (c ++ d))
four a b c d m0 m1 m2 m3 m4 e0 e1 e2 e3 e4 =
    e4
    ∙ (ap (λ t. t ++ d) (e3 ∙ ap (λ t. t ++ c) (e2 ∙ ap (λ t. t ++ b) (e1 ∙ ap (λ t. t ++ a) e0)))
    ∙ (append_assoc (a ++ b) c d ∙ append_assoc a b (c ++ d)))

-- what is in order by its texts has texts that are in order
pub sorted_mapped : {X : Type 0} (f : X → List ℕ) (cmp : List ℕ → List ℕ → Ordering) (xs : List X) → IsSorted (λ x y. cmp (f x) (f y)) xs → IsSorted cmp (map f xs)
sorted_mapped f cmp [] sorted = λ k d low high. absurd (omega (arith, high))
sorted_mapped f cmp (x ∷ xs) sorted = λ k d low high.
    let long = length-map (x ∷ xs) f in
    rw (get_or-map f (x ∷ xs) (k + 1) x d (omega (arith, high, long)), get_or-map f (x ∷ xs) k x d (omega (arith, high, long))) (sorted k x low (omega (arith, high, long)))

-- ---- the types of links

link_parts_more : (link : ℕ) (xs : List ℕ) (y : ℕ) → link_parts link (xs ++ y ∷ []) ≡ link_parts link xs ++ count_part (link_word (link + length xs)) y
link_parts_more link [] y =
    let same : link + length {A = ℕ} [] ≡ link = omega arith in append-nil _ ∙ ap (λ n. count_part (link_word n) y) (sym same)
link_parts_more link (x ∷ xs) y =
    let same : link + length (x ∷ xs) ≡ (link + 1) + length xs = omega arith in
    ap (λ t. count_part (link_word link) x ++ t) (link_parts_more (link + 1) xs y) ∙ sym (append_assoc (count_part (link_word link) x) (link_parts (link + 1) xs) _)
    ∙ ap (λ n. (count_part (link_word link) x ++ link_parts (link + 1) xs) ++ count_part (link_word n) y) (sym same)

pub next_link : (counts : List ℕ) (k : ℕ) (was now before : List (List ℕ)) → k < length counts → was ≡ before ++ link_parts 0 (take k counts)
    → now ≡ was ++ count_part (link_word k) (slice_index counts k) → now ≡ before ++ link_parts 0 (take (k + 1) counts)
next_link counts k was now before within is more =
    let size = length-take-le k counts (omega (arith, within)) in
    let step : take (k + 1) counts ≡ take k counts ++ slice_index counts k ∷ [] = take_more counts k 0 within in
    let word : 0 + length (take k counts) ≡ k = omega (arith, size) in
    more ∙ ap (λ t. t ++ count_part (link_word k) (slice_index counts k)) is ∙ append_assoc before (link_parts 0 (take k counts)) _
    ∙ ap (λ t. before ++ t) (ap (λ n. link_parts 0 (take k counts) ++ count_part (link_word n) (slice_index counts k)) (sym word)
    ∙ sym (link_parts_more 0 (take k counts) (slice_index counts k)) ∙ ap (link_parts 0) (sym step))

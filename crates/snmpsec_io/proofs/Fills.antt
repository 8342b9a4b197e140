-- A buffer that is filled piece by piece.
use Rattle.std.proofs.Common.{◌≡◌, ℕ, ◌+◌, ◌-◌, ◌≤◌, List, ◌++◌, arith, length, take, slice_range, sym, ap, ◌∙◌, subst, le_refl, drop_at, length-take-le, Option}
use Rattle.std.proofs.lemmas.Slice.{take-put_mid_below}
use Rattle.std.specs.Io.KnownBytes.{Consumes}
use Rattle.std.proofs.KnownBytes.{Consumes-trans}
use borrow.Rule.Slice.PartMut.{put_mid, post_of}
use lib.Seq.{take-add, take-append-le}

take_split : (a b : ℕ) (old new : List ℕ) → a ≤ b → take a new ≡ take a old → take a old ++ slice_range new a b ≡ take b new
take_split a b old new h front =
    let same : a + (b - a) ≡ b = omega arith in
    ap (λ l. l ++ slice_range new a b) (sym front) ∙ sym (take-add a (b - a) new) ∙ ap (λ n. take n new) same

slice_range-put_mid : (a k n : ℕ) (xs ys : List ℕ) → a ≤ length xs → n ≤ length ys → slice_range (put_mid a k xs ys) a (a + n) ≡ take n ys
slice_range-put_mid a k n xs ys within fits =
    let same : (a + n) - a ≡ n = omega arith in
    let after = post_of a k xs in
    ap (take ((a + n) - a)) (drop_at (take a xs) (ys ++ after) a (length-take-le a xs within)) ∙ ap (λ m. take m (ys ++ after)) same ∙ take-append-le n ys after fits

-- n octets more were read behind the front
pub filled_more : (a b c : Option (List ℕ)) (k n : ℕ) (xs ys : List ℕ) (room : ℕ) → k ≤ length xs → n ≤ length ys
    → Consumes a b (take k xs) → Consumes b c (take n ys) → Consumes a c (take (k + n) (put_mid k room xs ys))
filled_more a b c k n xs ys room within fits before read =
    let part = slice_range-put_mid k room n xs ys within fits in
    let joined = take_split k (k + n) xs (put_mid k room xs ys) (omega arith) (take-put_mid_below _ _ _ _ _ (le_refl _) within) in
    subst (Consumes a c) (ap (λ l. take k xs ++ l) (sym part) ∙ joined) (Consumes-trans _ _ _ _ _ before read)

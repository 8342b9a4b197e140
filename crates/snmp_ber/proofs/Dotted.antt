-- The dotted text of arcs.
use Rattle.std.proofs.Common.{◌≡◌, ℕ, zero, suc, ◌<◌, ◌≤◌, ◌^◌, eqb, false, List, [], ◌∷◌, ◌++◌, length, get_or, refl, sym, ap, ◌∙◌, arith, decimal}
use Rattle.std.specs.Prelude.{map}
use Rattle.std.specs.List.{AllByRecursion, All, slice_split, join_with_byte, flat_map}
use Rattle.std.specs.Str.Parse.{AllDigits, digits_value}
use Rattle.std.proofs.lemmas.Str.Parse.{IsNumeralModel, numerals_by_value, tells_digits, not_in_digits}
use Rattle.std.proofs.lemmas.Fmt.{digits_decimal, decimal_injective}
use Rattle.std.proofs.lemmas.Bool.{ne_eqb}
use Rattle.std.proofs.lemmas.List.{append-nil, length-map}
use Rattle.std.proofs.lemmas.List.Elements.{All-from_get_or}
use Rattle.std.proofs.lemmas.List.Splits.{slice_split_at, slice_split_none, join_with_byte-slice_split, length-slice_split}
use Rattle.snmp_ber.specs.Oid.{AreArcs, dotted}

own : IsNumeralModel (AllDigits 10) (digits_value 10)
own = numerals_by_value (AllDigits 10) tells_digits

no_dot : (n : ℕ) → n < 2 ^ 64 → All (λ (b : ℕ). eqb b 46 ≡ false) (decimal n)
no_dot n h = All-from_get_or (λ (b : ℕ). eqb b 46 ≡ false) (decimal n) 0 (λ i l. ne_eqb _ _ (not_in_digits own (decimal n) 46 (digits_decimal own n h) (λ r. omega (arith, r.0)) i l))

pub split_dotted : (a : ℕ) (arcs : List ℕ) → AllByRecursion (λ arc. arc < 2 ^ 32) (a ∷ arcs) → slice_split (λ (b : ℕ). eqb b 46) (dotted (a ∷ arcs)) ≡ map decimal (a ∷ arcs)
split_dotted a [] h = slice_split_none (λ (b : ℕ). eqb b 46) (decimal a) (no_dot a (omega (arith, h.0)))
split_dotted a (b ∷ arcs) h =
    slice_split_at (λ (b : ℕ). eqb b 46) (decimal a) 46 (dotted (b ∷ arcs)) (no_dot a (omega (arith, h.0))) refl
    ∙ ap (λ (pieces : List (List ℕ)). decimal a ∷ pieces) (split_dotted b arcs h.1)

-- the pieces of the dotted text of arcs
pub dotted_pieces : (text arcs : List ℕ) → AreArcs arcs → text ≡ dotted arcs → slice_split (λ (b : ℕ). eqb b 46) text ≡ map decimal arcs
dotted_pieces text [] h e = absurd (omega (arith, h.some))
dotted_pieces text (a ∷ arcs) h e = ap (slice_split (λ (b : ℕ). eqb b 46)) e ∙ split_dotted a arcs h.limit

-- the text whose pieces are decimals is dotted
pub dotted_from : (text arcs : List ℕ) → AllByRecursion (λ arc. arc < 2 ^ 32) arcs → length arcs ≤ 128 → slice_split (λ (b : ℕ). eqb b 46) text ≡ map decimal arcs
    → AreArcs arcs × (text ≡ dotted arcs)
dotted_from text arcs limit most e =
    let some : 1 ≤ length arcs = omega (arith, length-slice_split (λ (b : ℕ). eqb b 46) text, ap length e, length-map arcs decimal) in
    (record { some = some; most = most; limit = limit }, sym (join_with_byte-slice_split 46 text) ∙ ap (join_with_byte 46) e)

pub same_arcs : (xs ys : List ℕ) → AllByRecursion (λ arc. arc < 2 ^ 32) xs → AllByRecursion (λ arc. arc < 2 ^ 32) ys → map decimal xs ≡ map decimal ys → xs ≡ ys
same_arcs [] [] a b e = refl
same_arcs [] (y ∷ ys) a b e = absurd cc
same_arcs (x ∷ xs) [] a b e = absurd cc
same_arcs (x ∷ xs) (y ∷ ys) a b e =
    let first : decimal x ≡ decimal y = ap (λ (ps : List (List ℕ)). get_or ps 0 []) e in
    let others : map decimal xs ≡ map decimal ys = cc in
    rw (decimal_injective x y (omega (arith, a.0)) (omega (arith, b.0)) first, same_arcs xs ys a.1 b.1 others) refl

-- the decimal of each of the arcs in its place
pub piece_at : (arcs : List ℕ) (i : ℕ) (d : List ℕ) → AllByRecursion (λ arc. arc < 2 ^ 32) arcs → i < length arcs → (arc : ℕ) × (arc < 2 ^ 32) × (get_or (map decimal arcs) i d ≡ decimal arc)
piece_at [] i d h l = absurd (omega arith)
piece_at (a ∷ arcs) zero d h l = (a, h.0, refl)
piece_at (a ∷ arcs) (suc i) d h l = piece_at arcs i d h.1 (omega arith)

-- the same text, as it is printed
abbrev pub dot_before : ℕ → List ℕ
dot_before arc = 46 ∷ decimal arc

pub dotted_printed : (a : ℕ) (arcs : List ℕ) → dotted (a ∷ arcs) ≡ decimal a ++ flat_map dot_before arcs
dotted_printed a [] = sym (append-nil (decimal a))
dotted_printed a (b ∷ arcs) = ap (λ (t : List ℕ). decimal a ++ (46 ∷ t)) (dotted_printed b arcs)

-- The parts of a word, and what is reported of them.
use Rattle.std.proofs.Common.{◌≡◌, ℕ, ◌<◌, ◌≤◌, ◌+◌, ◌^◌, suc, List, [], ◌∷◌, ◌++◌, length, take, decimal, Some, refl, ap, ◌∙◌, subst, arith}
use Rattle.std.specs.Prelude.{◌==◌, map, min}
use Rattle.std.proofs.Math.Nat.{min-eq_left}
use Rattle.std.proofs.lemmas.List.Sums.{count_by-le-length}
use Rattle.std.proofs.lemmas.List.Splits.{length-slice_split}
use Rattle.std.specs.List.{AllByRecursion, slice_get}
use Rattle.snmpsec_output.specs.declared.variables.VariableFault.{VariableFault}
use Rattle.snmpsec_output.specs.declared.variables.VariableFault.TheVariants as faults
use Rattle.snmpsec_output.specs.Variables.{IsNumber, TellsNumber, TellsVariable, parts}

pub are_numbers : (arcs : List ℕ) (words : List (List ℕ)) → map decimal arcs ≡ words → AllByRecursion (λ arc. arc < 2 ^ 32) arcs → AllByRecursion IsNumber words
are_numbers [] words e h = subst (AllByRecursion IsNumber) e tt
are_numbers (a ∷ arcs) words e h = subst (AllByRecursion IsNumber) e ((a, h.0, refl), are_numbers arcs (map decimal arcs) refl h.1)

pub one_more : (arcs : List ℕ) (n : ℕ) → AllByRecursion (λ arc. arc < 2 ^ 32) arcs → n < 2 ^ 32
    → (more : List ℕ) × (map decimal more ≡ map decimal arcs ++ decimal n ∷ []) × AllByRecursion (λ arc. arc < 2 ^ 32) more
one_more [] n h l = (n ∷ [], refl, (l, tt))
one_more (a ∷ arcs) n h l = let m = one_more arcs n h.1 l in (a ∷ m.0, ap (λ (t : List (List ℕ)). decimal a ∷ t) m.1, (h.0, m.2))

-- A part's number is counted as it is, since a word has fewer parts than a counter has room for.
pub counted : (word : List ℕ) (count place next : ℕ) → length word < 2 ^ 63 → place < length (parts word) → count ≡ place → next ≡ min (count + 1) 18446744073709551615 → next ≡ suc place
counted word count place next short within is e =
    let room : count + 1 ≤ 18446744073709551615 = omega (arith, short, within, is, length-slice_split (λ octet. octet == 46) word, count_by-le-length (λ octet. octet == 46) word) in
    e ∙ min-eq_left room ∙ omega (arith, is)

-- what is reported of a part is reported of its word
pub told_of_part : (word : List ℕ) (fault : VariableFault) (place : ℕ) (part : List ℕ) → slice_get (parts word) place ≡ Some part
    → AllByRecursion IsNumber (take place (parts word)) → TellsNumber (suc place) part fault → TellsVariable word fault
told_of_part word (faults.Missing at) place part there before told = record { place = place; part = part; there = there; before = before; told = told }
told_of_part word (faults.NoNumber at found) place part there before told = record { place = place; part = part; there = there; before = before; told = told }
told_of_part word (faults.OutOfRange at found) place part there before told = record { place = place; part = part; there = there; before = before; told = told }
told_of_part word _ place part there before told = absurd told

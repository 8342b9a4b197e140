-- The words of a question, and the line of its answer.
use Rattle.std.proofs.Common.{◌≡◌, ℕ, zero, suc, List, [], ◌∷◌, ◌++◌, get_or, refl, ap, arith}
use Rattle.std.specs.Prelude.{map, codes}
use Rattle.vacm_core.specs.declared.access.Access.{Access}
use Rattle.vacm_core.specs.declared.access.Access.TheVariants as answers
use Rattle.snmpsec_access.specs.Words.{access_word}

-- an element of a list that is mapped
pub at_map : {A B : Type 0} (f : A → B) (xs : List A) (k : ℕ) (d : A) → get_or (map f xs) k (f d) ≡ f (get_or xs k d)
at_map f [] zero d = refl
at_map f [] (suc k) d = refl
at_map f (x ∷ xs) zero d = refl
at_map f (x ∷ xs) (suc k) d = at_map f xs k d

-- no answer is the line for a text that isn't TOML
pub no_refusal : (answer : Access) → access_word answer ++ codes "\n" ≡ codes "refused config toml\n" → ⊥
no_refusal answers.AccessAllowed e = let bad : 97 ≡ 114 = ap (λ (t : List ℕ). get_or t 0 0) e in absurd (omega (arith, bad))
no_refusal _ e = let bad : 110 ≡ 114 = ap (λ (t : List ℕ). get_or t 0 0) e in absurd (omega (arith, bad))

-- Tests of tokens.
use Rattle.std.specs.Prelude.{◌≡◌, ℕ, true, false, Option, Some, None}
use Rattle.std.specs.Option.{option_eq}
use Rattle.std.proofs.Common.{refl, sym, ap, ◌∙◌, eqb}
use Rattle.std.proofs.lemmas.Bool.{eqb-true, eq-eqb}

pub has_token : (token : Option ℕ) (t : ℕ) → true ≡ option_eq eqb token (Some t) → token ≡ Some t
has_token None t is = cc is
has_token (Some x) t is = ap Some (eqb-true x t (sym is))

pub has_other : (token : Option ℕ) (t : ℕ) → false ≡ option_eq eqb token (Some t) → token ≡ Some t → ⊥
has_other token t is same =
    let told : option_eq eqb token (Some t) ≡ true = ap (λ (o : Option ℕ). option_eq eqb o (Some t)) same ∙ eq-eqb t t refl in
    let wrong : false ≡ true = is ∙ told in cc wrong

-- Bindings that are measured or written one after another.
use Rattle.std.proofs.Common.{◌≡◌, ℕ, zero, suc, ◌+◌, ◌≤◌, ◌<◌, List, [], ◌∷◌, ◌++◌, length, take, get_or, refl, sym, ap, subst, ◌∙◌, append_assoc, arith}
use Rattle.std.specs.Prelude.{map}
use Rattle.std.proofs.lemmas.List.{append-nil, length-append, take_more}
use Rattle.snmp_msg.specs.Variables.{Variable, VariableFits, AllFit, variable_text, variables_text}
use Rattle.snmp_msg.proofs.Variables.{variable_text-longer}

pub no_text : variables_text [] ≡ []
unfolding variables_text
no_text = refl

pub first_text : (v : Variable) (vs : List Variable) → variables_text (v ∷ vs) ≡ variable_text v ++ variables_text vs
unfolding variables_text
first_text v vs = refl

pub first_length : (v : Variable) (vs : List Variable) → length (variables_text (v ∷ vs)) ≡ length (variable_text v) + length (variables_text vs)
first_length v vs = ap length (first_text v vs) ∙ length-append (variable_text v) (variables_text vs)

module _ {A : Type 0} (says : A → Variable) where
  one_more : (bs : List A) (b : A) → variables_text (map says (bs ++ b ∷ [])) ≡ variables_text (map says bs) ++ variable_text (says b)
  unfolding variables_text
  one_more [] b = append-nil (variable_text (says b))
  one_more (a ∷ bs) b = ap (λ (t : List ℕ). variable_text (says a) ++ t) (one_more bs b) ∙ sym (append_assoc (variable_text (says a)) (variables_text (map says bs)) (variable_text (says b)))

  taken_more : (bs : List A) (i : ℕ) (b : A) → i < length bs → b ≡ get_or bs i b → take (i + 1) bs ≡ take i bs ++ b ∷ []
  taken_more bs i b h e = take_more bs i b h ∙ ap (λ (x : A). take i bs ++ x ∷ []) (sym e)

  pub text_more : (bs : List A) (i : ℕ) (b : A) → i < length bs → b ≡ get_or bs i b → variables_text (map says (take (i + 1) bs)) ≡ variables_text (map says (take i bs)) ++ variable_text (says b)
  text_more bs i b h e = ap (λ (cs : List A). variables_text (map says cs)) (taken_more bs i b h e) ∙ one_more (take i bs) b

  pub text_more_length : (bs : List A) (i : ℕ) (b : A) → i < length bs → b ≡ get_or bs i b → length (variables_text (map says (take (i + 1) bs))) ≡ length (variables_text (map says (take i bs))) + length (variable_text (says b))
  text_more_length bs i b h e = ap length (text_more bs i b h e) ∙ length-append (variables_text (map says (take i bs))) (variable_text (says b))

  pub text_prefix : (i : ℕ) (bs : List A) → length (variables_text (map says (take i bs))) ≤ length (variables_text (map says bs))
  text_prefix zero bs = omega (arith, ap length no_text)
  text_prefix (suc i) [] = omega arith
  text_prefix (suc i) (b ∷ bs) = omega (arith, first_length (says b) (map says (take i bs)), first_length (says b) (map says bs), text_prefix i bs)

  -- a value is no longer than the bindings
  pub value_short : (bs : List A) (i : ℕ) (b : A) → i < length bs → b ≡ get_or bs i b → length (says b).content ≤ length (variables_text (map says bs))
  value_short [] i b h e = absurd (omega arith)
  value_short (a ∷ bs) zero b h e =
      let longer = variable_text-longer (says a) in
      let same : length (says b).content ≡ length (says a).content = ap (λ (x : A). length (says x).content) e in
      omega (arith, same, longer.0, longer.1, first_length (says a) (map says bs))
  value_short (a ∷ bs) (suc i) b h e = omega (arith, value_short bs i b (omega arith) e, first_length (says a) (map says bs))

  one_more_fits : (bs : List A) (b : A) → AllFit (map says bs) → VariableFits (says b) → AllFit (map says (bs ++ b ∷ []))
  one_more_fits [] b all fits = (fits, tt)
  one_more_fits (a ∷ bs) b all fits = (all.0, one_more_fits bs b all.1 fits)

  pub fit_more : (bs : List A) (i : ℕ) (b : A) → i < length bs → b ≡ get_or bs i b → AllFit (map says (take i bs)) → VariableFits (says b) → AllFit (map says (take (i + 1) bs))
  fit_more bs i b h e all fits = subst (λ (cs : List A). AllFit (map says cs)) (sym (taken_more bs i b h e)) (one_more_fits (take i bs) b all fits)

-- what is left of a list, before and after a binding
pub left_length : (left : List Variable) (v : Variable) (vs : List Variable) → left ≡ v ∷ vs → length (variables_text left) ≡ length (variable_text v) + length (variables_text vs)
left_length left v vs e = ap (λ (ws : List Variable). length (variables_text ws)) e ∙ first_length v vs

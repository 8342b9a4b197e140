use Rattle.std.proofs.Common.{◌≡◌, ◌-◌, List, ℕ, length, take, sym, ap, ◌∙◌, subst, arith}
use Rattle.std.proofs.lemmas.Map.Lookups.{exact_bytes}
use Rattle.std.specs.Cmp.Lexicographic.{slice_cmp}
use Rattle.std.specs.Ordering.{nat_cmp}
use Rattle.std.specs.declared.cmp.Ordering.TheVariants.{Less, Greater}
use Rattle.vacm_core.proofs.Fronts.{past_greater, past_less}
use Rattle.vacm_core.proofs.under.size_past.Goals as goal

pub returns-in-Equal : goal.returns-in-Equal
returns-in-Equal c =
    let front : take (length c.args.beginning.now) c.as_slice-arcs.result.now ≡ c.args.beginning.now = exact_bytes _ _ (sym c.cmp.ensures ∙ c.in-Equal.is) in
    ap (λ (xs : List ℕ). take (length c.args.beginning.now) xs) (sym c.as_slice-arcs.ensures.value) ∙ front

pub returns-in-Greater : goal.returns-in-Greater
returns-in-Greater c =
    past_greater c.args.beginning.now c.args.row.now (length c.as_slice-arcs.result.now) (ap length c.as_slice-arcs.ensures.value)
    (subst (λ (xs : List ℕ). slice_cmp nat_cmp (take (length c.args.beginning.now) xs) c.args.beginning.now ≡ Greater) c.as_slice-arcs.ensures.value (sym c.cmp.ensures ∙ c.in-Greater.is))

pub returns-in-Less : goal.returns-in-Less
returns-in-Less c =
    past_less c.args.beginning.now c.args.row.now (length c.as_slice-arcs.result.now - 1) (let e = ap length c.as_slice-arcs.ensures.value in let l = c.requires in omega arith)
    (subst (λ (xs : List ℕ). slice_cmp nat_cmp (take (length c.args.beginning.now) xs) c.args.beginning.now ≡ Less) c.as_slice-arcs.ensures.value (sym c.cmp.ensures ∙ c.in-Less.is))

use Rattle.std.proofs.Common.{◌≡◌, ◌+◌, ◌-◌, ◌∙◌, ℕ, sym, ap, subst, List, length, get_or, take, drop, arith}
use Rattle.std.proofs.lemmas.List.{take_rest, get_or_default}
use Rattle.vacm_core.specs.RowOrder.{IsFirstPlace, IsRunOf}
use Rattle.vacm_core.proofs.Runs.{parted_slice, is_run_of}
use Rattle.vacm_core.proofs.Places.{first_point}
use Rattle.vacm_core.proofs.table.run_at.Goals as goal

pub count_upto-count-requires : goal.count_upto-count-requires
count_upto-count-requires g c =
    parted_slice g.R.NamedRow.name_of g.R.NamedRow.rank c.as_slice-wanted.result.now c.args.rows.now c.args.first c.requires.in_place _ (take_rest c.args.rows.now c.args.first) 2

pub returns-clause-run : goal.returns-clause-run
returns-clause-run g c d =
    let name = g.R.NamedRow.name_of in
    let rank = g.R.NamedRow.rank in
    let rows = c.args.rows.now in
    let first = c.args.first in
    let wanted = c.as_slice-wanted.result.now in
    let count = c.count_upto-count.result in
    let here = λ (e : g.row.R.Denot). ap name (get_or_default rows first e c.index-rows-first.result c.requires.within ∙ sym c.index-rows-first.is) ∙ sym c.name.ensures ∙ sym c.as_slice-wanted.ensures.octets in
    let is_first : IsFirstPlace name rows wanted first = record { named = here; none_before = λ k e before same. c.requires.first k e before (same ∙ sym (here e)) } in
    let rest : take (length rows - first) (drop first rows) ≡ drop first rows = take_rest rows first in
    let run = is_run_of name rank wanted rows first c.requires.in_place _ rest count c.count_upto-count.ensures.bound (first_point name rank rows c.requires.in_place wanted first c.requires.within is_first) c.count_upto-count.ensures.parted in
    let many : count ≡ first + count - first = omega arith in
    subst (λ (n : ℕ). IsRunOf name rank (name (get_or rows first d)) rows (take n (drop first rows))) many
    (subst (λ (xs : List g.row.R.Denot). IsRunOf name rank (name (get_or rows first d)) rows (take count xs)) rest
    (subst (λ (w : List ℕ). IsRunOf name rank w rows (take count (take (length rows - first) (drop first rows)))) (sym (here d)) run))

use Rattle.std.proofs.Common.{◌+◌, sym, ap, subst, ◌∙◌, List, ℕ, slice_range}
use Rattle.std.proofs.lemmas.List.{get_or_default}
use Rattle.std.proofs.lemmas.Bool.{MatchBool-at_true, MatchBool-at_false}
use Rattle.vacm_core.specs.RowOrder.{AreRuns, IsRunOf}
use Rattle.vacm_core.specs.declared.table.Run.{Run}
use Rattle.vacm_core.proofs.Places.{none_looked_at, same_more, new_more}
use Rattle.vacm_core.proofs.table.runs_of.Goals as goal
use Rattle.vacm_core.proofs.table.runs_of.Goals.{then-is_first+in_ok-insert, else-is_first}

pub loop-place-init : goal.loop-place-init
loop-place-init g c = none_looked_at g.R.NamedRow.name_of g.R.NamedRow.rank c.args.rows.now c.new-runs.result.entries c.new-runs.ensures.empty

pub run_at-requires-clause-first : goal.run_at-requires-clause-first
run_at-requires-clause-first g c = MatchBool-at_true _ _ c.if-is_first.true c.is_first.ensures

pub loop-place-preserved : goal.loop-place-preserved
loop-place-preserved g c =
    let name = g.R.NamedRow.name_of in
    let rank = g.R.NamedRow.rank in
    let rows = c.args.rows.now in
    let place = c.loop-place.place in
    let old = c.loop-place.runs.entries in
    let known = c.loop-place.invariant in
    elim c.if-is_first.branch [
      | then-is_first+in_ok-insert w ↦
          let key = w.copy.result in
          let new = w.insert.new.self.entries in
          let run = w.run_at.result in
          let at = λ (d : g.row.R.Denot). ap name (get_or_default rows place d w.index-rows-place.result c.loop-place-test.true ∙ sym w.index-rows-place.is) ∙ sym w.name.ensures ∙ sym w.copy.ensures.same in
          let row = w.index-rows-place.result in
          let is_run : IsRunOf name rank key rows (slice_range rows run.first run.end) = subst (λ n. IsRunOf name rank n rows (slice_range rows run.first run.end)) (at row) (w.run_at.ensures.run row) in
          subst (λ (es : List (List ℕ × Run)). AreRuns name rank rows (place + 1) es) (sym (ap (λ m. m.entries) w.runs-is))
          (new_more name rank rows place old known new key run w.copy.ensures.fits at w.run_at.ensures.within is_run w.in_ok-insert.ensures.updates.0)
      | else-is_first w ↦
          let same = MatchBool-at_false _ _ w.if-is_first.false c.is_first.ensures in
          subst (λ (es : List (List ℕ × Run)). AreRuns name rank rows (place + 1) es) (sym (ap (λ m. m.entries) w.runs-is)) (same_more name rank rows place old known same.0 same.1)
    ]

use Rattle.std.proofs.Common.{sym, ap, ◌∙◌, ◌≡◌, arith, true, false}
use Rattle.std.specs.List.{list_any}
use Rattle.std.specs.Ordering.{is_eq}
use Rattle.std.specs.BTreeSet.{contains}
use Rattle.vacm_core.proofs.Seen.{bad_here, twice_here, none_more, seen_more, not_true, not_false}
use Rattle.vacm_core.proofs.fault.first_fault.Goals as goal

pub loop-i-init : goal.loop-i-init
loop-i-init g c = (λ i h. absurd (omega (arith, h)), λ row. ap (λ ks. list_any (λ k. is_eq (g.R.Index.Ord.cmp (g.R.TableRow.index_of row) k)) ks) c.new-seen.ensures.empty)

pub loop-i-preserved : goal.loop-i-preserved
loop-i-preserved g c =
    let rows = c.args.rows.now in
    let i = c.loop-i.i in
    let row = c.index-rows-i.result in
    let seen = c.loop-i.invariant.1 in
    let new : contains g.R.Index.Ord.cmp c.loop-i.seen (g.R.TableRow.index_of row) ≡ false =
    ap (contains g.R.Index.Ord.cmp c.loop-i.seen) (sym c.index.ensures) ∙ not_true _ (sym c.in_ok-insert.ensures.added ∙ c.if-not-branch.false) in (
      none_more g.R.TableRow.is_bad_row g.R.TableRow.is_same rows i row c.loop-i-test.true c.index-rows-i.is c.loop-i.invariant.0 c.if-is_bad.ensures (sym (seen row) ∙ new),
      seen_more g.R.TableRow.is_bad_row g.R.TableRow.is_same rows i row c.loop-i-test.true c.index-rows-i.is g.R.Index.Ord.cmp g.R.TableRow.index_of g.met.R.TableRow.same_index c.loop-i.seen c.insert.new.self c.index.result c.index.ensures c.in_ok-insert.ensures.updates.0 seen,
    )

pub returns-then-is_bad : goal.returns-then-is_bad
returns-then-is_bad g c =
    (bad_here g.R.TableRow.is_bad_row g.R.TableRow.is_same c.args.rows.now c.loop-i.i c.index-rows-i.result c.loop-i-test.true c.index-rows-i.is c.if-is_bad.ensures, c.loop-i.invariant.0)

pub returns-then-not-branch : goal.returns-then-not-branch
returns-then-not-branch g c =
    let row = c.index-rows-i.result in
    let there : contains g.R.Index.Ord.cmp c.loop-i.seen (g.R.TableRow.index_of row) ≡ true =
    ap (contains g.R.Index.Ord.cmp c.loop-i.seen) (sym c.index.ensures) ∙ not_false _ (sym c.in_ok-insert.ensures.added ∙ c.if-not-branch.true) in
    (twice_here g.R.TableRow.is_bad_row g.R.TableRow.is_same c.args.rows.now c.loop-i.i row c.loop-i-test.true c.index-rows-i.is c.if-is_bad.ensures (sym (c.loop-i.invariant.1 row) ∙ there), c.loop-i.invariant.0)

use Rattle.std.proofs.Common.{◌≡◌, ◌+◌, ◌<◌, ◌^◌, ℕ, false, true, List, length, get_or, refl, sym, subst, arith}
use Rattle.std.specs.List.{AllByRecursion}
use Rattle.std.proofs.lemmas.List.{get_or_default}
use Rattle.std.proofs.lemmas.List.Elements.{recursion_from_All}
use Rattle.vacm_core.specs.View.{Includes, IsExact}
use Rattle.vacm_next.specs.Opening.{IncludesLonger}
use Rattle.vacm_next.proofs.Beginnings.{opens_by, opens_here, opens_longer, none_here, none_skipped, includes_is_under}
use Rattle.vacm_next.proofs.opening.opens.Goals as goal

-- the arcs of a slice are below 2 ^ 32
below : (arcs : List ℕ) → ((k : ℕ) → get_or arcs k 0 < 2 ^ 32) → AllByRecursion (λ arc. arc < 2 ^ 32) arcs
below arcs h = recursion_from_All (λ arc. arc < 2 ^ 32) arcs (λ k d within. subst (λ n. n < 2 ^ 32) (get_or_default arcs k 0 d within) (h k))

pub returns-then-includes : goal.returns-then-includes
returns-then-includes c =
    let limit = below c.args.beginning.now (λ k. (c.type_inv.beginning k).fits) in
    (λ _. opens_here c.args.rows.now c.args.beginning.now (record { some = c.requires.some; most = c.requires.most; limit = limit }) (c.if-includes.ensures.0 refl), λ _. refl)

pub returns-then-includes_longer : goal.returns-then-includes_longer
returns-then-includes_longer c =
    let row = c.row.result.now in
    let longer = c.if-includes_longer.ensures.longer.0 refl in
    let inside : c.loop-place.place < length c.args.rows.now = let t = c.loop-place-test.true in let e = c.count.ensures.count in omega arith in (
      λ _. opens_longer c.args.rows.now c.args.beginning.now row (c.loop-place.place, inside, sym (c.row.ensures row)) longer.longer longer.agrees longer.unexceeded longer.includes
          (below c.args.beginning.now (λ k. (c.type_inv.beginning k).fits)) c.includes_longer.ensures.arcs c.count.ensures.few,
      λ _. refl,
    )

pub includes_longer-requires-clause-exact : goal.includes_longer-requires-clause-exact
includes_longer-requires-clause-exact c k d before =
    let row = c.row.result.now in
    let both = c.rivals_from.ensures.exact k d row before in
    (both.0, subst IsExact (sym (c.row.ensures row)) both.1)

pub loop-place-preserved : goal.loop-place-preserved
loop-place-preserved c =
    let rows = c.args.rows.now in
    let w = c.args.beginning.now in
    let row = c.row.result.now in
    let not_this : ¬ IncludesLonger rows w row = λ h. let e : false ≡ true = c.if-includes_longer.ensures.longer.1 h in cc in (
      c.next_under-place-in-loop-place.ensures.within,
      none_skipped (IncludesLonger rows w) rows w (c.loop-place.place + 1) c.next_under-place-in-loop-place.result (includes_is_under rows w)
          (none_here (IncludesLonger rows w) rows c.loop-place.place row c.row.ensures not_this c.loop-place.invariant.1) c.next_under-place-in-loop-place.ensures.none,
    )

pub returns : goal.returns
returns c = (
  λ e. cc,
  λ o.
      let not_this : ¬ Includes c.args.rows.now c.args.beginning.now = λ i. let e : false ≡ true = c.if-includes.ensures.1 i in cc in
      let w = opens_by c.args.rows.now c.args.beginning.now o not_this in
      absurd (c.loop-place.invariant.1 w.1.0 w.0 (let t = c.loop-place-test.false in let e = c.count.ensures.count in let l = w.1.1 in omega arith)
      (subst (IncludesLonger c.args.rows.now c.args.beginning.now) (sym w.1.2) w.2)),
)

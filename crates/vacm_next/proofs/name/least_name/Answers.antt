use Rattle.std.proofs.Common.{◌≡◌, [], ◌∷◌, ◌++◌, false, true, length, arith, refl, sym, ap, subst, ◌∙◌, length-append}
use Rattle.vacm_core.specs.View.{Includes}
use Rattle.vacm_next.specs.Next.{IsBefore, IsUpto, IsLeastFrom}
use Rattle.vacm_next.specs.Opening.{Opens, OpensAt, IsLeastArc}
use Rattle.vacm_next.proofs.Order.{beginning_upto, not_both, upto_trans}
use Rattle.vacm_next.proofs.Names.{upto_itself, some_arc, none_down, beginning_arcs}
use Rattle.vacm_next.proofs.name.least_name.Goals as goal

pub loop-arcs-init : goal.loop-arcs-init
loop-arcs-init c = (
  c.requires.some,
  c.requires.opens,
  upto_itself c.args.beginning.items,
  λ other arcs from_on before. absurd (not_both c.args.beginning.items other from_on before),
)

pub least_arc-requires : goal.least_arc-requires
least_arc-requires c =
    let arcs = c.loop-arcs.arcs.items in
    let not_this : ¬ Includes c.args.rows.now arcs = λ i. let e : false ≡ true = c.loop-arcs-test.ensures.1 (subst (Includes c.args.rows.now) (sym c.as_slice.ensures.value) i) in cc in
    let short = (some_arc c.args.rows.now arcs c.loop-arcs.invariant.1 not_this).0 in
    let e = ap length c.as_slice-in-loop-arcs.ensures.value in
    omega arith

pub unreachable-requires : goal.unreachable-requires
unreachable-requires c =
    let arcs = c.loop-arcs.arcs.items in
    let not_this : ¬ Includes c.args.rows.now arcs = λ i. let e : false ≡ true = c.loop-arcs-test.ensures.1 (subst (Includes c.args.rows.now) (sym c.as_slice.ensures.value) i) in cc in
    let a = some_arc c.args.rows.now arcs c.loop-arcs.invariant.1 not_this in
    c.in_default.ensures a.1.0 (omega arith) (subst (λ xs. OpensAt c.args.rows.now xs a.1.0) (sym c.as_slice-in-loop-arcs.ensures.value) a.1.1)

pub loop-arcs-preserved : goal.loop-arcs-preserved
loop-arcs-preserved c =
    let arcs = c.loop-arcs.arcs.items in
    let rows = c.args.rows.now in
    let arc = c.in-Some.arc in
    let more : c.push.new.self.items ≡ arcs ++ arc ∷ [] = c.push.ensures.items in
    let least : IsLeastArc rows arcs 0 arc = subst (λ xs. IsLeastArc rows xs 0 arc) c.as_slice-in-loop-arcs.ensures.value c.in-Some.ensures in
    let not_this : ¬ Includes rows arcs = λ i. let e : false ≡ true = c.loop-arcs-test.ensures.1 (subst (Includes rows) (sym c.as_slice.ensures.value) i) in cc in (
      let e = ap length more in let l = length-append arcs (arc ∷ []) in omega arith,
      subst (Opens rows) (sym more) least.opens,
      subst (IsUpto c.args.beginning.items) (sym more) (upto_trans c.args.beginning.items arcs (arcs ++ arc ∷ []) c.loop-arcs.invariant.2 (beginning_upto arcs (arc ∷ []))),
      λ other are_arcs from_on before. none_down rows c.args.beginning.items arcs arc least not_this c.loop-arcs.invariant.3 other are_arcs from_on (subst (IsBefore other) more before),
    )

pub returns : goal.returns
returns c =
    let arcs = c.loop-arcs.arcs.items in
    let rows = c.args.rows.now in
    let is : c.in-Some-of.name ≡ arcs = c.in-Some-of.ensures.value ∙ c.as_slice-2.ensures.value in
    let there : Includes rows arcs = subst (Includes rows) c.as_slice.ensures.value (c.loop-arcs-test.ensures.0 refl) in
    let least : IsLeastFrom (Includes rows) c.args.beginning.items arcs = record {
      are_arcs = beginning_arcs arcs c.loop-arcs.invariant.1.rest c.loop-arcs.invariant.0 c.loop-arcs.invariant.1.are_arcs;
      seen = there;
      from_on = c.loop-arcs.invariant.2;
      least = c.loop-arcs.invariant.3;
    } in
    subst (IsLeastFrom (Includes rows) c.args.beginning.items) (sym is) least

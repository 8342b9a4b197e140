use Rattle.std.proofs.Common.{◌≡◌, ◌≢◌, ℕ, List, length, sym, ap, ◌∙◌, arith}
use Rattle.std.proofs.lemmas.List.{nil_from_length}
use Rattle.std.proofs.lemmas.Bool.Decides.{nat_tests}
use Rattle.vacm_core.specs.Allowed.{HasView}
use Rattle.vacm_core.specs.Steps.{requester_of}
use Rattle.vacm_core.proofs.Views.{context_of, no_group_of, no_access_of, view_of}
use Rattle.vacm_core.proofs.vacm.Vacm.view_of.Goals as goal

pub returns-in_default-group-clause-view : goal.returns-in_default-group-clause-view
returns-in_default-group-clause-view c =
    let t = c.args.self.now in
    let q = requester_of c.args.asking.now in
    let context = context_of t q c.args.asking.now.view c.args.asking.now.variable.now c.decide-decided.result c.decide-decided.ensures.rows c.in-Some._context c.in-Some.is in
    (λ e. cc, λ e. cc, λ variable. (context, no_group_of t q c.args.asking.now.view c.args.asking.now.variable.now c.decide-decided.result c.decide-decided.ensures.rows c.in-Some._context c.in-Some.is c.in_default-group.is))

pub returns-in_default-access-clause-view : goal.returns-in_default-access-clause-view
returns-in_default-access-clause-view c = (
  λ e. cc,
  λ e. cc,
  no_access_of c.args.self.now (requester_of c.args.asking.now) c.args.asking.now.view c.args.asking.now.variable.now c.decide-decided.result c.decide-decided.ensures.rows c.in-Some._context c.in-Some.is
      c.in-Some-group._group c.in-Some-group.is c.in_default-access.is,
)

pub returns-then-is_empty-clause-view : goal.returns-then-is_empty-clause-view
returns-then-is_empty-clause-view c =
    let zero : length c.as_slice.result.now ≡ 0 = let h = c.if-is_empty.ensures in grind (arith, nat_tests) in
    let empty = sym c.view-name.ensures ∙ sym c.as_slice.ensures.octets ∙ nil_from_length c.as_slice.result.now zero in (
      λ e. cc,
      λ e. cc,
      λ variable. view_of c.args.self.now (requester_of c.args.asking.now) c.args.asking.now.view c.args.asking.now.variable.now c.decide-decided.result c.decide-decided.ensures.rows c.in-Some._context c.in-Some.is
          c.in-Some-group._group c.in-Some-group.is c.in-Some-access.row c.in-Some-access.is (λ (name : List ℕ). ¬ HasView c.args.self.now.families name) (λ has. has.named empty),
    )

pub returns-clause-view : goal.returns-clause-view
returns-clause-view c =
    let some : length c.as_slice.result.now ≢ 0 = let h = c.if-is_empty.ensures in λ e. grind (arith, nat_tests) in (
      λ none. some (ap length (c.as_slice.ensures.octets ∙ none)),
      view_of c.args.self.now (requester_of c.args.asking.now) c.args.asking.now.view c.args.asking.now.variable.now c.decide-decided.result c.decide-decided.ensures.rows c.in-Some._context c.in-Some.is
          c.in-Some-group._group c.in-Some-group.is c.in-Some-access.row c.in-Some-access.is (λ (view : List ℕ). view ≡ c.view-name.result.now) (sym c.view-name.ensures),
    )

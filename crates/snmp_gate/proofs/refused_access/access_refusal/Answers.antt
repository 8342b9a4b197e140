use Rattle.std.proofs.Common.{arith, subst, List}
use Rattle.std.specs.Prelude.{All}
use Rattle.std.proofs.lemmas.List.{take_all}
use Rattle.std.proofs.lemmas.List.Elements.{All-more}
use Rattle.vacm_core.specs.declared.access.Access.{Access}
use Rattle.vacm_core.specs.declared.access.Access.TheVariants.{NoSuchContext}
use Rattle.snmp_gate.specs.Access.{IsGranted}
use Rattle.snmp_gate.proofs.refused_access.access_refusal.Goals as goal

pub loop-place-preserved : goal.loop-place-preserved
loop-place-preserved c =
    All-more (IsGranted c.args.tag) c.args.answers.now c.loop-place.place NoSuchContext c.loop-place-test.true c.loop-place.invariant (c.status_of.result, c.status_of.ensures, c.in_default.ensures)

pub returns : goal.returns
returns c =
    subst (λ (all : List Access). All (IsGranted c.args.tag) all) (take_all c.loop-place.place c.args.answers.now (omega (arith, c.loop-place-test.false, c.loop-place.auto.place-end))) c.loop-place.invariant

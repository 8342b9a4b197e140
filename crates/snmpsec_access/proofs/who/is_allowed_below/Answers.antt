use Rattle.std.specs.Prelude.{MatchBool}
use Rattle.vacm_core.specs.Tables.{tables_of}
use Rattle.vacm_core.specs.declared.access.Access.TheVariants.{AccessAllowed}
use Rattle.snmpsec_access.specs.Askers.{asker}
use Rattle.snmpsec_access.specs.Extent.{SeesBelow}
use Rattle.snmpsec_access.proofs.Belows.{carried}
use Rattle.snmpsec_access.proofs.who.is_allowed_below.Goals as goal

pub returns : goal.returns
returns c =
    let t = tables_of c.args.wanted.now.rows.now in
    let tables = c.args.wanted.now.access.now in
    let message = (asker c.args.view c.args.group.now c.args.level c.args.context.now).message in
    let is : MatchBool c.sees_below.result (SeesBelow tables message c.args.view c.args.wanted.now.variable.now) (¬ SeesBelow tables message c.args.view c.args.wanted.now.variable.now) =
    rw (← c.as_slice.ensures.octets, ← c.as_slice-2.ensures.octets, ← c.as_slice-3.ensures.value) c.sees_below.ensures in
    carried tables t message c.args.view c.args.wanted.now.variable.now c.sees_below.result
    (λ variable allowed. c.requires.ready.answers.decides message c.args.view variable AccessAllowed allowed)
    (λ variable allowed. c.order_is_free.ensures.same t tables (c.requires.ready.same_rows c.requires.below) message c.args.view variable AccessAllowed allowed)
    is

use Rattle.std.proofs.Common.{ℕ, List, subst}
use Rattle.vacm_core.specs.Allowed.{Requester}
use Rattle.vacm_core.specs.Steps.{requester_of}
use Rattle.vacm_core.specs.declared.access.Access.TheVariants.{AccessAllowed}
use Rattle.vacm_core.specs.View.{AreRowsOf}
use Rattle.vacm_next.proofs.Views.{same_rows, included, seen}
use Rattle.snmpsec_access.proofs.Belows.{opened}
use Rattle.snmpsec_access.proofs.extent.sees_below.Goals as goal

pub returns-in-Err : goal.returns-in-Err
returns-in-Err c below =
    let t = c.args.access.now in
    c.in-Err.ensures.view.1 (c.order_is_free.ensures.one t t c.in-Err.ensures.one_row_each (same_rows t) (requester_of c.args.asking.now) c.args.asking.now.view _ c.in-Err.field-0 AccessAllowed (c.in-Err.ensures.view.2 _) below.allowed)

pub returns-in-Ok : goal.returns-in-Ok
returns-in-Ok c =
    let t = c.args.access.now in
    let q : Requester = requester_of c.args.asking.now in
    let rows = c.rows_of_view.result in
    let name = c.in-Ok.view.now in
    let by = c.in-Ok.ensures.view.1 in
    let are : AreRowsOf t.families name rows = subst (λ (n : List ℕ). AreRowsOf t.families n rows) c.as_slice.ensures.octets c.rows_of_view.ensures in
    opened t q c.args.asking.now.view rows c.args.asking.now.variable.now c.opens.result
    (λ variable inside. seen t q c.args.asking.now.view name variable rows c.in-Ok.ensures.view.0 by are inside)
    (λ variable sees. included t.families rows name variable are (c.one_view.ensures t c.in-Ok.ensures.one_row_each q c.args.asking.now.view name variable by sees))
    c.opens.ensures

use Rattle.vacm_core.specs.Allowed.{Requester}
use Rattle.vacm_core.specs.declared.access.Access.TheVariants.{AccessAllowed}
use Rattle.vacm_core.specs.declared.access.ViewType.TheVariants.{Read}
use Rattle.snmp_responder.specs.Code.{seen_by}
use Rattle.vacm_next.proofs.Views.{same_rows}
use Rattle.snmp_responder.proofs.viewer.Viewer.sees.Goals as goal

pub returns-in_default : goal.returns-in_default
unfolding seen_by
returns-in_default c =
    let viewer = c.args.self.now in
    let t = viewer.vacm.now in
    let q : Requester = record { model = viewer.model; name = viewer.name.now; level = viewer.level; context = viewer.context.now } in
    (λ false. cc false, λ sees. absurd (c.in_default.not-AccessAllowed (c.order_is_free.ensures.one t t c.is_access_allowed-answer.ensures.one_row_each (same_rows t) q Read c.args.variable.now c.is_access_allowed-answer.result AccessAllowed c.is_access_allowed-answer.ensures.answer sees)))

use Rattle.vacm_core.specs.declared.access.Access.TheVariants.{AccessAllowed}
use Rattle.vacm_core.specs.declared.access.ViewType.TheVariants.{Notify}
use Rattle.vacm_next.proofs.Views.{same_rows}
use Rattle.snmp_agent.specs.Decides.{question}
use Rattle.snmp_listener.proofs.wanted.is_seen.Goals as goal

pub returns-in_default : goal.returns-in_default
returns-in_default c =
    let t = c.args.tables.now in
    let q = question c.args.taken.now.user.now c.args.taken.now.level c.args.context.now in (
      (λ false. cc false),
      (λ sees. absurd (c.in_default.not-AccessAllowed (c.order_is_free.ensures.one t t c.is_access_allowed-answer.ensures.one_row_each (same_rows t) q Notify c.args.name.now c.is_access_allowed-answer.result AccessAllowed c.is_access_allowed-answer.ensures.answer sees))),
    )

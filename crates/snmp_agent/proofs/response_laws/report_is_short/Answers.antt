use Rattle.std.proofs.Common.{arith}
use Rattle.snmp_agent.specs.CounterReports.{reporting}
use Rattle.snmp_agent.proofs.Sizes.{scoped_most, report_fits}
use Rattle.snmp_agent.proofs.response_laws.report_is_short.Goals as goal

pub returns : goal.returns
returns c = λ users engine own id user request_id n value text engine_short pair id_fits user_short sealed.
    let most = c.sealed_size.ensures.most users (reporting engine own id user request_id n value) text (report_fits c.one_element.ensures.canonical engine own id user request_id n value engine_short pair id_fits user_short) sealed in
    let scoped = scoped_most engine request_id n value engine_short in
    omega (arith, most, scoped, engine_short, user_short)

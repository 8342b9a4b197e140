use Rattle.snmp_msg.proofs.Canonicals.{refused_as}
use Rattle.snmp_message.specs.declared.refused_at.RefusedAt.{RefusedAt}
use Rattle.snmpsec_output.specs.Show.{RefusesShow}
use Rattle.snmpsec_output.proofs.Shows.{whole_refused}
use Rattle.snmpsec_output.proofs.show.read_shown.Goals as goal

pub returns-in_err-layers-clause-exact : goal.returns-in_err-layers-clause-exact
returns-in_err-layers-clause-exact c =
    let f = c.in_err-layers.field-0.0 in
    refused_as c.from_residual-in_err-layers.result _ (λ (e : RefusedAt). RefusesShow c.args.datagram.now e.refusal) f c.from_residual-in_err-layers.ensures.1 (whole_refused c.args.datagram.now f.refusal c.in_err-layers.ensures.exact)

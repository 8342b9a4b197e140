use Rattle.snmp_msg.specs.Canonical.{whole_of}
use Rattle.snmp_message.specs.declared.refused_at.RefusedAt.{RefusedAt}
use Rattle.snmp_msg.specs.Refusals.{RefusesCanonical}
use Rattle.snmp_msg.proofs.Canonicals.{refused_as, write_refused}
use Rattle.snmp_msg.proofs.whole.canonical.Goals as goal

pub returns-in_err-out-clause-exact : goal.returns-in_err-out-clause-exact
returns-in_err-out-clause-exact c =
    let f = c.in_err-out.field-0.0 in
    refused_as c.from_residual-in_err-out.result _ (λ (e : RefusedAt). RefusesCanonical c.args.datagram.now e.refusal) f c.from_residual-in_err-out.ensures.1 (write_refused c.args.datagram.now (whole_of c.in_ok-layers.layers) f.refusal c.in_ok-layers.ensures.exact c.in_err-out.ensures.refusal c.in_err-out.ensures.too_large c.in_err-out.ensures.memory)

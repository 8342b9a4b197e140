use Rattle.std.proofs.Common.{arith}
use Rattle.snmp_ber.specs.Octets.{AreOctets}
use Rattle.diagnose_text.proofs.Wides.{wide_reads}
use Rattle.diagnose_text.proofs.values.read_wide.Goals as goal

pub returns-then-is_unsigned64 : goal.returns-then-is_unsigned64
returns-then-is_unsigned64 c =
    let are : AreOctets c.args.content.now = λ i. omega (arith, c.type_inv.content i) in
    wide_reads c.wide_of.result c.args.content.now are c.wide_of.ensures (c.is_unsigned64.ensures.0 c.if-is_unsigned64.true)

use Rattle.std.proofs.Common.{◌∙◌, ℕ, arith, rules}
use Rattle.snmp_ber.specs.Number.{IsUnsigned}
use Rattle.snmp_ber.specs.Octets.{AreOctets}
use Rattle.snmp_ber.proofs.Unsigned.{reads, behind_zero}
use Rattle.snmp_ber.proofs.number.read_unsigned.Goals as goal

pub number_of-requires : goal.number_of-requires
number_of-requires c =
    let are : AreOctets c.args.content.now = λ i. omega (arith, c.type_inv.content i) in
    let unsigned : (n : ℕ) × IsUnsigned 4 n c.args.content.now = search rules in
    let five = (behind_zero c.args.content.now are unsigned c.if-content-gt4.true).0 in omega (arith, five)

pub returns-then-content-gt4 : goal.returns-then-content-gt4
returns-then-content-gt4 c =
    let are : AreOctets c.args.content.now = λ i. omega (arith, c.type_inv.content i) in
    let unsigned : (n : ℕ) × IsUnsigned 4 n c.args.content.now = search rules in
    reads c.args.content.now are unsigned c.number_of.result (c.number_of.ensures.value ∙ (behind_zero c.args.content.now are unsigned c.if-content-gt4.true).1)

pub returns : goal.returns
returns c =
    let are : AreOctets c.args.content.now = λ i. omega (arith, c.type_inv.content i) in
    let unsigned : (n : ℕ) × IsUnsigned 4 n c.args.content.now = search rules in
    reads c.args.content.now are unsigned c.number_of-2.result c.number_of-2.ensures.value

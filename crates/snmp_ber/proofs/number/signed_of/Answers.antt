use Rattle.std.proofs.Common.{◌≡◌, length, arith, FitsSigned, w32, w64, to_z}
use Rattle.std.proofs.lemmas.Int.{ints}
use Rattle.snmp_ber.proofs.Integers.{powers_rise, signed_number-fits, signed_number-low, signed_number-high}
use Rattle.snmp_ber.specs.Number.{signed_number}
use Rattle.snmp_ber.proofs.number.signed_of.Goals.{then-content-lt128, else-content-lt128}
use Rattle.snmp_ber.proofs.number.signed_of.Goals as goal

pub pow-requires : goal.pow-requires
pow-requires c = omega (arith, ints, powers_rise (length c.args.content.now) 4 c.requires.most)

value : (c : goal.Joined-content-lt128) → to_z w64 c.if-content-lt128.value-bits ≡ signed_number c.args.content.now
value c =
    let xs = c.args.content.now in
    let below = powers_rise (length xs) 4 c.requires.most in
    elim c.if-content-lt128.branch [
      | then-content-lt128 w ↦ omega (arith, ints, signed_number-low xs c.requires.least w.if-content-lt128.true, w.value-is, c.number_of-magnitude.ensures.value)
      | else-content-lt128 w ↦ omega (arith, ints, signed_number-high xs c.requires.least w.if-content-lt128.false, w.value-is, w.pow.ensures, c.number_of-magnitude.ensures.value, below)
    ]

fits : (c : goal.Joined-content-lt128) → FitsSigned w32 (signed_number c.args.content.now)
fits c = signed_number-fits c.args.content.now c.requires.least c.requires.most (λ i. omega (arith, c.type_inv.content i))

pub overflow_cast-result : goal.overflow_cast-result
overflow_cast-result c = rw (value c) (fits c)

pub returns : goal.returns
returns c = omega (arith, ints, value c, fits c)

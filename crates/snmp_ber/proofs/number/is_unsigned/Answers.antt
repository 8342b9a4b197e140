use Rattle.std.proofs.Common.{rules, ◌-◌, ◌≡◌, arith, refl, inl, inr, length, get_or}
use Rattle.std.proofs.lemmas.Bool.{eqb-true, eq-eqb}
use Rattle.snmp_ber.specs.Octets.{AreOctets}
use Rattle.snmp_ber.proofs.Unsigned.{some_unsigned, not_low, fits_unsigned}
use Rattle.snmp_ber.proofs.number.is_unsigned.Goals as goal

pub returns-then-content-ge128 : goal.returns-then-content-ge128
returns-then-content-ge128 c =
    let are : AreOctets c.args.content.now = λ i. omega (arith, c.type_inv.content i) in
    (λ e. absurd (cc e), λ is. absurd (not_low c.args.most c.args.content.now are c.if-content-ge128.true is))

pub returns-then-content-most : goal.returns-then-content-most
returns-then-content-most c =
    let are : AreOctets c.args.content.now = λ i. omega (arith, c.type_inv.content i) in
    (λ e. some_unsigned c.args.most c.args.content.now are (search rules) c.if-content-ge128.false (inl c.if-content-most.true), λ is. refl)

pub returns-then-content-gt0 : goal.returns-then-content-gt0
returns-then-content-gt0 c =
    let are : AreOctets c.args.content.now = λ i. omega (arith, c.type_inv.content i) in (
      λ e. absurd (cc e),
      λ is. elim (fits_unsigned c.args.most c.args.content.now are is) [
        | inl few ↦ let many = c.if-content-most.false in absurd (omega (arith, few, many))
        | inr more ↦ let some = c.if-content-gt0.true in let none = more.1 in absurd (omega (arith, some, none))
      ],
    )

pub returns : goal.returns
returns c =
    let are : AreOctets c.args.content.now = λ i. omega (arith, c.type_inv.content i) in
    let none : get_or c.args.content.now 0 0 ≡ 0 = let at_most = c.if-content-gt0.false in omega (arith, at_most) in (
      λ e. let one_more = eqb-true (length c.args.content.now - 1) c.args.most e in let many = c.if-content-most.false in
          some_unsigned c.args.most c.args.content.now are (search rules) c.if-content-ge128.false (inr (omega (arith, one_more, many), none)),
      λ is. elim (fits_unsigned c.args.most c.args.content.now are is) [
        | inl few ↦ let many = c.if-content-most.false in absurd (omega (arith, few, many))
        | inr more ↦ eq-eqb (length c.args.content.now - 1) c.args.most (let size = more.0 in omega (arith, size))
      ],
    )

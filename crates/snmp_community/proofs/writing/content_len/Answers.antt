use Rattle.std.proofs.Common.{rules, ◌≡◌, ℤ, length, ap, ◌∙◌, arith, FitsSigned, w32}
use Rattle.std.proofs.lemmas.Int.{to_z-of_z}
use Rattle.snmp_message.proofs.Writes.{element-length}
use Rattle.snmp_message.specs.Spelling.{signed, number}
use Rattle.snmp_community.specs.Versions.{version_number}
use Rattle.snmp_community.proofs.Writes.{front_text-length}
use Rattle.snmp_community.proofs.writing.content_len.Goals as goal

pub returns-clause-size : goal.returns-clause-size
returns-clause-size c =
    let fits : FitsSigned w32 c.number.result = search rules in
    let version : c.integer_len.result ≡ length (number (version_number c.args.version)) = c.integer_len.ensures.size ∙ ap (λ (z : ℤ). length (signed z)) (to_z-of_z w32 c.number.result fits ∙ c.number.ensures) in
    omega (arith, version, c.element_len.ensures.size, front_text-length c.args.version c.args.community.now, element-length 4 c.args.community.now)

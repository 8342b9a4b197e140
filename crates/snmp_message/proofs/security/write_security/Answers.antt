use Rattle.std.proofs.Common.{◌≤◌, ℕ, List, length, arith, sym, subst, inl, inr}
use Rattle.std.proofs.lemmas.Bool.{cases_lt}
use Rattle.snmp_message.specs.Security.{SecText, IsShort, fields_of, security_text, placed}
use Rattle.snmp_message.proofs.Filled.{fields_text-longer, security_text-is}
use Rattle.snmp_message.proofs.Scopeds.{not_so}
use Rattle.snmp_message.proofs.security.write_security.Goals as goal

pub returns-then-not-is_short-clause-too_large : goal.returns-then-not-is_short-clause-too_large
returns-then-not-is_short-clause-too_large c =
    let s = fields_of c.args.security.now in
    let longer = fields_text-longer s in
    λ _. elim (cases_lt 65507 (length (security_text s))) [
      | inl lt ↦ lt
      | inr le ↦
          let short : IsShort s = record { engine = omega (arith, longer.0, le); auth = omega (arith, longer.1, le); salt = omega (arith, longer.2, le) } in
          absurd (not_so c.is_short.result (IsShort s) c.is_short.ensures c.if-not-is_short.true short)
    ]

pub returns-clause-spelled : goal.returns-clause-spelled
returns-clause-spelled c =
    let s = fields_of c.args.security.now in
    let text = security_text s in
    let size : length text ≤ 65507 = omega (arith, c.security_len-size.ensures.size) in
    λ at. subst (λ (t : List ℕ). SecText at t (placed at s)) (sym c.in_ok-out.ensures) (security_text-is at s c.requires size)

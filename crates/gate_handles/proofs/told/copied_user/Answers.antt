use Rattle.std.proofs.Common.{List, ◌++◌, length, drop, inl, inr, refl, ap, arith, ℕ}
use Rattle.snmp_message.specs.Message.{parts}
use Rattle.snmp_message.specs.Security.{fields_of}
use Rattle.gate_handles.specs.Told.{IsUserOf}
use Rattle.gate_handles.proofs.told.copied_user.Goals as goal

pub returns-in-Err : goal.returns-in-Err
returns-in-Err c = inr ((λ user u. c.in-Err.ensures.none u.message u.is_message), (c.in-Err.refused.refusal, refl), (refl, refl))

pub returns-in-Err-read_security : goal.returns-in-Err-read_security
returns-in-Err-read_security c = inr (
  (λ user u. c.in-Err-read_security.ensures.none u.message u.fields u.is_message u.is_security),
  (c.in-Err-read_security.refused.refusal, refl),
  (refl, refl),
)

pub returns-then-user-out : goal.returns-then-user-out
returns-then-user-out c =
    let user : IsUserOf c.args.datagram.now c.in-Ok-read_security.security.user.now = record {
      message = parts c.in-Ok.message;
      is_message = c.in-Ok.ensures.exact;
      fields = fields_of c.in-Ok-read_security.security;
      is_security = c.in-Ok-read_security.ensures.exact;
      is = refl;
    } in
    inl (c.in-Ok-read_security.security.user.now, user, (omega (arith, c.if-user-out.true), refl, refl))

pub returns : goal.returns
returns c =
    let user : IsUserOf c.args.datagram.now c.in-Ok-read_security.security.user.now = record {
      message = parts c.in-Ok.message;
      is_message = c.in-Ok.ensures.exact;
      fields = fields_of c.in-Ok-read_security.security;
      is_security = c.in-Ok-read_security.ensures.exact;
      is = refl;
    } in
    let name : List ℕ = c.in-Ok-read_security.security.user.now in
    inl (name, user, (omega (arith, c.if-user-out.false), refl, ap (λ (xs : List ℕ). xs ++ drop (length name) c.args.out.now) c.copy_from_slice.ensures.after))

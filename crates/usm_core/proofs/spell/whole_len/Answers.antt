use Rattle.std.proofs.Common.{◌≡◌, ℕ, ◌+◌, ◌<◌, ◌≤◌, length, sym, subst, inl, inr, arith}
use Rattle.std.proofs.lemmas.Bool.{cases_lt}
use Rattle.snmp_ber.specs.Spelling.{head_size}
use Rattle.snmp_message.specs.Security.{Fields, IsShort, fields_of, security_text}
use Rattle.snmp_message.specs.Spelling.{content_size, message_text}
use Rattle.snmp_message.proofs.Filled.{fields_text-longer}
use Rattle.snmp_message.proofs.Writes.{message_text-longer, measured_message}
use Rattle.usm_core.proofs.Tables.{true_false}
use Rattle.usm_core.proofs.spell.whole_len.Goals as goal

too_long : (s : Fields) (n : ℕ) → length s.engine ≤ n → length s.auth ≤ n → length s.salt ≤ n → (IsShort s → ⊥) → 65507 < n
too_long s n engine auth salt never =
    elim (cases_lt 65507 n) [
      | inl lt ↦ lt
      | inr le ↦ absurd (never (record { engine = omega (arith, engine, le); auth = omega (arith, auth, le); salt = omega (arith, salt, le) }))
    ]

pub returns-then-not-is_short-clause-none : goal.returns-then-not-is_short-clause-none
returns-then-not-is_short-clause-none c = λ tag content long.
    let s = fields_of c.args.security.now in
    let longer = fields_text-longer s in
    let whole = message_text-longer c.args.header.now (security_text s) tag content in
    too_long s (length (message_text c.args.header.now (security_text s) tag content)) (omega (arith, longer.0, whole.0)) (omega (arith, longer.1, whole.0)) (omega (arith, longer.2, whole.0))
    (λ short. true_false c.is_short.result (c.is_short.ensures.1 short) c.if-not-is_short.true)

pub returns-then-data_len-gt-LARGEST-clause-none : goal.returns-then-data_len-gt-LARGEST-clause-none
returns-then-data_len-gt-LARGEST-clause-none c = λ tag content long.
    let whole = message_text-longer c.args.header.now (security_text (fields_of c.args.security.now)) tag content in
    omega (arith, whole.1, long, c.if-data_len-gt-LARGEST.true)

pub returns-then-security_len-gt-LARGEST-clause-none : goal.returns-then-security_len-gt-LARGEST-clause-none
returns-then-security_len-gt-LARGEST-clause-none c = λ tag content long.
    let whole = message_text-longer c.args.header.now (security_text (fields_of c.args.security.now)) tag content in
    omega (arith, whole.0, c.security_len-security_len.ensures.size, c.if-security_len-gt-LARGEST.true)

pub returns-then-size-gt-LARGEST-clause-none : goal.returns-then-size-gt-LARGEST-clause-none
returns-then-size-gt-LARGEST-clause-none c = λ tag content long.
    let h = c.args.header.now in
    let x = security_text (fields_of c.args.security.now) in
    let n = c.message_len-size.result in
    let size = subst (λ (k : ℕ). let inner = content_size h k c.args.data_len in n ≡ head_size inner + inner) c.security_len-security_len.ensures.size c.message_len-size.ensures.size in
    let whole : length (message_text h x tag content) ≡ n = measured_message h x tag content n c.args.data_len size (sym long) in
    omega (arith, whole, c.if-size-gt-LARGEST.true)

pub returns-clause-some : goal.returns-clause-some
returns-clause-some c = λ tag content long.
    let h = c.args.header.now in
    let x = security_text (fields_of c.args.security.now) in
    let n = c.message_len-size.result in
    let size = subst (λ (k : ℕ). let inner = content_size h k c.args.data_len in n ≡ head_size inner + inner) c.security_len-security_len.ensures.size c.message_len-size.ensures.size in
    sym (measured_message h x tag content n c.args.data_len size (sym long))

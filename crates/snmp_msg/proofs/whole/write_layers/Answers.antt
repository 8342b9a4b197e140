use Rattle.std.proofs.Common.{◌≡◌, ◌+◌, ℕ, length, arith, ap, sym, subst, ◌∙◌, inl, inr}
use Rattle.std.proofs.lemmas.Bool.{cases_lt}
use Rattle.snmp_ber.specs.Spelling.{head_size}
use Rattle.snmp_message.specs.Security.{IsShort, security_text}
use Rattle.snmp_message.specs.Spelling.{content_size}
use Rattle.snmp_msg.specs.Canonical.{DataParts, Whole, WholeFits, whole_of, whole_text, message_with, measured_parts, data_content_of}
use Rattle.snmp_message.proofs.Scopeds.{not_so}
use Rattle.snmp_msg.proofs.Canonicals.{short_security, measured_whole, whole_text-longer}
use Rattle.snmp_msg.proofs.whole.write_layers.Goals as goal

-- the message's size is that which was measured of the same msgData
measured_as : (m : Whole) (d : DataParts) (size security_size data_size : ℕ) → d ≡ m.contents → security_size ≡ length (security_text m.security) → data_size ≡ length (data_content_of d)
    → (let inner = content_size m.header security_size data_size in size ≡ head_size inner + inner) → length (whole_text m) ≡ size
measured_as m d size security_size data_size same security_is data_is measured =
    measured_whole m size security_size data_size security_is (data_is ∙ ap (λ (x : DataParts). length (data_content_of x)) same) measured

pub returns-then-not-is_short-clause-too_large : goal.returns-then-not-is_short-clause-too_large
returns-then-not-is_short-clause-too_large c =
    let m = whole_of c.args.layers.now in
    λ _. elim (cases_lt 65507 (length (whole_text m))) [
      | inl lt ↦ lt
      | inr le ↦ absurd (not_so c.is_short.result (IsShort m.security) c.is_short.ensures c.if-not-is_short.true (short_security m le))
    ]

pub returns-in_default-clause-too_large : goal.returns-in_default-clause-too_large
returns-in_default-clause-too_large c = λ _.
    let longer = whole_text-longer (whole_of c.args.layers.now) in
    omega (arith, longer.1, c.in_default.ensures.none)

pub returns-then-max-gt-LARGEST-clause-too_large : goal.returns-then-max-gt-LARGEST-clause-too_large
returns-then-max-gt-LARGEST-clause-too_large c = λ _.
    let longer = whole_text-longer (whole_of c.args.layers.now) in
    let content = ap (λ (x : DataParts). length (data_content_of x)) c.in-Some.ensures.same in
    omega (arith, longer.0, longer.1, content, c.security_len-security_len.ensures.size, c.data_len-data_len.ensures.size, c.max.ensures, c.if-max-gt-LARGEST.true)

pub spell_layers-requires-clause-within : goal.spell_layers-requires-clause-within
spell_layers-requires-clause-within c =
    let m = whole_of c.args.layers.now in
    let size = measured_as m (measured_parts c.in-Some.contents) c.message_len-size.result c.security_len-security_len.result c.data_len-data_len.result c.in-Some.ensures.same c.security_len-security_len.ensures.size c.data_len-data_len.ensures.size c.message_len-size.ensures.size in
    let same = ap (λ (d : DataParts). length (whole_text (message_with m.header m.security d))) c.in-Some.ensures.same in
    omega (arith, same, size, c.if-size-gt-LARGEST.false)

pub spell_layers-requires-clause-fits : goal.spell_layers-requires-clause-fits
spell_layers-requires-clause-fits c =
    let m = whole_of c.args.layers.now in
    subst (λ (d : DataParts). WholeFits (message_with m.header m.security d)) (sym c.in-Some.ensures.same) c.requires.fits

pub returns-then-size-gt-LARGEST-clause-too_large : goal.returns-then-size-gt-LARGEST-clause-too_large
returns-then-size-gt-LARGEST-clause-too_large c =
    let m = whole_of c.args.layers.now in
    let size = measured_as m (measured_parts c.in-Some.contents) c.message_len-size.result c.security_len-security_len.result c.data_len-data_len.result c.in-Some.ensures.same c.security_len-security_len.ensures.size c.data_len-data_len.ensures.size c.message_len-size.ensures.size in
    λ _. omega arith

pub returns-clause-ok : goal.returns-clause-ok
returns-clause-ok c =
    let m = whole_of c.args.layers.now in
    c.in_ok-out.ensures ∙ ap (λ (d : DataParts). whole_text (message_with m.header m.security d)) c.in-Some.ensures.same

pub returns-clause-size : goal.returns-clause-size
returns-clause-size c =
    let m = whole_of c.args.layers.now in
    let size = measured_as m (measured_parts c.in-Some.contents) c.message_len-size.result c.security_len-security_len.result c.data_len-data_len.result c.in-Some.ensures.same c.security_len-security_len.ensures.size c.data_len-data_len.ensures.size c.message_len-size.ensures.size in
    omega (arith, ap length (returns-clause-ok c))

pub returns-in_err-out-clause-memory : goal.returns-in_err-out-clause-memory
returns-in_err-out-clause-memory c =
    let m = whole_of c.args.layers.now in
    let size = measured_as m (measured_parts c.in-Some.contents) c.message_len-size.result c.security_len-security_len.result c.data_len-data_len.result c.in-Some.ensures.same c.security_len-security_len.ensures.size c.data_len-data_len.ensures.size c.message_len-size.ensures.size in
    λ _. omega arith

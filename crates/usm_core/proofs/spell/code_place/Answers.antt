use Rattle.std.proofs.Common.{◌≡◌, ℕ, ◌+◌, [], length, sym, ap, ◌∙◌, arith}
use Rattle.std.specs.Prelude.{if◌then◌else◌}
use Rattle.snmp_ber.specs.Spelling.{head_size, element}
use Rattle.snmp_message.proofs.Writes.{element-length}
use Rattle.usm_core.specs.Writing.{sending_of}
use Rattle.usm_core.proofs.Places.{salt_length, front_and_back, code_at}
use Rattle.usm_core.proofs.spell.code_place.Goals as goal

pub returns : goal.returns
returns g c = λ tag content auth long size is.
    let m = sending_of g.S.ScopedPdu.octets c.args.outgoing.now in
    let salt = if m.header.privacy then m.salt else [] in
    let whole : length (element tag content) ≡ c.element_len.result = element-length tag content ∙ ap (λ (k : ℕ). head_size k + k) long ∙ sym c.element_len.ensures.size in
    let short : length salt ≡ c.salt_octets-salt_len.result = salt_length m.header.privacy m.salt c.requires.salt ∙ sym c.salt_octets-salt_len.ensures.size in
    let salted : length (element 4 salt) ≡ c.element_len-2.result = element-length 4 salt ∙ ap (λ (k : ℕ). head_size k + k) short ∙ sym c.element_len-2.ensures.size in
    code_at m tag content auth c.args.text.now c.args.size _ is size (omega (arith, whole, salted))

pub element_len-requires : goal.element_len-requires
element_len-requires g c =
    let w = c.requires.spelled in
    let m = sending_of g.S.ScopedPdu.octets c.args.outgoing.now in
    let total = front_and_back m w.0 w.1 w.2 c.args.text.now w.5 in
    let long = element-length w.0 w.1 in
    omega (arith, total, long, w.3, c.requires.size)

pub overflow_sub-result : goal.overflow_sub-result
overflow_sub-result g c =
    let w = c.requires.spelled in
    let m = sending_of g.S.ScopedPdu.octets c.args.outgoing.now in
    let total = front_and_back m w.0 w.1 w.2 c.args.text.now w.5 in
    let whole : length (element w.0 w.1) ≡ c.element_len.result = element-length w.0 w.1 ∙ ap (λ (k : ℕ). head_size k + k) w.3 ∙ sym c.element_len.ensures.size in
    omega (arith, total, whole)

pub overflow_sub-result-2 : goal.overflow_sub-result-2
overflow_sub-result-2 g c =
    let w = c.requires.spelled in
    let m = sending_of g.S.ScopedPdu.octets c.args.outgoing.now in
    let salt = if m.header.privacy then m.salt else [] in
    let total = front_and_back m w.0 w.1 w.2 c.args.text.now w.5 in
    let whole : length (element w.0 w.1) ≡ c.element_len.result = element-length w.0 w.1 ∙ ap (λ (k : ℕ). head_size k + k) w.3 ∙ sym c.element_len.ensures.size in
    let short : length salt ≡ c.salt_octets-salt_len.result = salt_length m.header.privacy m.salt c.requires.salt ∙ sym c.salt_octets-salt_len.ensures.size in
    let salted : length (element 4 salt) ≡ c.element_len-2.result = element-length 4 salt ∙ ap (λ (k : ℕ). head_size k + k) short ∙ sym c.element_len-2.ensures.size in
    omega (arith, total, whole, salted)

pub overflow_sub-result-3 : goal.overflow_sub-result-3
overflow_sub-result-3 g c =
    let w = c.requires.spelled in
    let m = sending_of g.S.ScopedPdu.octets c.args.outgoing.now in
    let salt = if m.header.privacy then m.salt else [] in
    let total = front_and_back m w.0 w.1 w.2 c.args.text.now w.5 in
    let whole : length (element w.0 w.1) ≡ c.element_len.result = element-length w.0 w.1 ∙ ap (λ (k : ℕ). head_size k + k) w.3 ∙ sym c.element_len.ensures.size in
    let short : length salt ≡ c.salt_octets-salt_len.result = salt_length m.header.privacy m.salt c.requires.salt ∙ sym c.salt_octets-salt_len.ensures.size in
    let salted : length (element 4 salt) ≡ c.element_len-2.result = element-length 4 salt ∙ ap (λ (k : ℕ). head_size k + k) short ∙ sym c.element_len-2.ensures.size in
    omega (arith, total, whole, salted, w.4)

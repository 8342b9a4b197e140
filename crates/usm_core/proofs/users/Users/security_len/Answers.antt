use Rattle.std.proofs.Common.{◌≡◌, ◌≤◌, ℕ, take, length, replicate, refl, sym, ap, subst, ◌∙◌, arith}
use Rattle.std.proofs.lemmas.List.{take-replicate, length-replicate}
use Rattle.snmp_ber.specs.Spelling.{element}
use Rattle.engine_clock.specs.Pairs.{BootsAndTime}
use Rattle.usm_core.specs.Sealed.{sending}
use Rattle.usm_core.specs.Known.{Known}
use Rattle.usm_core.proofs.SealedLengths.{IsCodeSize, measured_text, salt_size, security_short}
use Rattle.usm_core.proofs.users.Users.security_len.Goals as goal

zeros : (n : ℕ) → n ≤ 24 → length {A = ℕ} (take n (replicate 24 0)) ≡ n
zeros n most = ap length (take-replicate n 24 0 most) ∙ length-replicate n 0

pub returns-clause-size : goal.returns-clause-size
returns-clause-size c = λ salt content text salt_is short sealed.
    let m = sending c.args.header.now c.args.engine.now c.args.pair c.args.user.now salt (element 48 content) in
    let n = c.code_octets.result in
    let salt_alike = salt_size c.args.header.now.privacy salt salt_is ∙ sym (zeros c.salt_octets.result c.salt_octets.ensures.most ∙ c.salt_octets.ensures.size) in
    measured_text c.args.self.now.users m n c.security_len.result _ c.security_len.ensures.size
    (record { engine = refl; boots = sym (ap (λ (p : BootsAndTime). p.boots) c.pair.view_is); time = sym (ap (λ (p : BootsAndTime). p.time) c.pair.view_is); user = refl; auth = zeros n c.code_octets.ensures.most; salt = salt_alike })
    c.one_element.ensures.one
    (subst (λ (known : Known). IsCodeSize known.users c.args.header.now c.args.user.now n) c.self.view_is (record { code = c.code_octets.ensures.code; none = c.code_octets.ensures.none }))
    content short refl text sealed

pub returns-clause-most : goal.returns-clause-most
returns-clause-most c =
    let auth = zeros c.code_octets.result c.code_octets.ensures.most in
    let salt = zeros c.salt_octets.result c.salt_octets.ensures.most in
    security_short c.longer_whole.ensures c.message_size.ensures.most c.args.header.now _ c.security_len.result c.requires.header
    (record { boots = c.pair.invariant.boots; time = c.pair.invariant.time; user = c.requires.user }) c.security_len.ensures.size c.requires.engine c.requires.user
    (omega (arith, auth, c.code_octets.ensures.most)) (omega (arith, salt, c.salt_octets.ensures.most))

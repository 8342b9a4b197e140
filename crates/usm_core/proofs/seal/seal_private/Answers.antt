use Rattle.std.proofs.Common.{◌≡◌, ℕ, ◌≤◌, List, length, take, refl, sym, ap, ◌∙◌, replicate, arith}
use Rattle.std.proofs.lemmas.List.{take-replicate}
use Rattle.usm_keys.specs.Protocols.{mac_octets}
use Rattle.usm_aes.specs.Aes.{enciphered}
use Rattle.usm_aes.specs.Feedback.{iv_of}
use Rattle.usm_core.specs.Sealed.{Sending, spelled_with}
use Rattle.usm_core.specs.Writing.{sending_of}
use Rattle.usm_core.proofs.Ends.{same_begin}
use Rattle.usm_core.proofs.seal.seal_private.Goals as goal

zeros_are : (m : Sending) (content : List ℕ) (k n : ℕ) → k ≤ 24 → k ≡ n → spelled_with m 4 content (take k (replicate 24 0)) ≡ spelled_with m 4 content (replicate n 0)
zeros_are m content k n most size = ap (λ (z : List ℕ). spelled_with m 4 content z) (take-replicate k 24 0 most ∙ ap (λ (j : ℕ). replicate j 0) size)

pub seal_end-requires-clause-end : goal.seal_end-requires-clause-end
seal_end-requires-clause-end g c =
    let m = sending_of g.S.ScopedPdu.octets c.args.outgoing.now in
    let n = mac_octets c.args.key.now.auth in
    let begin = same_begin m 4 (replicate n 0) m.scoped m.scoped refl in
    (begin.0, c.in_ok-text.ensures.ok ∙ zeros_are m m.scoped c.mac_octets.result n c.mac_octets.ensures.most (c.mac_octets.ensures.value ∙ ap mac_octets c.auth.ensures) ∙ begin.1)

pub fill-requires-clause-text : goal.fill-requires-clause-text
fill-requires-clause-text g c =
    let m = sending_of g.S.ScopedPdu.octets c.args.outgoing.now in
    let n = mac_octets c.args.key.now.auth in
    let made = c.sealing.ensures.some_ciphertext (enciphered c.args.schedule.now) (iv_of m.pair.boots m.pair.time m.salt) m.scoped in
    let long : length made.0 ≡ length m.scoped = made.1.same_length in
    let begin = same_begin m 4 (replicate n 0) m.scoped made.0 (sym long) in
    let before = c.in_ok-text.ensures.ok ∙ zeros_are m m.scoped c.mac_octets.result n c.mac_octets.ensures.most (c.mac_octets.ensures.value ∙ ap mac_octets c.auth.ensures) ∙ begin.1 in
    (4, made.0, omega (arith, long, c.octets_len.ensures), ◌∙◌ {A = List ℕ} (c.seal_end.ensures.sealed begin.0 made.0 before made.1) (sym begin.2))

pub returns-clause-ok : goal.returns-clause-ok
returns-clause-ok g c = λ octets sealed.
    let m = sending_of g.S.ScopedPdu.octets c.args.outgoing.now in
    let n = mac_octets c.args.key.now.auth in
    let long : length octets ≡ length m.scoped = sealed.same_length in
    let begin = same_begin m 4 (replicate n 0) m.scoped octets (sym long) in
    let before = c.in_ok-text.ensures.ok ∙ zeros_are m m.scoped c.mac_octets.result n c.mac_octets.ensures.most (c.mac_octets.ensures.value ∙ ap mac_octets c.auth.ensures) ∙ begin.1 in
    c.fill.ensures.filled 4 octets (omega (arith, long, c.octets_len.ensures)) (◌∙◌ {A = List ℕ} (c.seal_end.ensures.sealed begin.0 octets before sealed) (sym begin.2))

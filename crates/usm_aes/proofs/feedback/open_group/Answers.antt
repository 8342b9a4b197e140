use Rattle.std.proofs.Common.{arith, ap, get_or, length, ◌≡◌, ◌<◌, ◌∙◌, ◌+◌, ◌-◌, List, ℕ}
use Rattle.std.specs.Prelude.{bit_xor}
use Rattle.std.specs.List.{between}
use Rattle.std.proofs.lemmas.List.Edits.{length-between}
use Rattle.usm_aes.specs.Aes.{enciphered}
use Rattle.usm_aes.proofs.InPlace.{opening_part, opening_start, opening_three, sealed_all, written}
use borrow.Rule.Slice.PartMut.{put_mid}
use Rattle.usm_aes.proofs.feedback.open_group.Goals as goal

pub returns : goal.returns
returns c =
    let group : List ℕ = c.args.group.now in
    let text : List ℕ = c.add_block-3.new.text in
    let fed : List ℕ = c.segment-c.result in
    let before = opening_three (enciphered c.args.schedule.now) c.args.input_block group group c.args.input_block
    c.segment-a.result c.segment-b.result fed
    c.encrypt_four-blocks.result.a c.encrypt_four-blocks.result.b c.encrypt_four-blocks.result.c
    c.add_block.new.text c.add_block-2.new.text text 0 (omega arith)
    (opening_start (enciphered c.args.schedule.now) c.args.input_block group)
    c.segment-a.ensures c.segment-b.ensures c.segment-c.ensures
    c.encrypt_four-blocks.ensures.a c.encrypt_four-blocks.ensures.b c.encrypt_four-blocks.ensures.c
    c.add_block.ensures c.add_block-2.ensures c.add_block-3.ensures in
    let same : length group ≡ length text = before.done.same_length in
    let size : ℕ = length text - 48 in
    let end : length text ≡ 48 + size = omega arith in
    let last : List ℕ = c.add_octets.new.segment in
    let long : length last ≡ size = c.add_octets.auto.segment ∙ length-between text 48 (length text) (omega arith) in
    let xored : (k : ℕ) → k < length last → get_or last k 0 ≡ bit_xor (get_or (between 48 (48 + size) text) k 0) (get_or (enciphered c.args.schedule.now fed) k 0) =
    λ k h. c.add_octets.ensures k h
    ∙ ap (λ (n : ℕ). bit_xor (get_or (between 48 n text) k 0) (get_or c.encrypt_four-blocks.result.d k 0)) end
    ∙ ap (λ (m : List ℕ). bit_xor (get_or (between 48 (48 + size) text) k 0) (get_or m k 0)) c.encrypt_four-blocks.ensures.d in
    let next : List ℕ = put_mid 48 size text last in
    sealed_all (enciphered c.args.schedule.now) c.args.input_block next group (48 + size) (omega (arith, same, (written 48 size text last (omega arith) long).long))
    (opening_part (enciphered c.args.schedule.now) c.args.input_block group text fed last next 3 size (omega arith) (omega arith)
    before long xored (written 48 size text last (omega arith) long))

use Rattle.std.proofs.Common.{arith, sym, subst, ◌≡◌, ◌≤◌, ◌∙◌, ◌+◌, ◌-◌, ◌*◌, ◌/◌, ℕ, ◌<◌, List, get_or, length}
use Rattle.std.specs.Prelude.{bit_xor}
use Rattle.std.specs.List.{between}
use Rattle.std.proofs.lemmas.List.Edits.{length-between}
use Rattle.usm_aes.specs.Aes.{enciphered}
use Rattle.usm_aes.proofs.InPlace.{IsOpening, opening_start, opening_next, opening_part, sealed_all, written}
use borrow.Rule.Slice.PartMut.{put_mid}
use Rattle.usm_aes.proofs.feedback.open_each.Goals as goal

pub loop-j-init : goal.loop-j-init
loop-j-init c = opening_start (enciphered c.args.schedule.now) c.args.iv c.args.text.now

pub loop-j-preserved : goal.loop-j-preserved
loop-j-preserved c =
    let j : ℕ = c.loop-j.j in
    let text : List ℕ = c.loop-j.text in
    let same : length text ≡ length c.args.text.now = c.loop-j.auto.text in
    let fits : 16 * j + 16 ≤ length text = omega arith in
    let size : (16 * j + 16) - 16 * j ≡ 16 = omega arith in
    let long : length c.add_output_block.new.segment ≡ (16 * j + 16) - 16 * j =
    c.add_output_block.auto.segment ∙ length-between text (16 * j) (16 * j + 16) fits in
    opening_next (enciphered c.args.schedule.now) c.args.iv c.args.text.now text c.loop-j.input_block
    c.add_output_block.new.segment _ c.copy_from_slice.new.self j (omega arith) c.loop-j.invariant (long ∙ size) c.add_output_block.ensures
    (written (16 * j) ((16 * j + 16) - 16 * j) text c.add_output_block.new.segment (omega arith) long) c.copy_from_slice.ensures.after

pub returns : goal.returns
returns c =
    let cipher : List ℕ = c.args.text.now in
    let text : List ℕ = c.loop-j.text in
    let whole : ℕ = length cipher / 16 in
    let all : c.loop-j.j ≡ whole = omega arith in
    let same : length text ≡ length cipher = c.loop-j.auto.text in
    let size : ℕ = length text - 16 * whole in
    let end : 16 * whole + size ≡ length text = omega arith in
    let last : List ℕ = c.add_output_block-2.new.segment in
    let before = subst (λ (n : ℕ). IsOpening (enciphered c.args.schedule.now) c.args.iv cipher text c.loop-j.input_block n) all c.loop-j.invariant in
    let long : length last ≡ size = c.add_output_block-2.auto.segment ∙ length-between text (16 * whole) (length text) (omega arith) in
    let xored = subst (λ (n : ℕ). (k : ℕ) → k < length last
    → get_or last k 0 ≡ bit_xor (get_or (between (16 * whole) n text) k 0) (get_or (enciphered c.args.schedule.now c.loop-j.input_block) k 0))
    (sym end) c.add_output_block-2.ensures in
    let next : List ℕ = put_mid (16 * whole) size text last in
    sealed_all (enciphered c.args.schedule.now) c.args.iv next cipher (16 * whole + size) (omega arith)
    (opening_part (enciphered c.args.schedule.now) c.args.iv cipher text c.loop-j.input_block last next whole size (omega arith) (omega arith)
    before long xored (written (16 * whole) size text last (omega arith) long))

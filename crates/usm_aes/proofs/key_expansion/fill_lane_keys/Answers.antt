use Rattle.std.proofs.Common.{arith, ◌≡◌, ◌≢◌, ◌<◌, ◌∙◌, [], List, get_or, length, set, subst, sym, ⊎_elim, ℕ}
use Rattle.std.proofs.lemmas.Bool.{cases_lt}
use Rattle.std.proofs.lemmas.List.{get_or-set_other, get_or-set_same, length-set}
use Rattle.usm_aes.specs.Lanes.{IsLaneKey}
use Rattle.usm_aes.proofs.key_expansion.fill_lane_keys.Goals as goal

pub loop-round-init : goal.loop-round-init
loop-round-init c = (omega arith, λ k h. absurd (omega arith))

pub loop-round-preserved : goal.loop-round-preserved
loop-round-preserved c =
    let round : ℕ = c.loop-round.round in
    let keys : List (List ℕ) = c.loop-round.keys in
    let key : List ℕ = c.lane_key.result in
    let long : length keys ≡ 10 = c.loop-round.invariant.0 in
    let within : round < length keys = omega arith in (
      length-set keys round key ∙ long,
      λ k h. ⊎_elim
          (λ before.
          let other : k ≢ round = omega arith in
          subst (IsLaneKey c.args.words.now k) (sym (get_or-set_other keys round k key [] other)) (c.loop-round.invariant.1 k before))
          (λ past.
          let at : round ≡ k = omega arith in
          subst (λ (n : ℕ). IsLaneKey c.args.words.now n (get_or (set keys round key) n [])) at
          (subst (IsLaneKey c.args.words.now round) (sym (get_or-set_same keys round key [] within)) (c.lane_key.ensures ∙ c.join_words.ensures)))
          (cases_lt k round),
    )

pub returns : goal.returns
returns c = λ round h. c.loop-round.invariant.1 round (omega arith)

-- The octets of a value that are shown.
use Rattle.std.proofs.Common.{◌≡◌, ℕ, ◌++◌, List, length, take, min, ap, ◌∙◌, subst, arith}
use Rattle.std.proofs.Math.Seq.{take-append_seam}
use Rattle.std.proofs.lemmas.List.{length-take, take_min}

-- the octets that were copied are the first 40, or all
pub copied : (octets front rest : List ℕ) (len : ℕ) → len ≡ min 40 (length octets) → front ≡ take len octets → take len (front ++ rest) ≡ take 40 octets
copied octets front rest len most is =
    let long : length front ≡ len = ap length is ∙ length-take len octets ∙ omega (arith, most) in
    let whole : take len octets ≡ take 40 octets = ap (λ k. take k octets) most ∙ take_min 40 octets in
    subst (λ k. take k (front ++ rest) ≡ take 40 octets) long (take-append_seam front rest ∙ is ∙ whole)

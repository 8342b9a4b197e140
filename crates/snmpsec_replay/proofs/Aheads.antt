-- Octets that are read ahead, and what a line gets of them.
use Rattle.std.proofs.Common.{◌≡◌, ◌≢◌, ℕ, ◌+◌, ◌<◌, ◌≤◌, List, [], ◌∷◌, ◌++◌, length, take, get_or, Option, sym, ap, ◌∙◌, arith, append_assoc, length-append, subst}
use Rattle.std.proofs.lemmas.List.{take_more, get_or-take, length-take-le}
use Rattle.std.specs.Io.KnownBytes.{Consumes}
use Rattle.std.proofs.KnownBytes.{Consumes-trans}
use Rattle.snmp_ber.specs.Splits.{Lacks}
use Rattle.snmp_ber.proofs.Cuts.{Lacks-append, Lacks-from_index}
use Rattle.snmpsec_replay.specs.Lines.{LooksAhead}
use Rattle.snmpsec_replay.specs.declared.log.Ahead.TheVariants as ahead

-- ---- a cut

pub front_lacks : (b : ℕ) (xs : List ℕ) (n : ℕ) → n ≤ length xs → ((k : ℕ) → k < n → get_or xs k 0 ≢ b) → Lacks b (take n xs)
front_lacks b xs n h before = Lacks-from_index b (take n xs) (λ k lt.
    let below : k < n = omega (arith, lt, length-take-le n xs h) in
    rw get_or-take (before k below))

pub feed_taken : (xs : List ℕ) (n : ℕ) → n < length xs → get_or xs n 0 ≡ 10 → take (n + 1) xs ≡ take n xs ++ 10 ∷ []
feed_taken xs n h e = take_more xs n 0 h ∙ ap (λ y. take n xs ++ y ∷ []) e

-- ---- looks one after the other

-- ---- the line so far, and what it gets more

pub reads_whole : (line longer : List ℕ) (begin old new : Option (List ℕ)) → Lacks 10 line → Consumes begin old line → LooksAhead line longer old new ahead.LineFeed
    → Lacks 10 longer × Consumes begin new (longer ++ 10 ∷ [])
reads_whole line longer begin old new plain read (more, lacks, is, c) = (
  subst (Lacks 10) (sym is) (Lacks-append 10 line more plain lacks),
  subst (Consumes begin new) (sym (append_assoc line more (10 ∷ [])) ∙ ap (λ (t : List ℕ). t ++ 10 ∷ []) (sym is)) (Consumes-trans _ _ _ _ _ read c),
)

pub reads_more : (line longer : List ℕ) (begin old new : Option (List ℕ)) → Lacks 10 line → Consumes begin old line → LooksAhead line longer old new ahead.More
    → Lacks 10 longer × Consumes begin new longer × (length line < length longer)
reads_more line longer begin old new plain read (more, lacks, is, c, some) =
    let l = length-append line more in
    let same : length longer ≡ length (line ++ more) = ap length is in (
      subst (Lacks 10) (sym is) (Lacks-append 10 line more plain lacks),
      subst (Consumes begin new) (sym is) (Consumes-trans _ _ _ _ _ read c),
      omega (arith, l, same, some),
    )

pub reads_too_long : (line longer : List ℕ) (begin old new : Option (List ℕ)) → Lacks 10 line → Consumes begin old line → LooksAhead line longer old new ahead.TooLong
    → (part : List ℕ) × Lacks 10 part × Consumes begin new part × (131072 < length part)
reads_too_long line longer begin old new plain read (more, lacks, c, long) =
    (line ++ more, Lacks-append 10 line more plain lacks, Consumes-trans _ _ _ _ _ read c, long)

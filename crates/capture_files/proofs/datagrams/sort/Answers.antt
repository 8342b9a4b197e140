use Rattle.std.proofs.Common.{◌≡◌, ◌||◌, Bool, false, refl, sym, ap, ◌∙◌}
use Rattle.capture_files.proofs.datagrams.sort.Goals as goal

neither : (a b : Bool) → a ≡ false → b ≡ false → (a || b) ≡ false
neither a b p q = ap (λ x. x || b) p ∙ q

pub returns-then-not-contains-2 : goal.returns-then-not-contains-2
returns-then-not-contains-2 c =
    let first = sym c.contains.ensures.value ∙ c.if-not-contains.true in
    let second = sym c.contains-then-not-contains.ensures.value ∙ c.if-not-contains-2.true in
    rw c.in-Datagram.is ((neither _ _ first second, refl))

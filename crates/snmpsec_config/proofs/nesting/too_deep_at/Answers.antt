use Rattle.std.proofs.Common.{ℕ, List, sym, subst}
use Rattle.snmpsec_config.specs.Nesting.{OpensTooMany}
use Rattle.snmpsec_config.proofs.nesting.too_deep_at.Goals as goal

pub returns-in-None : goal.returns-in-None
returns-in-None c utf8 =
    let said = rw c.in-None.is at c.in_ok-rest.ensures in
    λ left w. said left (subst (λ (text : List ℕ). OpensTooMany 0 text left) (sym c.in-Ok.ensures.cases.0) w)

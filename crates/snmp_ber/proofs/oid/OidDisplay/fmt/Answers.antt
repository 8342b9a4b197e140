use Rattle.std.proofs.Common.{◌≡◌, ◌∷◌, ◌++◌, List, ℕ, decimal, take, refl, sym, ap, ◌∙◌, rules, arith}
use Rattle.std.specs.List.{flat_map}
use Rattle.std.proofs.Output.{has_written_append, has_written_of_eq}
use Rattle.std.proofs.lemmas.List.{take_all}
use Rattle.snmp_ber.specs.Oid.{dotted}
use Rattle.snmp_ber.proofs.Dotted.{dot_before, dotted_printed}
use Rattle.snmp_ber.proofs.oid.OidDisplay.fmt.Goals as goal

pub returns-clause-writes : goal.returns-clause-writes
returns-clause-writes g c = λ p ok.
    let first = c.in-Some.first.now in
    let others = c.in-Some.others.now in
    let whole : first ∷ others ≡ c.args.self.now = search rules in
    let all : take c.loop-arc.arc-index others ≡ others = take_all c.loop-arc.arc-index others (omega arith) in
    let text : decimal first ++ flat_map dot_before (take c.loop-arc.arc-index others) ≡ dotted c.args.self.now =
    ap (λ (t : List ℕ). decimal first ++ flat_map dot_before t) all ∙ sym (dotted_printed first others) ∙ ap dotted whole in
    let begun = c.in_ok-write.ensures.writes p refl in
    has_written_of_eq _ _ _ _ _ text (has_written_append _ _ _ _ _ _ begun (c.loop-arc.invariant begun.plain))

use Rattle.std.proofs.Common.{ℕ, List, ◌≡◌, ◌∙◌, Option, None, Some, sym, ap}
use Rattle.std.specs.Prelude.{option_map}
use Rattle.std.proofs.lemmas.Option.{same_Some}
use Rattle.snmp_ber.specs.ObjectName.{arcs_in}
use Rattle.snmp_ber.proofs.ObjectNames.{found_exactly}
use Rattle.snmp_ber.proofs.object_name.ObjectName.oid.Goals as goal

none_is_some : (xs : List ℕ) → ◌≡◌ {A = Option (List ℕ)} None (Some xs) → ⊥
none_is_some xs e = cc e

pub unreachable-requires : goal.unreachable-requires
unreachable-requires c =
    let exactly = found_exactly c.self.inside.content.now c.self.invariant in
    let none = ap (option_map (λ x. c.read_arcs.new.arcs.items)) c.in_default.is in
    none_is_some (arcs_in c.self.inside.content.now) (sym none ∙ c.read_arcs.ensures.value ∙ sym exactly)

pub returns : goal.returns
returns c =
    let exactly = found_exactly c.self.inside.content.now c.self.invariant in
    let some = ap (option_map (λ x. c.read_arcs.new.arcs.items)) c.in-Some.is in
    c.from_arcs.ensures ∙ same_Some c.read_arcs.new.arcs.items (arcs_in c.self.inside.content.now) (sym some ∙ c.read_arcs.ensures.value ∙ sym exactly) ∙ c.self.view_is

use Rattle.std.proofs.Common.{◌≡◌, ℕ, List, [], length, nat_eq, Some, refl, sym, ap, subst, ◌∙◌, rules}
use Rattle.snmp_ber.specs.Element.{Begins}
use Rattle.snmp_ber.specs.Reading.{front_of}
use Rattle.snmp_ber.specs.Tlv.{front_at}
use Rattle.snmp_handles.proofs.Sequences.{begun, by_end}
use Rattle.snmp_handles.proofs.sealing.is_sequence.Goals as goal

pub returns-then-whole-eq-SEQUENCE : goal.returns-then-whole-eq-SEQUENCE
returns-then-whole-eq-SEQUENCE c =
    let w = c.args.octets.now in
    let whole = c.in-Ok.whole in
    let read : front_of w ≡ Some (front_at w (length w) whole) = ap front_of (sym (c.whole_slice.ensures w)) ∙ sym c.in-Ok.ensures.exact in
    let tag : whole.tag ≡ 48 = search rules in
    by_end w (front_at w (length w) whole) whole.end (nat_eq whole.end (length w)) tag c.in-Ok.ensures.within refl read refl

pub returns-in-Err : goal.returns-in-Err
returns-in-Err c = λ is.
    let w = c.args.octets.now in
    c.in-Err.ensures.none 48 is.1.0 is.0 [] (subst (λ (z : List ℕ). Begins z 48 is.1.0 is.0 []) (sym (c.whole_slice.ensures w)) (begun w is))

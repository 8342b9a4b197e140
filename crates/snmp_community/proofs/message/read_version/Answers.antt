use Rattle.std.proofs.Common.{◌≡◌, ℕ, List, length, Some, None, refl, sym, subst, arith, inl}
use Rattle.snmp_ber.specs.Reading.{integer32_of}
use Rattle.snmp_ber.specs.Tlv.{front_at}
use Rattle.snmp_message.specs.Reading.{element_in}
use Rattle.snmp_message.proofs.Cuts.{whole_slice}
use Rattle.snmp_community.proofs.Faults.{has_no, has_no_number, no_number_in, within_from}
use Rattle.snmp_community.proofs.message.read_version.Goals as goal

pub returns-in_default-clause-fault : goal.returns-in_default-clause-fault
returns-in_default-clause-fault c =
    let w = c.args.datagram.now in
    inl (has_no 48 w (subst (λ (x : List ℕ). element_in 48 x ≡ None) (whole_slice w) (sym c.in_default.ensures.value)), refl)

pub returns-in_default-read_element-clause-fault : goal.returns-in_default-read_element-clause-fault
returns-in_default-read_element-clause-fault c =
    let w = c.args.datagram.now in
    let whole = c.in-Ok.whole in
    let front = front_at w (length w) whole in
    let read : element_in 48 w ≡ Some front = subst (λ (x : List ℕ). element_in 48 x ≡ Some front) (whole_slice w) (sym c.in-Ok.ensures.value) in
    let none : element_in 2 whole.content.now ≡ None = subst (λ (x : List ℕ). element_in 2 x ≡ None) (sym c.in-Ok.ensures.content) (sym c.in_default-read_element.ensures.value) in
    within_from w front whole.body 0 read (omega (arith, c.in-Ok.ensures.ordered)) (inl (has_no_number whole.content.now none, refl))

pub returns-in_default-read_int-clause-fault : goal.returns-in_default-read_int-clause-fault
returns-in_default-read_int-clause-fault c =
    let w = c.args.datagram.now in
    let whole = c.in-Ok.whole in
    let front = front_at w (length w) whole in
    let read : element_in 48 w ≡ Some front = subst (λ (x : List ℕ). element_in 48 x ≡ Some front) (whole_slice w) (sym c.in-Ok.ensures.value) in
    let version = front_at w whole.end c.in-Ok-read_element.version in
    let inner : element_in 2 whole.content.now ≡ Some version = subst (λ (x : List ℕ). element_in 2 x ≡ Some version) (sym c.in-Ok.ensures.content) (sym c.in-Ok-read_element.ensures.value) in
    let none : integer32_of version.content ≡ None = sym c.in_default-read_int.ensures.exact in
    within_from w front whole.body 0 read (omega (arith, c.in-Ok.ensures.ordered)) (inl (no_number_in whole.content.now version inner none, refl))
